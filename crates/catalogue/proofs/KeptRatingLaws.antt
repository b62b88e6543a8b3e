-- Laws that stood in specs/RatingLaws, which no proof rests on now.
use Rattle.std.specs.Prelude.{◌≡◌, refl, List, ℕ, ◌+◌, ◌*◌, ◌≤◌, ◌<◌}
use Rattle.std.proofs.Common.{le_of_lt, lt_of_le_of_lt, mul-le-mul, arith, lit<, ltb-false, eq-eqb, ne_eqb}
use Rattle.limbs.specs.Limbs.{base}
use Rattle.messages.specs.CarryingLaws.{carries_messages}
use Rattle.messages.specs.LengthLaws.{length_below}
use Rattle.replies.specs.declared.Reply.{Reply}
use Rattle.replies.specs.declared.Profile.{Profile}
use Rattle.replies.specs.Replies.{done}
use Rattle.replies.specs.ReplyLaws.{both_done, test_failed}
use Rattle.profiles.specs.Profiles.{length_of, stride}
use Rattle.catalogue.specs.Rating.{rate_refusal, rating}
use Rattle.catalogue.specs.RatingLaws.{Rates}

small_product : {n k : ℕ} → n ≤ 256 → k ≤ 640 → n * k < base
small_product l h = lt_of_le_of_lt (mul-le-mul l h) (lit< {m = 256 * 640} {n = base} tt)

pub rate_not_refused : (p : Profile) (table : List ℕ) (n : ℕ) {r : Reply} → r ≡ rate_refusal p table n → r.number ≡ 0 → Rates p table n
unfolding rate_refusal
rate_not_refused p table n e none =
    let both = both_done _ _ (rw e at none) in
    let ready = carries_messages p table refl both.first in
    let range = ready.in_range in
    let few = ltb-false 256 n (test_failed _ 6 both.second) in
    let width : p.m + p.x ≤ 640 = omega (arith, range.length.most, range.reach.most) in
    record {
      ready = ready;
      bits = small_product few (le_of_lt (length_below range ready.carries));
      width = lt_of_le_of_lt width (lit< {m = 640} {n = base} tt);
      cells = small_product few width;
    }

-- The outcome of a rate that is refused, and of one that is not.
pub rate_refused : (p : Profile) (table : List ℕ) (n : ℕ) {r : Reply} → r ≡ rate_refusal p table n → (r.number ≡ 0 → ⊥)
    → record { reply = r; bits = 0; cells = 0 } ≡ rating p table n
unfolding rating
rate_refused p table n {r} e some = rw (← e, ne_eqb r.number 0 some)

pub rate_given : (p : Profile) (table : List ℕ) (n : ℕ) {r : Reply} {s : ℕ} → r ≡ rate_refusal p table n → r.number ≡ 0 → s ≡ length_of p
    → record { reply = done; bits = n * s; cells = n * stride p } ≡ rating p table n
unfolding rating
rate_given p table n {r} e none same = rw (← e, eq-eqb r.number 0 none, same)
