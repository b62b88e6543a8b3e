-- Laws of the rate: what is known of one that is not refused, and the outcome.
use Rattle.std.specs.Prelude.{Ok, Err, ◌≡◌, refl, List, ℕ, ◌+◌, ◌*◌, ◌≤◌, ◌<◌}
use Rattle.std.proofs.Common.{sym, ap, le_of_lt, lt_of_le_of_lt, mul-le-mul, arith, lit<, ltb-false}
use Rattle.limbs.specs.Limbs.{base}
use Rattle.messages.specs.Carrying.{CarriesMessages}
use Rattle.messages.specs.CarryingLaws.{carries_messages}
use Rattle.messages.specs.LengthLaws.{length_below}
use Rattle.replies.specs.AnswerLaws.{not_done}
use Rattle.replies.specs.Answers.{refusal_reply}
use Rattle.replies.specs.declared.Refusal.{Refusal}
use Rattle.replies.specs.declared.Reply.{Reply}
use Rattle.replies.specs.declared.Profile.{Profile}
use Rattle.replies.specs.Replies.{done}
use Rattle.replies.specs.ReplyLaws.{both_done, test_failed}
use Rattle.profiles.specs.Profiles.{length_of, stride}
use Rattle.catalogue.specs.Given.{rated_of}
use Rattle.catalogue.specs.Rating.{rate_refusal, rating}

-- What is known of a rate that is not refused: what is worked out fits.
pub record Rates (p : Profile) (table : List ℕ) (n : ℕ) : Type 0 where
  pub ready : CarriesMessages p table
  pub bits : n * length_of p < base
  pub width : p.m + p.x < base
  pub cells : n * stride p < base

small_product : {n k : ℕ} → n ≤ 256 → k ≤ 640 → n * k < base
small_product l h = lt_of_le_of_lt (mul-le-mul l h) (lit< {m = 256 * 640} {n = base} tt)

pub rate_not_refused : (p : Profile) (table : List ℕ) (n : ℕ) → done ≡ rate_refusal p table n → Rates p table n
unfolding rate_refusal
rate_not_refused p table n e =
    let both = both_done _ _ (ap (λ (r : Reply). r.number) (sym e)) in
    let ready = carries_messages p table refl both.first in
    let range = ready.in_range in
    let few = ltb-false 256 n (test_failed _ 6 both.second) in
    let width : p.m + p.x ≤ 640 = omega (arith, range.length.most, range.reach.most) in
    record {
      ready = ready;
      bits = small_product few (le_of_lt (length_below range ready.carries));
      width = lt_of_le_of_lt width (lit< {m = 640} {n = base} tt);
      cells = small_product few width;
    }

-- So a rate can be worked out.
module _ (p : Profile) (table : List ℕ) (n : ℕ) (e : done ≡ rate_refusal p table n) where
  pub rate_ready : CarriesMessages p table
  rate_ready = (rate_not_refused p table n e).ready

  pub rate_bits : {s : ℕ} → s ≡ length_of p → n * s < base
  rate_bits same = rw same (rate_not_refused p table n e).bits

  pub rate_width : p.m + p.x < base
  rate_width = (rate_not_refused p table n e).width

  pub rate_cells : n * (p.m + p.x) < base
  rate_cells = (rate_not_refused p table n e).cells

  pub rate_given : {s : ℕ} → s ≡ length_of p → rated_of (Ok (record { bits = n * s; cells = n * stride p })) ≡ rating p table n
  unfolding rating
  rate_given same = rw (← e, same)

-- The outcome of a rate that is refused.
pub rate_refused : (p : Profile) (table : List ℕ) (n : ℕ) (r : Refusal) → refusal_reply r ≡ rate_refusal p table n → rated_of (Err r) ≡ rating p table n
unfolding rating
rate_refused p table n r e = rw (← e, not_done r.why)

-- What the call goes by.
pub ruleset rate_calls = (rate_ready, rate_bits, rate_width, rate_cells, rate_refused)
