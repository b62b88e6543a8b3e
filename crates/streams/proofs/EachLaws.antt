-- A test throughout a stream and the part from each of its words on.
use Rattle.std.specs.Prelude.{◌≡◌, refl, List, ℕ, zero, suc, ◌+◌, drop}
use Rattle.std.proofs.Common.{eq-eqb}
use Rattle.replies.specs.declared.Reply.{Reply}
use Rattle.replies.specs.declared.Profile.{Profile}
use Rattle.replies.specs.Replies.{done, moved_by}
use Rattle.replies.specs.LowestLaws.{lowest_of_done, lowest_done, moved_done}
use Rattle.profiles.specs.Profiles.{stride}
use Rattle.streams.specs.Streams.{throughout}
use Rattle.streams.specs.FromWords.{FromEach}

-- A test throughout n words is done where it is done on the part from each of them on, and only there.
pub throughout_done : (p : Profile) (test : List ℕ → Reply) (n place : ℕ) (part : List ℕ) → FromEach p (λ t. (test t).number ≡ 0) n part
    → throughout p test n place part ≡ done
unfolding throughout moved_by
throughout_done p test zero place part each = refl
throughout_done p test (suc n) place part each =
    let rest = throughout_done p test n (place + stride p) (drop (stride p) part) each.1 in
    rw (eq-eqb (test part).number 0 each.0) (lowest_of_done done _ refl rest)

pub each_done : (p : Profile) (test : List ℕ → Reply) (n place : ℕ) (part : List ℕ) → (throughout p test n place part).number ≡ 0
    → FromEach p (λ t. (test t).number ≡ 0) n part
unfolding throughout
each_done p test zero place part e = tt
each_done p test (suc n) place part e =
    let both = lowest_done _ _ e in
    (moved_done place (test part) both.first, each_done p test n (place + stride p) (drop (stride p) part) both.second)
