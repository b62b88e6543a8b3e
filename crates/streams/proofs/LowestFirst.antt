-- What a test throughout a stream gives is the lowest number that applies to any of its words, with the first place.
use Rattle.std.specs.Prelude.{◌≡◌, refl, Bool, true, false, List, ℕ, zero, suc, ◌+◌, ◌*◌, ◌≤◌, ◌<◌, leb, drop}
use Rattle.std.proofs.Common.{sym, ap, ◌∙◌, suc-mul, zero-mul, add-zero, add_comm, le_refl, le_trans, arith, drop-drop, eqb-true, leb-true, leb-false}
use Rattle.std.proofs.lemmas.Bool.{eqb-false}
use Rattle.replies.specs.declared.Reply.{Reply}
use Rattle.replies.specs.declared.Profile.{Profile}
use Rattle.replies.specs.Replies.{done, is_done, refused, moved_by, lowest}
use Rattle.profiles.specs.Profiles.{stride}
use Rattle.streams.specs.Streams.{throughout}
use Rattle.streams.proofs.EachLaws.{each_done}
use Rattle.streams.specs.FromWords.{FromEach, part_from, LowestFirst}

part_further : (p : Profile) (k : ℕ) (cells : List ℕ) → part_from p k (drop (stride p) cells) ≡ part_from p (suc k) cells
part_further p k cells = rw (suc-mul, add_comm (k * stride p) (stride p)) (drop-drop (k * stride p) (stride p) cells)

part_first : (p : Profile) (cells : List ℕ) → part_from p 0 cells ≡ cells
part_first p cells = rw zero-mul

each_from : (p : Profile) (test : List ℕ → Reply) (n : ℕ) (cells : List ℕ) → FromEach p (λ t. (test t).number ≡ 0) n cells → (k : ℕ) → k < n
    → (test (part_from p k cells)).number ≡ 0
each_from p test zero cells each k l = absurd (omega arith)
each_from p test (suc n) cells each zero l = rw part_first each.0
each_from p test (suc n) cells each (suc k) l = rw part_further at (each_from p test n (drop (stride p) cells) each.1 k (omega arith))

-- A word more before the others: where its own reply is not the one, ..
further : (p : Profile) (test : List ℕ → Reply) (n place : ℕ) (cells : List ℕ) (r : Reply)
    → (((test cells).number ≡ 0 → ⊥) → r.number < (test cells).number) → ((test cells).number ≡ r.number → ⊥)
    → LowestFirst p test n (place + stride p) (drop (stride p) cells) r → LowestFirst p test (suc n) place cells r
further p test n place cells r lower other l = record {
  word = suc l.word;
  within = let w = l.within in omega arith;
  given = l.given ∙ rw (part_further, suc-mul) (ap (refused _) (omega arith));
  least = least;
  earliest = earliest;
}
  where
    least : (k : ℕ) → k < suc n → ((test (part_from p k cells)).number ≡ 0 → ⊥) → r.number ≤ (test (part_from p k cells)).number
    least zero h some = rw part_first (let b = lower (rw part_first at some) in omega arith)
    least (suc k) h some = rw (← (part_further p k cells)) (l.least k (omega arith) (rw (← (part_further p k cells)) at some))

    earliest : (k : ℕ) → k < suc l.word → (test (part_from p k cells)).number ≡ r.number → ⊥
    earliest zero h e = other (rw part_first at e)
    earliest (suc k) h e = l.earliest k (omega arith) (rw (← (part_further p k cells)) at e)

-- .. and where it is.
here : (p : Profile) (test : List ℕ → Reply) (n place : ℕ) (cells : List ℕ)
    → ((k : ℕ) → k < n → ((test (part_from p (suc k) cells)).number ≡ 0 → ⊥) → (test cells).number ≤ (test (part_from p (suc k) cells)).number)
    → LowestFirst p test (suc n) place cells (refused (test cells).number ((test cells).place + place))
here p test n place cells low = record {
  word = 0;
  within = omega arith;
  given = rw (part_first, zero-mul, add-zero);
  least = least;
  earliest = λ k h. absurd (omega arith);
}
  where
    least : (k : ℕ) → k < suc n → ((test (part_from p k cells)).number ≡ 0 → ⊥) → (test cells).number ≤ (test (part_from p k cells)).number
    least zero h some = rw part_first (le_refl _)
    least (suc k) h some = low k (omega arith) some

moved_not : (places : ℕ) (r : Reply) → is_done r ≡ true → moved_by places r ≡ done
unfolding moved_by
moved_not places r e = rw e

moved_on : (places : ℕ) (r : Reply) → is_done r ≡ false → moved_by places r ≡ refused r.number (r.place + places)
unfolding moved_by
moved_on places r e = rw e

-- What is given throughout a stream is the lowest number that applies, with the first place; nothing is given where none applies (`each_done`).
pub lowest_first : (p : Profile) (test : List ℕ → Reply) (n place : ℕ) (cells : List ℕ) → ((throughout p test n place cells).number ≡ 0 → ⊥)
    → LowestFirst p test n place cells (throughout p test n place cells)
unfolding throughout lowest
lowest_first p test zero place cells some = absurd (some refl)
lowest_first p test (suc n) place cells some =
    go (is_done (test cells)) refl (is_done rest) refl (leb (test cells).number rest.number) refl some (lowest_first p test n (place + stride p) (drop (stride p) cells))
  where
    rest : Reply
    rest = throughout p test n (place + stride p) (drop (stride p) cells)

    go : (a : Bool) → is_done (test cells) ≡ a → (b : Bool) → is_done rest ≡ b → (c : Bool) → leb (test cells).number rest.number ≡ c
        → ((lowest (moved_by place (test cells)) rest).number ≡ 0 → ⊥)
        → ((rest.number ≡ 0 → ⊥) → LowestFirst p test n (place + stride p) (drop (stride p) cells) rest)
        → LowestFirst p test (suc n) place cells (lowest (moved_by place (test cells)) rest)
    go true e b f c g some more =
        let over = rw (moved_not place (test cells) e) at some in
        rw (moved_not place (test cells) e)
        (further p test n place cells rest (λ other. absurd (other (eqb-true _ 0 e))) (λ same. over (sym same ∙ eqb-true _ 0 e)) (more over))
    go false e true f c g some more =
        let none = each_from p test n _ (each_done p test n _ _ (eqb-true _ 0 f)) in
        rw (moved_on place (test cells) e, e, f) (here p test n place cells (λ k l other. absurd (other (rw part_further at (none k l)))))
    go false e false f true g some more =
        let others = (more (eqb-false _ 0 f)).least in
        let low = leb-true _ _ g in
        rw (moved_on place (test cells) e, e, f, g)
        (here p test n place cells (λ k l other. rw (← (part_further p k cells)) (le_trans low (others k l (rw (← (part_further p k cells)) at other)))))
    go false e false f false g some more =
        let low = leb-false _ _ g in
        rw (moved_on place (test cells) e, e, f, g) (further p test n place cells rest (λ other. low) (λ same. omega arith) (more (eqb-false _ 0 f)))
