-- Laws of numbers 14, 15 and 16: which of them decides, and at which place.
use Rattle.std.specs.Prelude.{◌≡◌, refl, Bool, true, false, List, ℕ, ◌-◌, ◌^◌, ◌≤◌, ltb, eqb, length, take}
use Rattle.replies.specs.declared.Profile.{Profile}
use Rattle.replies.specs.Replies.{refused_if, or_else}
use Rattle.std.proofs.Common.{sym, ◌∙◌, arith, length-take}
use Rattle.replies.specs.AnswerLaws.{refusal_decides, passed_leaves}
use Rattle.listing.specs.Every.{every}
use Rattle.profiles.specs.Profiles.{length_of, LegalFor, index_for}
use Rattle.read_stream.specs.Reading.{silent_refusal}
use Rattle.read_stream.specs.LimitLaws.{Limits, limit-length, limit_tells}

-- Each is given at the word's first cell.
pub silent_place : (p : Profile) (w : List ℕ) → (silent_refusal p w).place ≡ 0
unfolding silent_refusal or_else
silent_place p w = go (every (λ c. eqb c 0) w) (ltb (2 ^ length_of p) (index_for p w)) (every (λ c. eqb c (p.q - 1)) w)
  where
    go : (a b c : Bool) → (or_else (refused_if a 14) (or_else (refused_if b 15) (refused_if c 16))).place ≡ 0
    go true b c = refl
    go false true c = refl
    go false false true = refl
    go false false false = refl

-- A part that begins with a legal word has its cells.
pub legal_inside : (p : Profile) (part : List ℕ) → LegalFor p (take p.m part) → p.m ≤ length part
legal_inside p part legal = omega (arith, legal.cells, length-take p.m part)

-- A limit is as long as a legal word.
pub same_length : {p : Profile} (limit word : List ℕ) → Limits p limit → LegalFor p word → length limit ≡ length word
same_length limit word limits legal = limit-length limits ∙ sym legal.cells

-- What the tests of a word go by.
pub ruleset silent_tests = (refusal_decides, passed_leaves, limit_tells, same_length)
