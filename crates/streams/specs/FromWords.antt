-- What is said of a stream from each of its words on: a fact of each part, and the lowest number that a test gives.
use Rattle.std.specs.Prelude.{◌≡◌, List, ℕ, zero, suc, ◌+◌, ◌*◌, ◌≤◌, ◌<◌, drop}
use Rattle.replies.specs.declared.Reply.{Reply}
use Rattle.replies.specs.declared.Profile.{Profile}
use Rattle.replies.specs.Replies.{refused}
use Rattle.profiles.specs.Profiles.{stride}

-- A fact of the part from each of n words on.
abbrev pub FromEach : Profile → (List ℕ → Type 0) → ℕ → List ℕ → Type 0
FromEach p fact zero part = Unit
FromEach p fact (suc n) part = fact part × FromEach p fact n (drop (stride p) part)

-- The part of a stream from word k on.
abbrev pub part_from : Profile → ℕ → List ℕ → List ℕ
part_from p k cells = drop (k * stride p) cells

-- A reply is the lowest number that a test gives from any of n words on, with the first place: it is the test's reply from one of the words, no
-- other word gives a lower number, and no earlier word the same.
pub record LowestFirst (p : Profile) (test : List ℕ → Reply) (n place : ℕ) (cells : List ℕ) (r : Reply) : Type 0 where
  pub word : ℕ
  pub within : word < n
  pub given : r ≡ refused (test (part_from p word cells)).number ((test (part_from p word cells)).place + (place + word * stride p))
  pub least : (k : ℕ) → k < n → ((test (part_from p k cells)).number ≡ 0 → ⊥) → r.number ≤ (test (part_from p k cells)).number
  pub earliest : (k : ℕ) → k < word → (test (part_from p k cells)).number ≡ r.number → ⊥
