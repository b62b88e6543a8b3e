-- What the first place at which a test of cells holds says of a refusal.
use Rattle.std.specs.Prelude.{◌≡◌, refl, Bool, true, false, cond, Option, Some, None, List, ℕ, ◌≤◌, ◌<◌, ltb, length, get_or, position}
use Rattle.std.specs.List.{position_or_len}
use Rattle.std.specs.Option.{MatchOption}
use Rattle.std.proofs.Common.{sym, arith, ltb-false}
use Rattle.std.proofs.lemmas.List.Sums.{fails_before_first}
use Rattle.std.proofs.lemmas.List.Quantifiers.{position-Some}
use Rattle.replies.specs.Replies.{done, refused, refused_at_first}
use Rattle.replies.specs.ReplyLaws.{Nowhere, first_refused, none_refused}

-- The first of n places at which a test holds, or that there is none.
abbrev pub FirstAt : (ℕ → Bool) → ℕ → Option ℕ → Type 0
FirstAt test n found = MatchOption found (Nowhere test 0 n) (λ i. (0 ≤ i) × (i < n) × (test i ≡ true) × Nowhere test 0 i)

module _ (test : ℕ → Bool) (cells : List ℕ) where
  -- Where there is no first place the test holds at none.
  pub passes_nowhere : position test cells ≡ None → (k : ℕ) → k < length cells → test (get_or cells k 0) ≡ false
  passes_nowhere e k h = go (ltb (position_or_len test cells) (length cells)) refl e
    where
      go : (b : Bool) → ltb (position_or_len test cells) (length cells) ≡ b → cond b (Some (position_or_len test cells)) None ≡ None
          → test (get_or cells k 0) ≡ false
      go true s f = absurd (cc)
      go false s f = fails_before_first test cells k 0 (omega (arith, ltb-false (position_or_len test cells) (length cells) s))

  -- Refused at the first place, ..
  pub found_refused : (number place : ℕ) → position test cells ≡ Some place → refused number place ≡ refused_at_first (λ i. test (get_or cells i 0)) (length cells) number
  found_refused number place e =
      let p = position-Some test cells place 0 e in
      sym (first_refused (λ i. test (get_or cells i 0)) (length cells) number place (λ k l h. p.2 k h) p.1 p.0)

  -- .. and not where there is none.
  pub none_found : (number : ℕ) → position test cells ≡ None → done ≡ refused_at_first (λ i. test (get_or cells i 0)) (length cells) number
  none_found number e = sym (none_refused (λ i. test (get_or cells i 0)) (length cells) number (λ k l h. passes_nowhere e k h))
