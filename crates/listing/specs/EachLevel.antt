-- A test that each of some levels passes holds of any one of them.
use Rattle.std.specs.Prelude.{◌≡◌, Bool, true, ℕ, zero, suc, ◌+◌, ◌≤◌, ◌<◌}
use Rattle.std.proofs.Math.Bool.{and-eq-true_iff}
use Rattle.std.proofs.Common.{⊎_elim, eq-or-lt_of_le, arith}
use Rattle.listing.specs.Every.{every}
use Rattle.listing.specs.Listing.{levels_from}

pub each_level : (test : ℕ → Bool) (c n i : ℕ) → every test (levels_from c n) ≡ true → c ≤ i → i < c + n → test i ≡ true
each_level test c zero i e l h = absurd (omega arith)
each_level test c (suc n) i e l h =
    let both = (and-eq-true_iff (test c) _).0 e in
    ⊎_elim (λ (s : c ≡ i). rw (← s) both.0) (λ (s : c < i). each_level test (suc c) n i both.1 s (omega arith)) (eq-or-lt_of_le l)
