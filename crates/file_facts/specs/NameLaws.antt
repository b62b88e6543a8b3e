-- Laws of the names that the system takes: with zeros behind them they end in 0.
use Rattle.std.specs.Prelude.{◌≡◌, refl, true, List, ◌++◌, ℕ, zero, suc, ◌+◌, ◌-◌, ◌<◌, eqb, ltb, length, replicate, take, drop, get_or}
use Rattle.std.proofs.Common.{sym, ap, ◌∙◌, arith, get_or-append-add, ltb-true}
use Rattle.std.proofs.Math.Bool.{and-eq-true_iff}
use Rattle.std.proofs.Math.Nat.{sub-zero, suc-sub-suc}
use Rattle.std.proofs.lemmas.List.{get_or-replicate}
use Rattle.std.proofs.Math.Seq.{take-length}
use Rattle.file_facts.specs.Names.{is_name, first_zero, ended_name, Ended, slice}

-- The part of a list from its start to its end is the list.
pub slice_whole : (l : List ℕ) → slice 0 (length l) l ≡ l
slice_whole l = take-length l

-- Zeros without some of them are the others.
drop_zeros : (n m : ℕ) → drop {A = ℕ} n (replicate m 0) ≡ replicate (m - n) 0
drop_zeros zero m = rw sub-zero refl
drop_zeros (suc n) zero = let none : 0 - suc n ≡ 0 = omega arith in rw none refl
drop_zeros (suc n) (suc m) = rw suc-sub-suc (drop_zeros n m)

-- A name that is put over the start of 4096 zeros has zeros behind it.
pub name_over_zeros : (name : List ℕ)
    → take (length name) name ++ drop (length name) (replicate 4096 0) ≡ ended_name name
name_over_zeros name = rw (take-length, drop_zeros) refl

-- A name has at most 4095 bytes.
pub name_short : (name : List ℕ) → is_name name ≡ true → length name < 4096
name_short name is =
    let both = (and-eq-true_iff (ltb (length name) 4096) (eqb (first_zero name) (length name))).0 is in
    ltb-true (length name) 4096 both.0

-- The last of the 4096 bytes of a name with zeros behind it is 0.
pub name_ended : (name : List ℕ) → is_name name ≡ true → Ended (ended_name name)
name_ended name is =
    let short = name_short name is in
    let last : length name + (4095 - length name) ≡ 4095 = omega (arith, short) in
    let zeros : List ℕ = replicate (4096 - length name) 0 in
    let behind = get_or-append-add name zeros (4095 - length name) 1 in
    let zero-there = get_or-replicate {A = ℕ} (4096 - length name) (4095 - length name) 0 1 (omega (arith, short)) in
    ap (λ (i : ℕ). get_or (name ++ zeros) i 1) (sym last) ∙ behind ∙ zero-there
