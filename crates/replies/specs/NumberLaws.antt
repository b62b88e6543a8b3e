-- How high the number of a reply can be.
use Rattle.std.specs.Prelude.{◌≡◌, refl, Bool, true, false, cond, ◌||◌, ℕ, ◌≤◌, ltb}
use Rattle.std.proofs.Common.{le_refl, arith}
use Rattle.replies.specs.declared.Reply.{Reply}
use Rattle.replies.specs.declared.Profile.{Profile}
use Rattle.replies.specs.Replies.{is_done, or_else, outside_refusal, profile_refusal}

-- What a test picks has a property where each side has it in its case.
pub picked : {A : Type 0} (P : A → Type 0) (t : Bool) {a b : A} → (t ≡ true → P a) → (t ≡ false → P b) → P (cond t a b)
picked P true f g = f refl
picked P false f g = g refl

-- A number outside its range is refused with the number handed in, and none is higher.
outside_number : (low high n number : ℕ) → (outside_refusal low high n number).number ≤ number
unfolding outside_refusal
outside_number low high n number = picked (λ (r : Reply). r.number ≤ number) (ltb n low || ltb high n) (λ e. le_refl number) (λ e. omega arith)

-- Two tests refuse with no higher number than each of them may.
or_else_number : (a b : Reply) (most : ℕ) → a.number ≤ most → b.number ≤ most → (or_else a b).number ≤ most
unfolding or_else
or_else_number a b most l h = picked (λ (r : Reply). r.number ≤ most) (is_done a) (λ e. h) (λ e. l)

-- A profile is refused with a number of at most 3.
pub profile_number : (p : Profile) → (profile_refusal p).number ≤ 3
unfolding profile_refusal
profile_number p =
    let levels = outside_number 2 32 p.q 1 in
    let cells = outside_number 1 128 p.m 2 in
    or_else_number _ _ 3 (omega arith) (or_else_number _ _ 3 (omega arith) (outside_number 1 8 p.x 3))
