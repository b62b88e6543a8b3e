-- Laws that stood in specs/CopyLaws, which no proof rests on now.
use Rattle.std.specs.Prelude.{◌≡◌, ℕ, suc, ◌+◌, ◌-◌, ◌≤◌, ◌<◌, length, take, drop, get_or, set}
use Rattle.std.proofs.Common.{◌∙◌, add-one, arith, length-drop, drop-cons}
use mathlib.Core.List.{List, ◌++◌, append_assoc, reverse-cons}
use Rattle.std.proofs.lemmas.List.{length-reverse, set_at}
use Rattle.std.proofs.Math.Seq.{take-length, drop-length, append_snoc, paste, paste-suc}
use Rattle.patterns.specs.Stream.{turned}

-- One cell more is copied in.
pub copied_more : (from out : List ℕ) (at i : ℕ) {now : List ℕ} → i < length from → at + length from ≤ length out → now ≡ paste out at from i
    → set now (at + i) (get_or from i 0) ≡ paste out at from (i + 1)
copied_more from out at i more room e = rw (e, add-one) (paste-suc out at from i 0 (omega arith) more)

-- All are copied in.
pub all_copied : (from out : List ℕ) (at i : ℕ) {now : List ℕ} → i ≡ length from → now ≡ paste out at from i
    → now ≡ take at out ++ (from ++ drop (at + length from) out)
all_copied from out at i end e = e ∙ rw (end, take-length, append_assoc)

-- The cells from `left` on, last first, in place of the first i of a lent list.
abbrev pub turned_from : List ℕ → ℕ → ℕ → List ℕ → List ℕ
turned_from cells left i lent = turned (drop left cells) ++ drop i lent

-- No cell is turned yet.
pub none_turned : (cells lent : List ℕ) → lent ≡ turned_from cells (length cells) 0 lent
none_turned cells lent = rw drop-length

-- One cell more is turned.
pub turned_more : (cells lent : List ℕ) (left i : ℕ) {now : List ℕ} → 0 < left → i + left ≡ length cells → length cells ≤ length lent
    → now ≡ turned_from cells left i lent → set now i (get_or cells (left - 1) 0) ≡ turned_from cells (left - 1) (i + 1) lent
turned_more cells lent left i some all room e =
    let back : suc (left - 1) ≡ left = omega arith in
    let next = rw back at (drop-cons cells (left - 1) 0 (omega arith)) in
    let over = drop-cons lent i 0 (omega arith) in
    let front : length (turned (drop left cells)) ≡ i = rw (length-reverse, length-drop) (omega arith) in
    rw (e, over, next, reverse-cons, append_snoc, add-one) (set_at (turned (drop left cells)) _ _ _ i front)

-- All are turned.
pub all_turned : (cells lent : List ℕ) (left i : ℕ) {now : List ℕ} → left ≡ 0 → i + left ≡ length cells → now ≡ turned_from cells left i lent
    → now ≡ turned cells ++ drop (length cells) lent
all_turned cells lent left i end all e =
    let past : i ≡ length cells = omega arith in
    e ∙ rw (end, past)
