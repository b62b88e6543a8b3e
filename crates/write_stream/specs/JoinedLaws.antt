-- Laws of a word written behind a stream: with the bridge between them, the two are joined.
use Rattle.std.specs.Prelude.{◌≡◌, List, ◌++◌, ℕ, ◌+◌, ◌-◌, ◌≤◌, ◌<◌, length, take, drop, get_or}
use Rattle.std.proofs.Common.{ap, ◌∙◌, arith, length-append, length-take, length-drop}
use Rattle.patterns.specs.Pattern.{Patterns}
use Rattle.patterns.specs.Stream.{bridge, joined}
use Rattle.streams.specs.BesideLaws.{cells_behind, bridge_between}

module _ (S : Patterns) where
  -- A word of m cells written x cells behind a stream of n cells, and then the bridge, join the stream and the word.
  pub next_cells : (a w lent : List ℕ) {at n m : ℕ} {out worded after : List ℕ} → length a ≡ n → length w ≡ m → 0 < n → 0 < m → at ≡ n + S.reach
      → at + m ≤ length out → out ≡ a ++ drop n lent → worded ≡ take at out ++ (w ++ drop (at + m) out)
      → after ≡ take (at - S.reach) worded ++ (bridge S (get_or worded (at - S.reach - 1) 0) (get_or worded (at - S.reach + S.reach) 0) ++ drop (at - S.reach + S.reach) worded)
      → after ≡ joined S a w ++ drop (at + m) lent
  next_cells a w lent {at} {n} {m} {out} long word some cells place room e f g =
      let start : at - S.reach ≡ length a = omega arith in
      let front : out ≡ a ++ drop (length a) lent = rw long e in
      let gap = take S.reach (drop (length a) lent) in
      let wide : length gap ≡ S.reach = simp (length-take, length-drop) (omega (arith, simp (length-append, length-drop) at (ap length e))) in
      let behind = rw (place, ← long, ← word) at f ∙ cells_behind a w lent S.reach front in
      rw (place, ← long, ← word) (rw (start, behind) at g ∙ bridge_between S a w gap _ (omega arith) (omega arith) wide)
