-- Laws that stood in specs/OrderLaws, which no proof rests on now.
use Rattle.std.specs.Prelude.{◌≡◌, List, drop}
use Rattle.std.proofs.Common.{sym, arith, drop-drop}
use Prim.Native.Nat.{ℕ, ◌+◌, ◌-◌, ◌≤◌, ◌<◌}
use Rattle.std.proofs.Math.ListN.{length, length-drop}
use Rattle.replies.specs.declared.Profile.{Profile}
use Rattle.replies.specs.Replies.{done}
use Rattle.replies.specs.Ranges.{InRange}
use Rattle.profiles.specs.Profiles.{stride, stream_length}
use Rattle.streams.specs.Streams.{words_in, bridge_refusal}
use Rattle.streams.specs.FitLaws.{rest_of}
use Rattle.streams.specs.BridgeLaws.{RightCells, right_from, none_wrong}
use Rattle.streams.specs.PartLaws.{rest_exact}
use Rattle.streams.specs.OrderLaws.{RightBridges, BridgesBefore}

module _ (p : Profile) (range : InRange p) where
  -- A right bridge and right bridges behind it.
  bridges_step : (part : List ℕ) → length part ≡ stream_length p (words_in p (length part)) → p.m < length part → bridge_refusal p part ≡ done
      → RightBridges p (drop (stride p) part) → RightBridges p part
  unfolding RightBridges
  bridges_step part exact more here behind = rw (rest_of p (length part) range exact more).words (here, rw length-drop at behind)

module _ (p : Profile) (cells : List ℕ) (at : ℕ) (range : InRange p) (before : BridgesBefore p cells at) where
  goes_on : at < length cells → stride p < length (drop (at - p.m) cells)
  goes_on inside =
      let start = before.start in
      (rest_of p _ range before.exact (rw length-drop (omega arith))).within

  -- .. with it there is one more, ..
  pub bridges_more : (r : ℕ) → at < length cells → RightCells p cells at r → p.x ≤ r → BridgesBefore p cells (at + stride p)
  bridges_more r inside right all =
      let start = before.start in
      let part = drop (at - p.m) cells in
      let more : p.m < length part = omega (arith, goes_on inside) in
      let back : at - p.m + p.m ≡ at = omega arith in
      let next : at + stride p - p.m ≡ at - p.m + stride p = omega arith in
      let here = none_wrong p part range (goes_on inside) r (right_from p cells (at - p.m) r range.length.least (rw back right)) all in
      let rest = drop-drop (stride p) (at - p.m) cells in
      record {
        start = omega arith;
        exact = rw (next, ← rest) (rest_exact p part range before.exact more);
        carried = rw (next, ← rest) (λ behind. before.carried (bridges_step p range part before.exact more (sym here) behind));
      }
