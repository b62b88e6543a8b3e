-- Laws of the bridges of a stream in order.
use Rattle.std.specs.Prelude.{◌≡◌, false, Option, Some, None, List, drop}
use Rattle.std.proofs.Math.Path.{refl}
use Rattle.std.proofs.Common.{sym, le_refl, arith, drop-drop}
use Rattle.std.specs.Option.{is_some}
use Prim.Native.Nat.{ℕ, zero, suc, ◌+◌, ◌-◌, ◌≤◌, ◌<◌}
use Rattle.std.proofs.Math.ListN.{length, length-drop}
use Rattle.replies.specs.declared.Profile.{Profile}
use Rattle.replies.specs.Replies.{done}
use Rattle.replies.specs.Ranges.{InRange}
use Rattle.profiles.specs.Profiles.{stride, stream_length}
use Rattle.streams.specs.Streams.{words_in, bridge_refusal}
use Rattle.streams.specs.FitLaws.{no_word, last_word, rest_of}
use Rattle.streams.specs.BridgeLaws.{WrongAt, right_from, none_wrong, no_bridge}
use Rattle.streams.specs.PartLaws.{rest_exact}
use Rattle.streams.specs.FromWords.{FromEach}

-- The bridge behind each word of a part is right.
unfoldable pub RightBridges : Profile → List ℕ → Type 0
RightBridges p part = FromEach p (λ t. bridge_refusal p t ≡ done) (words_in p (length part)) part

module _ (p : Profile) (range : InRange p) where
  -- A part that is no more than one word has no bridge.
  bridges_last : (part : List ℕ) → length part ≡ stream_length p (words_in p (length part)) → length part ≤ p.m → RightBridges p part
  unfolding RightBridges
  bridges_last part exact last = go (length part) refl
    where
      go : (n : ℕ) → length part ≡ n → RightBridges p part
      go zero e = rw (e, no_word p range) tt
      go (suc n) e = rw (last_word p (length part) range exact (omega arith) last).0 (no_bridge p part last, tt)

  -- A right bridge and right bridges behind it.
  bridges_step : (part : List ℕ) → length part ≡ stream_length p (words_in p (length part)) → p.m < length part → bridge_refusal p part ≡ done
      → RightBridges p (drop (stride p) part) → RightBridges p part
  unfolding RightBridges
  bridges_step part exact more here behind = rw (rest_of p (length part) range exact more).words (here, rw length-drop at behind)

-- The bridges before a place are right: where those of the part from the word before the place on are right, all are.
pub record BridgesBefore (p : Profile) (cells : List ℕ) (at : ℕ) : Type 0 where
  pub start : p.m ≤ at
  pub exact : length (drop (at - p.m) cells) ≡ stream_length p (words_in p (length (drop (at - p.m) cells)))
  pub carried : RightBridges p (drop (at - p.m) cells) → RightBridges p cells

-- There is none before the first, ..
pub bridges_none : (p : Profile) (cells : List ℕ) → length cells ≡ stream_length p (words_in p (length cells)) → BridgesBefore p cells p.m
bridges_none p cells exact =
    let none : p.m - p.m ≡ 0 = omega arith in
    record { start = omega arith; exact = rw none exact; carried = rw none (λ all. all) }

module _ (p : Profile) (cells : List ℕ) (at : ℕ) (range : InRange p) (before : BridgesBefore p cells at) where
  goes_on : at < length cells → stride p < length (drop (at - p.m) cells)
  goes_on inside =
      let start = before.start in
      (rest_of p _ range before.exact (rw length-drop (omega arith))).within

  -- .. at a place among the cells stands a whole one, ..
  pub bridge_inside : at < length cells → at + p.x < length cells
  bridge_inside inside = omega (arith, before.start, rw length-drop at (goes_on inside))

  -- .. with it there is one more, ..
  pub bridges_more : (found : Option ℕ) → at < length cells → WrongAt p cells at found → is_some found ≡ false → BridgesBefore p cells (at + stride p)
  bridges_more (Some r) inside right none = absurd (cc)
  bridges_more None inside right none =
      let start = before.start in
      let part = drop (at - p.m) cells in
      let more : p.m < length part = omega (arith, goes_on inside) in
      let back : at - p.m + p.m ≡ at = omega arith in
      let next : at + stride p - p.m ≡ at - p.m + stride p = omega arith in
      let here = none_wrong p part range (goes_on inside) p.x (right_from p cells (at - p.m) p.x range.length.least (rw back right)) (le_refl p.x) in
      let rest = drop-drop (stride p) (at - p.m) cells in
      record {
        start = omega arith;
        exact = rw (next, ← rest) (rest_exact p part range before.exact more);
        carried = rw (next, ← rest) (λ behind. before.carried (bridges_step p range part before.exact more (sym here) behind));
      }

  -- .. and behind the last cell there are all.
  pub bridges_all : length cells ≤ at → RightBridges p cells
  bridges_all behind =
      let start = before.start in
      before.carried (bridges_last p range (drop (at - p.m) cells) before.exact (rw length-drop (omega arith)))
