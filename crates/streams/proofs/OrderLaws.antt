-- A stream in order: where its cells, seen as one run, and its bridges are right, 10, 11 and 13 refuse nothing.
use Rattle.std.specs.Prelude.{◌≡◌, List, take, drop}
use Rattle.std.proofs.Common.{take-append-drop}
use Rattle.std.proofs.Math.Bool.{and-eq-true_iff}
use Prim.Native.Nat.{ℕ, zero, suc}
use Rattle.std.proofs.Math.ListN.{length}
use Rattle.replies.specs.declared.Reply.{Reply}
use Rattle.replies.specs.declared.Profile.{Profile}
use Rattle.replies.specs.Replies.{done, or_else}
use Rattle.listing.specs.Listing.{all_below}
use Rattle.listing.specs.EveryLaws.{every_append}
use Rattle.patterns.proofs.OccursLaws.{front_free, back_free}
use Rattle.code.specs.Code.{legal}
use Rattle.profiles.specs.Profiles.{stride, patterns_of}
use Rattle.cells.specs.CellLaws.{Accepted, cells_accepted, below_not_refused, legal_not_refused}
use Rattle.cells.specs.Finding.{cells_refusal}
use Rattle.streams.specs.Streams.{words_in, bridge_refusal, part_refusal, stream_refusal}
use Rattle.streams.specs.FromWords.{FromEach}
use Rattle.streams.specs.OrderLaws.{RightBridges}
use Rattle.streams.specs.EachLaws.{each_of_both}
use Rattle.streams.proofs.EachLaws.{throughout_done}

-- The first n cells of a run that 10 and 11 do not refuse are not refused, and the others are not.
record Split (q x n : ℕ) (cells : List ℕ) : Type 0 where
  front : Accepted q x (take n cells)
  back : Accepted q x (drop n cells)

split : (q x n : ℕ) (cells : List ℕ) → Accepted q x cells → Split q x n cells
unfolding legal
split q x n cells a =
    let both = take-append-drop n cells in
    let below = (and-eq-true_iff (all_below q (take n cells)) (all_below q (drop n cells))).0 (rw (← both, every_append) at a.levelled) in
    let free = rw (← both) at a.passes in
    record {
      front = record { levelled = below.0; passes = front_free _ (take n cells) (drop n cells) free };
      back = record { levelled = below.1; passes = back_free _ (take n cells) (drop n cells) free };
    }

-- So each word of such a run begins such a run, ..
accepted_each : (p : Profile) (n : ℕ) (part : List ℕ) → Accepted p.q p.x part → FromEach p (Accepted p.q p.x) n part
accepted_each p zero part a = tt
accepted_each p (suc n) part a = (a, accepted_each p n (drop (stride p) part) (split p.q p.x (stride p) part a).back)

-- .. and is not refused where its bridge is right.
part_in_order : (p : Profile) (part : List ℕ) → Accepted p.q p.x part → bridge_refusal p part ≡ done → (part_refusal p part).number ≡ 0
unfolding part_refusal or_else
part_in_order p part a right =
    rw (
      below_not_refused p.q (take (stride p) part) (split p.q p.x (stride p) part a).front.levelled,
      legal_not_refused _ _ (take p.m part) (split p.q p.x p.m part a).front.passes,
      right,
    )

-- A stream that as one run of cells is refused neither 10 nor 11, and whose bridges are right, is not refused.
pub in_order : (p : Profile) (cells : List ℕ) {run : Reply} → run ≡ cells_refusal p.q (patterns_of p) cells → run.number ≡ 0 → RightBridges p cells
    → stream_refusal p cells ≡ done
unfolding stream_refusal RightBridges
in_order p cells e none right =
    let n = words_in p (length cells) in
    let run = accepted_each p n cells (cells_accepted p.q p.x cells (rw e at none)) in
    throughout_done p (part_refusal p) n 0 cells (each_of_both p (part_in_order p) n cells run right)
