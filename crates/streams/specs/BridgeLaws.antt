-- Laws of bridges: the one level of their cells, the place of a wrong one, a part that has none, and a bridge as it is written.
use Rattle.std.specs.Prelude.{◌≡◌, refl, Bool, false, cond, not, ◌&&◌, Option, Some, None, List, [], ◌∷◌, ◌++◌, ℕ, zero, suc, ◌+◌, ◌-◌, ◌≤◌, ◌<◌, eqb, length, take, drop, get_or, position, replicate}
use Rattle.std.proofs.Math.Bool.{true}
use Rattle.std.proofs.Common.{sym, ap, ◌∙◌, true≢false, add_assoc, arith, drop-drop, length-drop, drop_of_length-le, length-take-le, take_all, get_or-take}
use Rattle.std.proofs.Math.Nat.{add_comm}
use Rattle.std.proofs.lemmas.Bool.{not-false}
use Rattle.std.proofs.lemmas.List.Quantifiers.{position-Some}
use Rattle.std.proofs.Math.ListN.{get_or-replicate}
use Rattle.std.proofs.Math.Seq.{take-nil, get_or-drop}
use borrow.Author.Tests.{eq-eqb, eqb-true, ne_eqb}
use borrow.Rule.Slice.PartMut.{put_mid}
use Rattle.std.specs.Option.{MatchOption}
use Rattle.replies.specs.declared.Profile.{Profile}
use Rattle.replies.specs.Replies.{done, refused, refused_from, refused_at_first, or_else, moved_by}
use Rattle.replies.specs.ReplyLaws.{Nowhere, first_refused, none_refused}
use Rattle.replies.specs.Ranges.{InRange}
use Rattle.patterns.specs.Stream.{bridge, first_cell, last_cell}
use Rattle.profiles.specs.Profiles.{patterns_of, stride}
use Rattle.cells.specs.Finding.{pattern_refusal, cells_refusal}
use Rattle.cells.specs.FirstLaws.{passes_nowhere}
use Rattle.streams.specs.Streams.{bridge_in, right_bridge, bridge_refusal, part_refusal}

-- The level of all cells of the bridge between two cells.
abbrev pub bridge_level : Profile → ℕ → ℕ → ℕ
bridge_level p before after = cond (eqb before (p.q - 1) && eqb after (p.q - 1)) (p.q - 1) 0

-- It is top between two tops, and 0 else.
module _ (p : Profile) (before after : ℕ) where
  pub top_between : (eqb before (p.q - 1) && eqb after (p.q - 1)) ≡ true → p.q - 1 ≡ bridge_level p before after
  top_between e = rw e

  pub zero_else : (eqb before (p.q - 1) && eqb after (p.q - 1)) ≡ false → 0 ≡ bridge_level p before after
  zero_else e = rw e

-- A bridge is x cells of its level.
bridge_levels : (p : Profile) (before after : ℕ) → bridge (patterns_of p) before after ≡ replicate p.x (bridge_level p before after)
unfolding bridge
bridge_levels p before after = refl

-- The first cell from a place on stands at it, ..
pub first_from : (n : ℕ) (cells : List ℕ) → first_cell (drop n cells) ≡ get_or cells n 0
first_from zero [] = refl
first_from (suc n) [] = refl
first_from zero (c ∷ cells) = refl
first_from (suc n) (c ∷ cells) = first_from n cells

last_to : (n : ℕ) (cells : List ℕ) → n < length cells → last_cell (take (suc n) cells) ≡ get_or cells n 0
last_to n [] inside = absurd (omega arith)
last_to zero (c ∷ cells) inside = refl
last_to (suc n) (c ∷ []) inside = absurd (omega arith)
last_to (suc n) (c ∷ d ∷ cells) inside = last_to n (d ∷ cells) (omega arith)

-- .. and the last of n cells at the place before n.
pub last_of : (n : ℕ) (cells : List ℕ) → 0 < n → n ≤ length cells → last_cell (take n cells) ≡ get_or cells (n - 1) 0
last_of n cells some inside =
    let e : suc (n - 1) ≡ n = omega arith in
    rw e at (last_to (n - 1) cells (omega arith))

-- The level of the bridge at a place, by the cells before and after it.
abbrev pub level_at : Profile → List ℕ → ℕ → ℕ
level_at p cells at = bridge_level p (get_or cells (at - 1) 0) (get_or cells (at + p.x) 0)

-- The first i cells from a place on are all of one level.
abbrev pub Levelled : List ℕ → ℕ → ℕ → ℕ → Type 0
Levelled cells place level i = (k : ℕ) → k < i → get_or cells (place + k) 0 ≡ level

-- Of the bridge at a place the first r cells are of its level, and the next is not, where there is one.
pub record RightCells (p : Profile) (cells : List ℕ) (at r : ℕ) : Type 0 where
  pub most : r ≤ p.x
  pub right : Levelled cells at (level_at p cells at) r
  pub wrong : r < p.x → get_or cells (at + r) 0 ≡ level_at p cells at → ⊥

-- The first wrong cell of the bridge at a place, or that there is none.
abbrev pub WrongAt : Profile → List ℕ → ℕ → Option ℕ → Type 0
WrongAt p cells at found = MatchOption found (RightCells p cells at p.x) (λ r. (r < p.x) × RightCells p cells at r)

module _ (p : Profile) (cells : List ℕ) (at level : ℕ) (same : level ≡ level_at p cells at) (room : at + p.x < length cells) where
  -- The bridge at a place.
  run : List ℕ
  run = take p.x (drop at cells)

  run-length : length run ≡ p.x
  unfolding run
  run-length = length-take-le p.x (drop at cells) (omega (arith, length-drop at cells))

  run_cell : (k : ℕ) → k < p.x → get_or run k 0 ≡ get_or cells (at + k) 0
  unfolding run
  run_cell k inside = rw (get_or-take p.x (drop at cells) k 0, get_or-drop at cells k 0)

  right_cell : (k : ℕ) → k < p.x → not (eqb (get_or run k 0) level) ≡ false → get_or cells (at + k) 0 ≡ level_at p cells at
  right_cell k inside e = sym (run_cell k inside) ∙ eqb-true (get_or run k 0) level (not-false (eqb (get_or run k 0) level) e) ∙ same

  -- Its first cell of another level is its first wrong one.
  pub wrong_found : (found : Option ℕ) → found ≡ position (λ c. not (eqb c level)) (take p.x (drop at cells)) → WrongAt p cells at found
  unfolding run
  wrong_found None e =
      record {
        most = omega arith;
        right = λ k h. right_cell k h (passes_nowhere (λ c. not (eqb c level)) run (sym e) k (omega (arith, run-length)));
        wrong = λ l. absurd (omega arith);
      }
  wrong_found (Some r) e =
      let q = position-Some (λ c. not (eqb c level)) run r 0 (sym e) in
      let inside : r < p.x = omega (arith, q.0, run-length) in (
        inside,
        record {
          most = omega arith;
          right = λ k h. right_cell k (omega arith) (q.2 k h);
          wrong = λ l f. true≢false (sym q.1 ∙ ap not (eq-eqb (get_or run r 0) level (run_cell r inside ∙ f ∙ sym same)));
        },
      )

-- A bridge in the cells, seen in the part from the word before it on.
pub right_from : (p : Profile) (cells : List ℕ) (start r : ℕ) → 0 < p.m → RightCells p cells (start + p.m) r → RightCells p (drop start cells) p.m r
right_from p cells start r some c =
    let back : start + (p.m - 1) ≡ start + p.m - 1 = omega arith in
    let level : level_at p (drop start cells) p.m ≡ level_at p cells (start + p.m) =
    rw (get_or-drop start cells (p.m - 1) 0, back, get_or-drop start cells (stride p) 0, add_assoc start p.m p.x) in
    record {
      most = c.most;
      right = λ k l. rw (level, get_or-drop start cells (p.m + k) 0) (rw (add_assoc start p.m k) at (c.right k l));
      wrong = λ l e. c.wrong l (rw (level, get_or-drop start cells (p.m + r) 0, ← (add_assoc start p.m r)) at e);
    }

module _ (p : Profile) (part : List ℕ) (range : InRange p) (more : stride p < length part) where
  -- A cell of the bridge is wrong where it is not of that level.
  wrong : ℕ → Bool
  wrong i = not (eqb (get_or (bridge_in p part) i 0) (get_or (right_bridge p part) i 0))

  wrong_cell : (i : ℕ) → i < p.x → wrong i ≡ not (eqb (get_or part (p.m + i) 0) (level_at p part p.m))
  unfolding wrong
  wrong_cell i inside =
      let last = last_of p.m part range.length.least (omega arith) in
      let levels = bridge_levels p (last_cell (take p.m part)) (first_cell (drop (stride p) part)) in
      rw (get_or-take p.x (drop p.m part) i 0, get_or-drop, levels, get_or-replicate, last, first_from)

  none_before : (r : ℕ) → RightCells p part p.m r → Nowhere wrong 0 r
  none_before r c k l h = rw (wrong_cell k (omega (arith, c.most)), eq-eqb _ _ (c.right k h))

  bridge-length : length (bridge_in p part) ≡ p.x
  bridge-length = length-take-le p.x (drop p.m part) (omega (arith, length-drop p.m part))

  -- The first cell of another level is refused at its place, ..
  pub first_wrong : (r : ℕ) → RightCells p part p.m r → r < p.x → refused 13 (p.m + r) ≡ bridge_refusal p part
  unfolding bridge_refusal moved_by wrong
  first_wrong r c inside =
      let here : wrong r ≡ true = rw (wrong_cell r inside, ne_eqb _ _ (c.wrong inside)) in
      let first = first_refused wrong (length (bridge_in p part)) 13 r (none_before r c) here (rw bridge-length inside) in
      rw (first, add_comm r p.m)

  -- .. and a bridge with no such cell is not refused.
  pub none_wrong : (r : ℕ) → RightCells p part p.m r → p.x ≤ r → done ≡ bridge_refusal p part
  unfolding bridge_refusal moved_by wrong
  none_wrong r c all =
      rw (none_refused wrong (length (bridge_in p part)) 13 (rw bridge-length (λ k l h. none_before r c k l (omega arith))))

-- A part that is one word alone has no bridge.
pub no_bridge : (p : Profile) (part : List ℕ) → length part ≤ p.m → bridge_refusal p part ≡ done
unfolding bridge_refusal refused_at_first moved_by
no_bridge p part short = rw (drop_of_length-le part short, take-nil)

alone_from : (place : ℕ) (test : ℕ → Bool) (n number : ℕ) → or_else (refused_from place test n (suc number)) done ≡ refused_from place test n (suc number)
unfolding or_else
alone_from place test zero number = refl
alone_from place test (suc n) number = go (test place) (alone_from (suc place) test n number)
  where
    go : (b : Bool) → or_else (refused_from (suc place) test n (suc number)) done ≡ refused_from (suc place) test n (suc number)
        → or_else (cond b (refused (suc number) place) (refused_from (suc place) test n (suc number))) done
        ≡ cond b (refused (suc number) place) (refused_from (suc place) test n (suc number))
    go true e = rw (ne_eqb (suc number) 0 (λ f. omega arith))
    go false e = e

-- A word alone is refused as its cells are.
pub word_alone : (p : Profile) (part : List ℕ) → length part ≤ p.m → cells_refusal p.q (patterns_of p) part ≡ part_refusal p part
unfolding cells_refusal part_refusal pattern_refusal refused_at_first
word_alone p part short =
    rw (take_all (stride p) part (omega arith), take_all p.m part short, no_bridge p part short, alone_from 0 _ (length part) 10)

-- A bridge written to its place.
pub bridge_filled : (p : Profile) (before filled : List ℕ) (at : ℕ) {level k : ℕ} → level ≡ level_at p before at → k ≡ p.x → filled ≡ replicate k level
    → put_mid at k before filled ≡ take at before ++ (bridge (patterns_of p) (get_or before (at - 1) 0) (get_or before (at + p.x) 0) ++ drop (at + p.x) before)
bridge_filled p before filled at e all f = rw (f, all, drop-drop p.x at before, e, bridge_levels p)
