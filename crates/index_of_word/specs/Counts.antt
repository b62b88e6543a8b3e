-- Counting how often each row is taken: what counts weigh, and how they lead to the index of a word.
use Rattle.std.specs.Prelude.{◌≡◌, refl, List, [], ◌∷◌, ℕ, zero, suc, ◌+◌, ◌-◌, ◌*◌, ◌^◌, ◌≤◌, ◌<◌, length, drop, get_or, set, replicate}
use Rattle.std.proofs.Common.{◌∙◌, zero-le, add_assoc, add-zero, add-suc, suc-add, zero-add, mul-add, mul-one, mul-zero, le-add_right, arith, length-set, length-drop, drop_of_length-le}
use Rattle.combining.specs.Combining.{total}
use Rattle.code.specs.Stretches.{following}
use Rattle.replies.specs.Ranges.{Between}
use Rattle.index_of_word.specs.IndexBehind.{index_behind, guarded_row, guarded_factor, index_behind_none}
use Rattle.index_of_word.specs.Levels.{factor_beyond, factor_within}
use Rattle.index_of_word.specs.Parts.{Walks, Part}

-- What counts weigh, from row r on: N(r) as often as row r is counted.
unfoldable pub weighed : ℕ → ℕ → ℕ → List ℕ → ℕ
weighed t x r [] = 0
weighed t x r (c ∷ counts) = following t x 0 r * c + weighed t x (suc r) counts

-- Row r counted k times more.
abbrev pub with_more : ℕ → ℕ → List ℕ → List ℕ
with_more r k counts = set counts r (get_or counts r 0 + k)

-- The most that a step adds to a count, the number of eight guarded cells times top, and that the steps of 128 cells add to all counts.
abbrev pub step_most : ℕ
step_most = 31 ^ 9

abbrev pub word_most : ℕ
word_most = 128 * step_most

-- Every row that the cells of w take behind the guard g has a count, and there is room for a step at each of them.
pub record Countable (t x g : ℕ) (w counts : List ℕ) : Type 0 where
  pub levels : Between 1 31 t
  pub reach : Between 1 8 x
  pub walks : Walks t x g w
  pub lent : length w ≤ length counts
  pub room : total counts + length w * step_most ≤ word_most

-- The rows that the cells of w take behind the guard g are counted: the counts weigh the index of w more, and are few.
pub record RowsCounted (t x g : ℕ) (w before after : List ℕ) : Type 0 where
  pub weighs : weighed t x 0 after ≡ weighed t x 0 before + index_behind t x g w
  pub few : total after ≤ word_most

-- The number of guarded cells may be counted: the row that they use has a count with room for it.
pub record Addable (t x left number : ℕ) (counts : List ℕ) : Type 0 where
  pub small : t ≤ 31
  pub bounded : number ≤ 31 ^ 8
  pub inside : guarded_row x left < length counts
  pub room : total counts + step_most ≤ word_most

-- A row counted k times more weighs k rows more, ..
pub weighed_more : (t x s r k : ℕ) (counts : List ℕ) → r < length counts
    → weighed t x s (with_more r k counts) ≡ weighed t x s counts + following t x 0 (s + r) * k
unfolding weighed
weighed_more t x s r k [] l = absurd (omega arith)
weighed_more t x s zero k (c ∷ counts) l = rw (add-zero, mul-add) (omega arith)
weighed_more t x s (suc r) k (c ∷ counts) l = rw (weighed_more t x (suc s) r k counts (omega arith), add-suc, suc-add) (omega arith)

-- .. and k rows more are taken.
total_more : (r k : ℕ) (counts : List ℕ) → r < length counts → total (with_more r k counts) ≡ total counts + k
unfolding total
total_more r k [] l = absurd (omega arith)
total_more zero k (c ∷ counts) l = omega arith
total_more (suc r) k (c ∷ counts) l = rw (total_more r k counts (omega arith)) (omega arith)

-- No row is taken more often than all together.
pub count_in_total : (r : ℕ) (counts : List ℕ) → get_or counts r 0 ≤ total counts
unfolding total
count_in_total r [] = zero-le
count_in_total zero (c ∷ counts) = le-add_right c (total counts)
count_in_total (suc r) (c ∷ counts) = let l = count_in_total r counts in omega arith

-- Counts of 0 weigh nothing, and no row is taken.
pub weighed_none : (t x r k : ℕ) → weighed t x r (replicate k 0) ≡ 0
unfolding weighed
weighed_none t x r zero = refl
weighed_none t x r (suc k) = rw (mul-zero, weighed_none t x (suc r) k)

pub total_none : (k : ℕ) → total (replicate k 0) ≡ 0
unfolding total
total_none zero = refl
total_none (suc k) = rw (zero-add, total_none k)

-- Where no cells are left nothing is counted.
pub counted_none : {t x g : ℕ} (cells : List ℕ) (at : ℕ) {counts : List ℕ} → length cells ≤ at → Countable t x g (drop at cells) counts
    → RowsCounted t x g (drop at cells) counts counts
counted_none {t} {x} {g} cells at l s =
    record { weighs = rw (drop_of_length-le cells l, index_behind_none t x g, add-zero); few = let r = s.room in omega arith }

-- The row that guarded cells use, where there are more cells than x behind their top, and where there are not.
module _ (t x left number : ℕ) (counts : List ℕ) where
  pub row_beyond : x < left
      → with_more (guarded_row x left) (number * t) counts ≡ with_more (guarded_row x left) (number * guarded_factor t x left) counts
  row_beyond l = rw (← factor_beyond t l)

  pub row_within : left ≤ x → with_more 0 number counts ≡ with_more (guarded_row x left) (number * guarded_factor t x left) counts
  row_within l = let first : left - x - 1 ≡ 0 = omega arith in rw (← factor_within t l, mul-one, first)

-- The row of the first cell has a count.
pub row_inside : {t x g : ℕ} (cells : List ℕ) (i : ℕ) {counts : List ℕ} → i < length cells → Countable t x g (drop i cells) counts
    → length cells - i - 1 < length counts
row_inside cells i l s = omega (arith, s.lent, length-drop i cells)

-- `next` counts so much that what is left to count, the index of w behind the guard h, leads to where the index of v behind the guard g
-- leads from `counts`.
pub record Leads (t x g : ℕ) (v counts : List ℕ) (h : ℕ) (w next : List ℕ) : Type 0 where
  pub countable : Countable t x h w next
  pub kept : length next ≡ length counts
  pub same : weighed t x 0 next + index_behind t x h w ≡ weighed t x 0 counts + index_behind t x g v

-- Before anything is counted.
pub leads_none : {t x g : ℕ} {v counts : List ℕ} → Countable t x g v counts → Leads t x g v counts g v counts
leads_none s = record { countable = s; kept = refl; same = refl }

-- One way after another.
pub leads_on : {t x g h j : ℕ} {u v w counts next last : List ℕ} → Leads t x g u counts h v next → Leads t x h v next j w last
    → Leads t x g u counts j w last
leads_on a b = record { countable = b.countable; kept = b.kept ∙ a.kept; same = b.same ∙ a.same }

-- The rest counted after that is all counted.
pub leads_counted : {t x g h : ℕ} {v w counts next last : List ℕ} → Leads t x g v counts h w next → RowsCounted t x h w next last
    → RowsCounted t x g v counts last
leads_counted a b = record { weighs = b.weighs ∙ a.same; few = b.few }

-- A part of the index that is a multiple of one row is counted.
pub leads : (r k : ℕ) {t x g h : ℕ} {v w counts : List ℕ} → Countable t x g v counts → Part t x g v h w (following t x 0 r * k)
    → r < length v → k ≤ step_most → Leads t x g v counts h w (with_more r k counts)
leads r k {t} {x} {g} {h} {v} {w} {counts} s p l few =
    let inside : r < length counts = omega (arith, s.lent) in
    record {
      countable = record {
        levels = s.levels;
        reach = s.reach;
        walks = p.walks;
        lent = rw length-set (omega (arith, s.lent, p.shorter));
        room = rw (total_more r k counts inside) (omega (arith, s.room, p.shorter));
      };
      kept = rw length-set;
      same = rw (weighed_more t x 0 r k counts inside, zero-add, p.falls, add_assoc);
    }

-- So the number of guarded cells may be counted where they use such a row.
pub addable : {t x g left number : ℕ} {w counts : List ℕ} → Countable t x g w counts → guarded_row x left < length w → number ≤ 31 ^ 8
    → Addable t x left number counts
addable s l h = record { small = s.levels.most; bounded = h; inside = omega (arith, s.lent); room = omega (arith, s.room) }
