-- The index of a whole word, from the counts of the rows that it takes and a table that belongs to the profile.
use Rattle.std.specs.Prelude.{◌≡◌, refl, true, List, [], ◌∷◌, ℕ, zero, suc, ◌+◌, ◌-◌, ◌*◌, ◌^◌, ◌≤◌, ◌<◌, length, take, replicate}
use Rattle.std.proofs.Common.{ap, ◌∙◌, lt_of_le_of_lt, zero-add, arith, lit<}
use Rattle.std.proofs.lemmas.List.{length-replicate}
use Rattle.limbs.specs.Limbs.{base, number_at, holding}
use Rattle.combining.specs.Combining.{combined, Combinable}
use Rattle.listing.specs.Listing.{all_below}
use Rattle.code.specs.Stretches.{following}
use Rattle.code.proofs.Stretches.{following_legal, legal_walks}
use Rattle.replies.specs.declared.Profile.{Profile}
use Rattle.replies.specs.Ranges.{Between}
use Rattle.profiles.specs.Profiles.{is_legal, count_for, index_for}
use Rattle.tables.specs.Tables.{Belongs}
use Rattle.tables.specs.TableLaws.{row_stands}
use Rattle.index_of_word.specs.IndexBehind.{index_behind_open}
use Rattle.index_of_word.specs.Counts.{weighed, Countable, RowsCounted, weighed_none, total_none}
use Rattle.index_of_word.specs.Spans.{Span, row_fits}

-- A legal word of at most 128 cells, a table that belongs to the profile and whose rows fit n limbs, and n limbs of `sum`.
pub record Indexable (p : Profile) (n : ℕ) (table cells sum : List ℕ) : Type 0 where
  pub levels : Between 2 32 p.q
  pub reach : Between 1 8 p.x
  pub short : length cells ≤ 128
  pub levelled : all_below p.q cells ≡ true
  pub passes : is_legal p cells ≡ true
  pub belongs : Belongs p (length cells) table
  pub limbs : n ≤ 10
  pub lent : n ≤ length sum
  pub rows : count_for p (length cells) < base ^ n

-- `sum` with the index of a word in its first n limbs.
abbrev pub with_index : Profile → ℕ → List ℕ → List ℕ → List ℕ
with_index p n cells sum = holding n (index_for p cells) sum

-- k counts of 0, and m of 128.
abbrev pub zeros : ℕ → List ℕ
zeros k = replicate k 0

abbrev pub no_counts : ℕ → List ℕ
no_counts m = take m (zeros 128)

-- The first m of them.
taken_zeros : (m k : ℕ) → m ≤ k → take m (zeros k) ≡ zeros m
taken_zeros zero k l = refl
taken_zeros (suc m) zero l = absurd (omega arith)
taken_zeros (suc m) (suc k) l = ap (λ (rest : List ℕ). 0 ∷ rest) (taken_zeros m k (omega arith))

-- Rows taken from a table are what their counts weigh.
combined_weighed : (t x n m r : ℕ) (table counts : List ℕ) → ((i : ℕ) → i ≤ m → number_at n table (10 * i) ≡ following t x 0 i)
    → r + length counts ≤ m → combined n table r counts ≡ weighed t x r counts
unfolding combined weighed
combined_weighed t x n m r table [] rows l = refl
combined_weighed t x n m r table (c ∷ counts) rows l =
    rw (rows r (omega arith), combined_weighed t x n m (suc r) table counts rows (omega arith))

module _ {p : Profile} {n : ℕ} {table cells sum : List ℕ} (s : Indexable p n table cells sum) where
  no_counts_lem : no_counts (length cells) ≡ zeros (length cells)
  no_counts_lem = taken_zeros (length cells) 128 s.short

  -- There are as many counts as cells.
  pub counts-length : length (no_counts (length cells)) ≡ length cells
  counts-length = rw (no_counts_lem, length-replicate)

  -- Top is one level less than q.
  top_first : suc (p.q - 1) ≡ p.q
  top_first = omega (arith, s.levels.least)

  -- The walkers may count the rows of a word from an open stretch, ..
  pub countable : Countable (p.q - 1) p.x 0 cells (no_counts (length cells))
  countable = rw no_counts_lem (record {
    levels = record { least = omega (arith, s.levels.least); most = omega (arith, s.levels.most) };
    reach = s.reach;
    walks = record { levelled = rw top_first s.levelled; stands = legal_walks (p.q - 1) p.x cells ∙ rw top_first s.passes };
    lent = rw length-replicate (omega arith);
    room = rw total_none (omega (arith, s.short));
  })

  module _ {counts : List ℕ} (kept : length counts ≡ length cells) (counted : RowsCounted (p.q - 1) p.x 0 cells (no_counts (length cells)) counts) where
    -- .. the rows may be combined as they are counted, ..
    pub combinable : {span : ℕ} → Span p.q span → Combinable n span table counts sum
    combinable span = record {
      limbs = s.limbs;
      lent = s.lent;
      spans = span.some.most;
      long = omega (arith, s.belongs.long, kept);
      small = λ j r below inside. rw (s.belongs.rows r (omega (arith, kept))) (row_fits _ _ j s.levels.least span below);
      taken = lt_of_le_of_lt counted.few (lit< tt);
    }

    -- .. and together are the index.
    pub combined_index : combined n table 0 counts ≡ index_for p cells
    combined_index =
        combined_weighed (p.q - 1) p.x n (length cells) 0 table counts
        (λ i h. row_stands p (length cells) n table s.levels.least s.belongs s.limbs s.rows i h ∙ rw (following_legal, top_first))
        (rw zero-add (omega (arith, kept)))
        ∙ rw (no_counts_lem, weighed_none, zero-add, index_behind_open, top_first) at counted.weighs
