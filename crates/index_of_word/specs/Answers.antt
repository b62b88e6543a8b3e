-- A word that is not refused: its index may be written to the limbs in use of the table's last row, and fills ten limbs.
use Rattle.std.specs.Prelude.{Ok, Err, ◌≡◌, refl, not, List, ◌∷◌, ◌++◌, ℕ, zero, suc, ◌+◌, ◌-◌, ◌*◌, ◌/◌, ◌%◌, ◌^◌, ◌≤◌, ◌<◌, eqb, take, drop, replicate}
use Rattle.std.proofs.Common.{ap, sym, le_refl, le_trans, zero-add, div-lt_iff_lt-mul, pow-suc, suc-add, arith, length-take, eqb-true}
use Rattle.std.proofs.Math.Nat.{min-le_left, lt_trans, pow-zero}
use Rattle.std.proofs.Math.Arith.{lt-one}
use Rattle.limbs.specs.Limbs.{base, limbs_of, holding, used, AllLimbs}
use Rattle.limbs.specs.ValueLaws.{base_positive}
use Rattle.limbs.specs.UsedLaws.{used-length, number_at_below_used}
use Rattle.replies.specs.AnswerLaws.{not_done, refusal_decides, passed_leaves}
use Rattle.replies.specs.Answers.{refusal_reply}
use Rattle.replies.specs.declared.Refusal.{Refusal}
use Rattle.replies.specs.declared.Reply.{Reply}
use Rattle.tables.specs.WritingLaws.{in_range}
use Rattle.index_of_word.specs.Given.{indexed_of}
use Rattle.replies.specs.declared.Profile.{Profile}
use Rattle.replies.specs.Replies.{done, refused_if, profile_refusal}
use Rattle.replies.specs.ReplyLaws.{test_failed, both_done, profile_in_range}
use Rattle.replies.specs.Ranges.{Between, InRange}
use Rattle.listing.proofs.Order.{index_below_count}
use Rattle.code.specs.Code.{N, index}
use Rattle.profiles.specs.Profiles.{is_legal, LegalFor, word_count, index_for}
use Rattle.cells.specs.CellLaws.{cells_accepted}
use Rattle.tables.specs.Tables.{Belongs}
use Rattle.tables.specs.TableLaws.{not_wrong, table_belongs}
use Rattle.index_of_word.specs.Indexing.{word_refusal, indexing}
use Rattle.index_of_word.specs.Whole.{Indexable, with_index}

-- Ten limbs of 0.
abbrev pub no_limbs : List ℕ
no_limbs = replicate 10 0

-- They are the limbs of 0.
limbs_of_none : (k : ℕ) → limbs_of k 0 ≡ replicate k 0
unfolding limbs_of
limbs_of_none zero = refl
limbs_of_none (suc k) = ap (λ (l : List ℕ). 0 ∷ l) (limbs_of_none k)

-- A number that fits n limbs has 0 above them.
limbs_above : (n k v : ℕ) → v < base ^ n → limbs_of n v ++ drop n (replicate (n + k) 0) ≡ limbs_of (n + k) v
unfolding limbs_of
limbs_above zero k v l = rw (zero-add, lt-one (rw pow-zero at l)) (sym (limbs_of_none k))
limbs_above (suc n) k v l =
    rw suc-add (ap (λ (w : List ℕ). v % base ∷ w) (limbs_above n k (v / base) ((div-lt_iff_lt-mul base_positive).1 (rw pow-suc at l))))

-- The index in the n limbs that it fits, with 0 above them, is the index in ten limbs.
pub index_in_ten : (p : Profile) (n : ℕ) (cells : List ℕ) → n ≤ 10 → index_for p cells < base ^ n
    → with_index p n cells no_limbs ≡ limbs_of 10 (index_for p cells)
unfolding holding
index_in_ten p n cells l h =
    let ten : n + (10 - n) ≡ 10 = omega arith in
    rw ten at (limbs_above n (10 - n) (index_for p cells) h)

-- The levels and the reach of a profile that is not refused.
pub range_levels : (p : Profile) → done ≡ profile_refusal p → Between 2 32 p.q
range_levels p e = (in_range p e).levels

pub range_reach : (p : Profile) → done ≡ profile_refusal p → Between 1 8 p.x
range_reach p e = (in_range p e).reach

-- A word that 7 does not refuse has m cells.
length_is : (n m : ℕ) → (refused_if (not (eqb n m)) 7).number ≡ 0 → n ≡ m
length_is n m e = eqb-true n m (not_wrong _ (test_failed _ 6 e))

-- A word that is not refused: the profile is in range, the table belongs to it, and the cells are a legal word.
pub record NotRefused (p : Profile) (table cells : List ℕ) : Type 0 where
  pub range : InRange p
  pub belongs : Belongs p p.m table
  pub word : LegalFor p cells

pub not_refused_word : (p : Profile) (table cells : List ℕ) → (word_refusal p table cells).number ≡ 0 → NotRefused p table cells
unfolding word_refusal
not_refused_word p table cells e =
    let profile = both_done _ _ e in
    let rows = both_done _ _ profile.second in
    let long = both_done _ _ rows.second in
    let accepted = cells_accepted _ _ cells long.second in
    record {
      range = profile_in_range p refl profile.first;
      belongs = table_belongs p table rows.first;
      word = record { cells = length_is _ _ long.first; levelled = accepted.levelled; passes = accepted.passes };
    }

-- How many limbs of the last row are in use.
abbrev pub limbs_in_use : ℕ → List ℕ → ℕ
limbs_in_use m table = used (take 10 (drop (10 * m) table))

module _ (p : Profile) (table cells : List ℕ) (all : AllLimbs table) (s : NotRefused p table cells) where
  -- The last row and the index fit these limbs.
  few_limbs : limbs_in_use p.m table ≤ 10
  few_limbs = le_trans (used-length (take 10 (drop (10 * p.m) table))) (rw length-take (min-le_left 10 _))

  last_row_fits : word_count p < base ^ limbs_in_use p.m table
  last_row_fits = rw (s.belongs.rows p.m (le_refl p.m)) at (number_at_below_used 10 table (10 * p.m) all)

  index_fits : index_for p cells < base ^ limbs_in_use p.m table
  unfolding index N
  index_fits = lt_trans (index_below_count p.q (is_legal p) p.m cells s.word) last_row_fits

  -- So its index may be written there, ..
  pub indexable : Indexable p (limbs_in_use p.m table) table cells no_limbs
  indexable = record {
    levels = s.range.levels;
    reach = s.range.reach;
    short = rw s.word.cells s.range.length.most;
    levelled = s.word.levelled;
    passes = s.word.passes;
    belongs = rw s.word.cells s.belongs;
    limbs = few_limbs;
    lent = few_limbs;
    rows = rw s.word.cells last_row_fits;
  }

  -- .. and is then the index in ten limbs.
  pub index_whole : with_index p (limbs_in_use p.m table) cells no_limbs ≡ limbs_of 10 (index_for p cells)
  index_whole = index_in_ten p _ cells few_limbs index_fits

-- The answer where nothing is refused, and where something is.
pub word_passed : (p : Profile) (table cells : List ℕ) → done ≡ word_refusal p table cells → NotRefused p table cells
word_passed p table cells e = not_refused_word p table cells (ap (λ (r : Reply). r.number) (sym e))

pub indexing_done : (p : Profile) (table cells : List ℕ) {sum : List ℕ} → done ≡ word_refusal p table cells
    → sum ≡ limbs_of 10 (index_for p cells) → indexed_of (Ok (record { 0 = sum })) ≡ indexing p table cells
unfolding indexing
indexing_done p table cells e f = rw (← e, f)

pub indexing_refused : (p : Profile) (table cells : List ℕ) (r : Refusal) → refusal_reply r ≡ word_refusal p table cells → indexed_of (Err r) ≡ indexing p table cells
unfolding indexing
indexing_refused p table cells r e = rw (← e, not_done r.why)

-- What the tests go by.
pub ruleset word_calls = (refusal_decides, passed_leaves, in_range, range_levels, range_reach)
