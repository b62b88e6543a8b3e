-- Laws of asking for the word of an index: what each test lets through, and what is written where nothing is refused.
use Rattle.std.specs.Prelude.{Ok, ◌≡◌, refl, List, ◌++◌, ℕ, ◌+◌, ◌*◌, ◌≤◌, ◌<◌, leb, length, take, drop}
use Rattle.std.proofs.Common.{sym, ap, le_refl, le_of_lt, zero-add, arith, le-leb, leb-false}
use Rattle.std.proofs.lemmas.Bool.{lt-leb}
use Rattle.std.specs.declared.cmp.Ordering.{Ordering}
use Rattle.std.specs.declared.cmp.Ordering.TheVariants.{Less, Equal, Greater}
use Rattle.std.specs.Ordering.{is_ge}
use Rattle.limbs.specs.Limbs.{value, number_at, order_of}
use Rattle.limbs.specs.HoldingLaws.{number_at_all}
use Rattle.limbs.specs.OrderLaws.{Ordered, order_says}
use Rattle.numbers.specs.declared.Index.{Index}
use Rattle.replies.specs.declared.Reply.{Reply}
use Rattle.replies.specs.declared.Profile.{Profile}
use Rattle.replies.specs.Replies.{done, Comes}
use Rattle.replies.specs.ReplyLaws.{test_failed, both_done, profile_in_range, has_room}
use Rattle.code.proofs.Laws.{one_word_of_index}
use Rattle.tables.specs.Tables.{Belongs, table_refusal}
use Rattle.tables.specs.TableLaws.{table_belongs}
use Rattle.replies.specs.WritingLaws.{writing_done}
use Rattle.replies.specs.AnswerLaws.{refusal_decides, passed_leaves}
use Rattle.replies.specs.Answers.{written_of}
use Rattle.tables.specs.WritingLaws.{in_range}
use Rattle.replies.specs.Ranges.{InRange}
use Rattle.profiles.specs.Profiles.{word_count, word_for, count_for}
use Rattle.word_of_index.specs.Spelling.{index_refusal, spelling}

-- The order of two numbers says whether the first is at or above the second.
not_less_lem : (i n : ℕ) (order : Ordering) → Ordered i n order → is_ge order ≡ leb n i
not_less_lem i n Less l = rw (lt-leb n i l)
not_less_lem i n Equal e = rw (le-leb n i (omega arith))
not_less_lem i n Greater l = rw (le-leb n i (le_of_lt l))

-- An index of ten limbs is the number that they hold.
pub whole_index : (index : List ℕ) → length index ≡ 10 → number_at 10 index 0 ≡ value index
whole_index index ten = number_at_all 10 index (omega arith)

-- It is compared with row m of the table.
pub index_compared : {p : Profile} {m : ℕ} {table : List ℕ} (index : List ℕ) → Belongs p m table → length index ≡ 10
    → {found : Ordering} → found ≡ order_of (number_at 10 index 0) (number_at 10 table (10 * m)) → is_ge found ≡ leb (count_for p m) (value index)
index_compared {p} {m} {table} index b ten {found} e =
    let whole = whole_index index ten in
    let right = b.rows m (le_refl m) in
    not_less_lem (value index) (count_for p m) found (rw (whole, right) at (order_says _ _ e))

-- A table that is not refused belongs.
pub belongs_lem : (p : Profile) (table : List ℕ) → done ≡ table_refusal p table → Belongs p p.m table
belongs_lem p table e = table_belongs p table (ap (λ (r : Reply). r.number) (sym e))

-- What holds where nothing is refused.
pub record Accepted (p : Profile) (table : List ℕ) (i : Index) (lent : List ℕ) : Type 0 where
  pub range : InRange p
  pub belongs : Belongs p p.m table
  pub room : p.m ≤ length lent
  pub below : value i.0 < word_count p

pub accepted : (p : Profile) (table : List ℕ) (i : Index) (lent : List ℕ) → done ≡ index_refusal p table i lent → Accepted p table i lent
unfolding index_refusal
accepted p table i lent e =
    let profile = both_done _ _ (ap (λ (r : Reply). r.number) (sym e)) in
    let table-first = both_done _ _ profile.second in
    let room_first = both_done _ _ table-first.second in
    record {
      range = profile_in_range p refl profile.first;
      belongs = table_belongs p table table-first.first;
      room = has_room _ _ room_first.first;
      below = leb-false _ _ (test_failed _ 11 room_first.second);
    }

-- Done writes the word from the front.
pub spelling_done : (p : Profile) (table : List ℕ) (i : Index) (lent : List ℕ) → done ≡ index_refusal p table i lent → length i.0 ≡ 10 → {after : List ℕ}
    → after ≡ take 0 lent ++ (word_for p (number_at 10 i.0 0) ++ drop (0 + p.m) lent) → Comes (spelling p table i lent) (written_of (Ok p.m)) after
unfolding spelling
spelling_done p table i lent e ten a =
    let found = (one_word_of_index _ _ _ (value i.0) (accepted p table i lent e).below).found.cells in
    let whole = whole_index i.0 ten in
    writing_done done _ _ _ lent e refl (sym found) (rw found (rw (whole, zero-add) at a))

-- What the tests go by.
pub ruleset index_calls = (refusal_decides, passed_leaves, in_range, belongs_lem)
