-- Laws of the table that a code is listed from: it belongs, its row m says how many words there are, and each word is spelt from it.
use Rattle.std.specs.Prelude.{◌≡◌, refl, List, [], ◌∷◌, ◌++◌, ℕ, ◌+◌, ◌*◌, ◌≤◌, ◌<◌, ltb, length, take, drop, get_or}
use Rattle.std.proofs.Common.{◌∙◌, le_refl, le_of_lt, add-zero, arith, take_at, lt-ltb, le-ltb}
use Rattle.std.specs.declared.cmp.Ordering.{Ordering}
use Rattle.std.specs.declared.cmp.Ordering.TheVariants.{Less, Equal, Greater}
use Rattle.std.specs.Ordering.{is_lt}
use Rattle.limbs.specs.Limbs.{value, number_at, order_of}
use Rattle.limbs.specs.OrderLaws.{Ordered, order_says}
use Rattle.limbs.specs.ValueLaws.{number_at_more, lowest_limbs}
use Rattle.replies.specs.declared.Profile.{Profile}
use Rattle.replies.specs.Replies.{or_else, writing_counted}
use Rattle.replies.specs.ReplyLaws.{range_not_refused, room_enough}
use Rattle.replies.specs.Ranges.{InRange}
use Rattle.code.proofs.Laws.{one_word_of_index}
use Rattle.profiles.specs.Profiles.{word_count, word_for}
use Rattle.tables.specs.Tables.{table_length, Belongs, building}
use Rattle.tables.specs.RowLaws.{built_belongs}
use Rattle.word_of_index.specs.SpellingLaws.{whole_index}

-- The table that is built for a profile in range belongs to it.
pub built_table : {p : Profile} → InRange p → (lent : List ℕ) {after : List ℕ} → table_length p.m ≤ length lent → after ≡ (building p lent).lent
    → Belongs p p.m after
unfolding building or_else writing_counted
built_table {p} range lent room e =
    rw (e, range_not_refused p range, room_enough (table_length p.m) (length lent) room) (built_belongs p range _)

-- The most words that are listed, as ten limbs.
abbrev most_words : List ℕ
most_words = 4096 ∷ 0 ∷ 0 ∷ 0 ∷ 0 ∷ 0 ∷ 0 ∷ 0 ∷ 0 ∷ 0 ∷ []

-- They hold 4,096.
most_words_lem : number_at 10 most_words 0 ≡ 4096
unfolding number_at value
most_words_lem = refl

-- What an order says of two numbers, it says rightly: whether the first is below the second.
is_less_lem : (a b : ℕ) (order : Ordering) → Ordered a b order → is_lt order ≡ ltb a b
is_less_lem a b Less l = rw (lt-ltb a b l)
is_less_lem a b Equal e = rw (le-ltb a b (omega arith))
is_less_lem a b Greater l = rw (le-ltb a b (le_of_lt l))

-- A number of one limb is that limb.
first_limb : (l : List ℕ) (at : ℕ) → number_at 1 l at ≡ get_or l at 0
unfolding number_at value
first_limb l at = number_at_more 0 l at ∙ rw add-zero (omega arith)

module _ {p : Profile} {table : List ℕ} (belongs : Belongs p p.m table) where
  -- Row m, compared with the most words that are listed, says whether there are more.
  pub words_compared : {found order : Ordering} → found ≡ order_of (number_at 10 most_words 0) (number_at 10 table (10 * p.m)) → found ≡ order
      → is_lt order ≡ ltb 4096 (word_count p)
  words_compared {found} {order} e f =
      is_less_lem 4096 (word_count p) order (rw (← f) (rw (most_words_lem, belongs.rows p.m (le_refl _)) at (order_says _ _ e)))

  -- The first limb of row m is the number of words of a code of at most 4,096.
  pub words_limb : word_count p ≤ 4096 → get_or table (10 * p.m) 0 ≡ word_count p
  words_limb few =
      let right = belongs.rows p.m (le_refl _) in
      rw (← first_limb) (lowest_limbs 1 10 table (10 * p.m) (omega arith) (rw right (omega arith)) ∙ right)

-- The first m cells of those that a word is spelt into are the word.
pub cells_spelt : (p : Profile) {i : ℕ} → i < word_count p → (index lent : List ℕ) {after : List ℕ} → length index ≡ 10 → value index ≡ i
    → after ≡ take 0 lent ++ (word_for p (number_at 10 index 0) ++ drop (0 + p.m) lent)
    → take p.m after ≡ word_for p i
cells_spelt p {i} below index lent ten same e =
    rw (e, whole_index index ten, same) (take_at (word_for p i) _ p.m (one_word_of_index _ _ _ i below).found.cells)
