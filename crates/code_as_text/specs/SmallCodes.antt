-- A code of at most 4,096 words has short words, so the text of the levels of a word is short.
use Rattle.std.specs.Prelude.{◌≡◌, refl, Bool, true, false, cond, ℕ, suc, ◌*◌, ◌^◌, ◌≤◌, ◌<◌, ltb, leb, length}
use Rattle.std.proofs.Common.{lt_of_not-le, arith, ltb-true, leb-true}
use Rattle.replies.specs.declared.Profile.{Profile}
use Rattle.replies.specs.Ranges.{InRange}
use Rattle.listing.specs.Every.{every}
use Rattle.listing.specs.Listing.{levels_from}
use Rattle.listing.specs.EachLevel.{each_level}
use Rattle.code.specs.Code.{N, word}
use Rattle.code.specs.Formulas.{counts_down_from, count_by_recursion}
use Rattle.code.proofs.Theorem1.{recursion_counts}
use Rattle.code.proofs.Sizes.{counts_rise}
use Rattle.code.proofs.Laws.{one_word_of_index}
use Rattle.profiles.specs.Profiles.{word_count, count_for, word_for}
use Rattle.text.specs.Text.{levels_text}
use Rattle.text.specs.LevelsLaws.{length_levels}

-- A word length at which every code of q levels has more than 4,096 words. Of words one cell shorter the text has at most 50 bytes:
-- 25 cells of a digit and a comma, or 16 of two digits and a comma.
abbrev long_from : ℕ → ℕ
long_from q = cond (leb q 10) 26 17

-- The test that it has, for the reach x, by theorem 1's recursion.
abbrev is_large : ℕ → ℕ → Bool
is_large q x = ltb 4096 (count_by_recursion q x (long_from q))

-- Every q from 2 to 32 passes it with every x from 1 to 8.
all_large : every (λ q. every (is_large q) (levels_from 1 8)) (levels_from 2 31) ≡ true
unfolding count_by_recursion counts_down_from
all_large = refl

-- At that length every code in range has more than 4,096 words.
long_is_large : {p : Profile} → InRange p → 4096 < count_for p (long_from p.q)
long_is_large {p} range =
    let levels = range.levels in
    let reach = range.reach in
    let row = each_level (λ q. every (is_large q) (levels_from 1 8)) 2 31 p.q all_large levels.least (omega arith) in
    let test = each_level (is_large p.q) 1 8 p.x row reach.least (omega arith) in
    rw (← recursion_counts p.q p.x (long_from p.q) (omega arith)) (ltb-true 4096 _ test)

-- So a code of at most 4,096 words has shorter words.
short_words : {p : Profile} → InRange p → word_count p ≤ 4096 → p.m < long_from p.q
short_words {p} range few =
    let more = long_is_large range in
    let rise = counts_rise p.q p.x (long_from p.q) p.m range.levels.least in
    lt_of_not-le (λ (long : long_from p.q ≤ p.m). let most = rise long in omega arith)

-- The levels of the word of an index take at most k + 2 bytes each, where q is at most 10^(k + 1).
length_word : (q x m i k : ℕ) → i < N q x m → q ≤ 10 ^ suc k → length (levels_text (word q x m i)) ≤ suc (suc k) * m
length_word q x m i k l most =
    let found = (one_word_of_index q x m i l).found in rw found.cells at (length_levels q k most (word q x m i) found.levelled)

-- In a code of at most 4,096 words the levels of a word take at most 50 bytes.
pub small_codes : {p : Profile} → InRange p → word_count p ≤ 4096 → (i : ℕ) → i < word_count p → length (levels_text (word_for p i)) ≤ 50
small_codes {p} range few i l = go (leb p.q 10) refl (short_words range few)
  where
    go : (t : Bool) → leb p.q 10 ≡ t → p.m < cond t 26 17 → length (levels_text (word_for p i)) ≤ 50
    go true e short = let long = length_word p.q p.x p.m i 0 l (leb-true p.q 10 e) in omega arith
    go false e short =
        let levels = range.levels in
        let long = length_word _ _ _ i 1 l (omega arith) in
        omega arith
