-- `index_of_word::index` meets its contract: a word that is not refused has its index written.
use mathlib.Core.Path.{◌∙◌}
use native.Mathlib.Omega.{arith}
use borrow.Author.Rules.{rules}
use Rattle.index_of_word.specs.Answers.{word_passed, indexable, index_whole, indexing_done}
use Rattle.index_of_word.proofs.index.Goals as goal

pub overflow_mul-p : goal.overflow_mul-p
overflow_mul-p c = omega (arith, (word_passed _ _ _ c.in_ok-check_word.ensures).range.length.most)

pub limbs_used-n-requires : goal.limbs_used-n-requires
limbs_used-n-requires c = omega (arith, (word_passed _ _ _ c.in_ok-check_word.ensures).belongs.long)

pub put_index-requires : goal.put_index-requires
put_index-requires c = rw c.limbs_used-n.ensures (indexable _ _ _ (search rules) (word_passed _ _ _ c.in_ok-check_word.ensures))

pub returns : goal.returns
returns c =
    let whole = index_whole _ _ _ (search rules) (word_passed _ _ _ c.in_ok-check_word.ensures) in
    let sum = rw c.limbs_used-n.ensures at c.put_index.ensures in
    indexing_done _ _ _ c.in_ok-check_word.ensures (sum ∙ whole)
