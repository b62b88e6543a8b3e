-- `code_as_text::put_word` meets its contract: the word of the index is spelt, and the parts of the line are put one behind another.
use Rattle.std.proofs.Common.{sym, le_of_eq, arith, length-append}
use Rattle.word_of_index.specs.SpellingLaws.{whole_index}
use Rattle.text.specs.WriterLaws.{puts_more}
use Rattle.code_as_text.specs.CodeLaws.{cells_spelt}
use Rattle.code_as_text.specs.ListedLaws.{line_parts_lem}
use Rattle.code_as_text.proofs.put_word.Goals as goal

pub spell-requires : goal.spell-requires
spell-requires c =
    let index = c.index_of-index.ensures in
    let pre = c.requires in
    let most = pre.0.length.most in
    (pre.0, pre.1, le_of_eq (sym index.1), omega arith, rw (whole_index _ index.1, index.0) pre.3)

pub put_levels-requires : goal.put_levels-requires
put_levels-requires c =
    let spelt = cells_spelt c.args.p c.requires.3 _ _ c.index_of-index.ensures.1 c.index_of-index.ensures.0 c.spell.ensures in
    let room = simp length-append at (rw (line_parts_lem c.args.p c.args.i c.requires.2 spelt) at c.requires.4) in
    omega arith

pub put-requires-2 : goal.put-requires-2
put-requires-2 c =
    let spelt = cells_spelt c.args.p c.requires.3 _ _ c.index_of-index.ensures.1 c.index_of-index.ensures.0 c.spell.ensures in
    let room = simp length-append at (rw (line_parts_lem c.args.p c.args.i c.requires.2 spelt) at c.requires.4) in
    omega arith

pub put_message-requires : goal.put_message-requires
put_message-requires c =
    let spelt = cells_spelt c.args.p c.requires.3 _ _ c.index_of-index.ensures.1 c.index_of-index.ensures.0 c.spell.ensures in
    let room = simp length-append at (rw (line_parts_lem c.args.p c.args.i c.requires.2 spelt) at c.requires.4) in
    omega arith

pub put-requires-3 : goal.put-requires-3
put-requires-3 c =
    let spelt = cells_spelt c.args.p c.requires.3 _ _ c.index_of-index.ensures.1 c.index_of-index.ensures.0 c.spell.ensures in
    let room = simp length-append at (rw (line_parts_lem c.args.p c.args.i c.requires.2 spelt) at c.requires.4) in
    omega arith

pub returns : goal.returns
returns c =
    let spelt = cells_spelt c.args.p c.requires.3 _ _ c.index_of-index.ensures.1 c.index_of-index.ensures.0 c.spell.ensures in
    rw (line_parts_lem c.args.p c.args.i c.requires.2 spelt)
    (puts_more c.put_decimal.ensures (puts_more c.put.ensures (puts_more c.put_levels.ensures (puts_more c.put-2.ensures (puts_more c.put_message.ensures c.put-3.ensures)))))
