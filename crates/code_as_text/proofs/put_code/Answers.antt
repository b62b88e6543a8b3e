-- `code_as_text::put_code` meets its contract: the header is put, and the lines of all words behind it.
use Rattle.std.proofs.Common.{ap, ◌∙◌, le_of_eq, arith, length-append}
use Rattle.text.specs.WriterLaws.{puts_more}
use Rattle.code_as_text.specs.Printed.{last_carrying}
use Rattle.code_as_text.specs.StatedLaws.{small-length}
use Rattle.code_as_text.proofs.put_code.Goals as goal

pub put_header-requires : goal.put_header-requires
put_header-requires c =
    let room = simp length-append at c.requires.4 in
    (c.requires.2, c.stated_length-s.ensures, omega arith)

pub last_carrying-requires : goal.last_carrying-requires
last_carrying-requires c = rw c.stated_length-s.ensures (small-length c.args.p (rw c.requires.2 at c.requires.3))

pub put_words-requires : goal.put_words-requires
put_words-requires c =
    let pre = c.requires in
    let room = simp length-append at pre.4 in
    let last = c.last_carrying.ensures ∙ ap last_carrying c.stated_length-s.ensures in
    (pre.0, pre.1, last, le_of_eq pre.2, rw pre.2 (omega arith))

pub returns : goal.returns
returns c = puts_more c.put_header.ensures (rw c.requires.2 at c.put_words.ensures)
