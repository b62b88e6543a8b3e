use Rattle.std.proofs.Common.{◌≡◌, add-one, arith}
use Rattle.text.specs.WriterLaws.{puts_nothing, puts_more}
use Rattle.code_as_text.specs.Printed.{word_lines}
use Rattle.code_as_text.specs.ListedLaws.{line_fits}
use Rattle.code_as_text.proofs.put_words.Goals as goal

pub loop-i-init : goal.loop-i-init
unfolding word_lines
loop-i-init c = puts_nothing _ (omega (arith, c.requires.4))

pub put_word-requires : goal.put_word-requires
put_word-requires c =
    let pre = c.requires in
    let i = c.loop-i.i in
    (pre.0, pre.1, pre.2, omega arith, line_fits c.args.p i c.loop-i.invariant.put c.args.n (omega arith) pre.4)

pub loop-i-preserved : goal.loop-i-preserved
unfolding word_lines
loop-i-preserved c = rw add-one (puts_more c.loop-i.invariant c.put_word.ensures)

pub returns : goal.returns
returns c =
    let all : c.loop-i.i ≡ c.args.n = omega arith in
    rw (← all) c.loop-i.invariant
