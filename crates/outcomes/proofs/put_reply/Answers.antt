-- `outcomes::put_reply` meets its contract: the parts of what is told of a refusal are put one behind another.
use Rattle.std.proofs.Common.{ne_eqb}
use Rattle.text.specs.WriterLaws.{puts_more}
use Rattle.outcomes.specs.Outcomes.{reply_text}
use Rattle.outcomes.proofs.put_reply.Goals as goal

pub returns : goal.returns
unfolding reply_text
returns c =
    let number = rw c.from.ensures at c.put_decimal.ensures in
    rw (ne_eqb c.args.reply.number 0 c.if-reply-eq0.false)
    (puts_more c.put.ensures (puts_more number (puts_more c.put-2.ensures (puts_more c.put_decimal-2.ensures (puts_more c.put-3.ensures c.put_words-2.ensures)))))
