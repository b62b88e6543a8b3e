-- `code_as_text::put_header` meets its contract: the parts of the header are put one behind another.
use Rattle.text.specs.WriterLaws.{puts_more}
use Rattle.code_as_text.specs.Printed.{header}
use Rattle.code_as_text.proofs.put_header.Goals as goal

pub returns : goal.returns
unfolding header
returns c =
    let count = rw c.requires.0 at c.put_decimal.ensures in
    let length = rw c.requires.1 at c.put_decimal-2.ensures in
    puts_more c.put_profile.ensures (puts_more c.put.ensures (puts_more count (puts_more c.put-2.ensures (puts_more length c.put-3.ensures))))
