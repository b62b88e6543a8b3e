-- `write_stream::Messages::write_next` meets its contract: the first word stands at the front, any other behind its bridge.
use Rattle.write_stream.specs.CarrierLaws.{carries}
use Rattle.write_stream.specs.NextLaws.{place_fits, first_word, next_word}
use Rattle.write_stream.proofs.Messages.write_next.Goals as goal

pub returns-then-k-ne0 : goal.returns-then-k-ne0
returns-then-k-ne0 c lent e =
    let ready = c.args.self.now.ready in
    next_word _ (carries ready) ready.carrying.in_range.length.least _ lent c.if-k-ne0.true (place_fits c.requires).room e
    c.write_word.ensures c.write_bridge.ensures

pub returns-else-k-ne0 : goal.returns-else-k-ne0
returns-else-k-ne0 c lent e =
    let ready = c.args.self.now.ready in
    first_word _ (carries ready) ready.carrying.in_range.length.least _ lent c.if-k-ne0.false e c.write_word.ensures
