-- `write_stream::Messages::check_count` meets its contract.
use Rattle.std.proofs.Common.{◌∙◌}
use Rattle.write_stream.specs.RefusalLaws.{count_refused}
use Rattle.write_stream.proofs.Messages.check_count.Goals as goal

pub returns : goal.returns
returns c =
    let m = c.args.self.now in
    rw c.div_ceil.ensures at c.refuse_if.ensures ∙ count_refused m.p m.bytes.now c.args.bits m.ready.length
