-- `write_stream::Messages::check_bits` meets its contract: a count that 7 does not refuse is of few bits, which the bytes hold.
use Rattle.std.proofs.Common.{refl}
use Rattle.write_stream.specs.RefusalLaws.{counted, few_bits, few_words}
use Rattle.write_stream.proofs.Messages.check_bits.Goals as goal

pub check_behind-requires : goal.check_behind-requires
check_behind-requires c =
    let m = c.args.self.now in
    let count = counted _ _ _ m.ready.length c.in_ok-check_count.ensures refl in
    (few_bits count m.short.1, count.held)

pub stream_length-requires : goal.stream_length-requires
stream_length-requires c =
    let m = c.args.self.now in
    (m.ready.carrying.in_range, few_words (counted _ _ _ m.ready.length c.in_ok-check_count.ensures refl))
