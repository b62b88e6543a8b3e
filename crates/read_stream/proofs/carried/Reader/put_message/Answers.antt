-- `read_stream::carried::Reader::put_message` meets its contract.
use Rattle.std.proofs.Common.{arith}
use Rattle.read_stream.specs.OutputLaws.{few_bits, word_indexable, index_held, message_held, message_put}
use Rattle.read_stream.proofs.carried.Reader.put_message.Goals as goal

pub put_index-requires : goal.put_index-requires
put_index-requires c = let r = c.args.self.now in word_indexable r.found r.limbs c.requires.0

pub message-message-requires : goal.message-message-requires
message-message-requires c =
    let r = c.args.self.now in
    rw (index_held r.found r.limbs c.requires.0 c.put_index.ensures) c.requires.0.first

pub put_number-requires : goal.put_number-requires
put_number-requires c = (omega arith, omega (arith, few_bits c.args.self.now.found), omega arith, omega arith)

pub returns : goal.returns
returns c =
    let r = c.args.self.now in
    message_put _ _ _ (message_held r.found r.limbs c.requires.0 c.put_index.ensures c.message-message.ensures) c.put_number.ensures
