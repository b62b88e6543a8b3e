-- `write_stream::Messages::write_words` meets its contract. The loop's invariant: the stream of the first k messages stands at the front.
use Rattle.std.proofs.Common.{◌≡◌}
use Rattle.write_stream.specs.Steps.{with_stream}
use Rattle.write_stream.proofs.Messages.write_words.Given as goal

abbrev pub invariant-loop-k : goal.invariant-loop-k
invariant-loop-k l = l.out ≡ with_stream l.self.p l.self.s l.self.bytes.now l.k l.initial.out
