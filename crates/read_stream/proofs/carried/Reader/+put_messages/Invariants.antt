-- `read_stream::carried::Reader::put_messages` ends because the part that is handed on is shorter.
use Rattle.std.proofs.Common.{length}
use Rattle.read_stream.proofs.carried.Reader.+put_messages.Given as goal

-- The cells left.
abbrev pub decreases-put_messages : goal.decreases-put_messages
decreases-put_messages l = length l.part.now
