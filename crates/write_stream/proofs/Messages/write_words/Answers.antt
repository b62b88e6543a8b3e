use Rattle.std.proofs.Common.{sym}
use Rattle.write_stream.specs.NextLaws.{no_words}
use Rattle.write_stream.proofs.Messages.write_words.Goals as goal

pub loop-k-init : goal.loop-k-init
loop-k-init c = sym (no_words _ _ _ _)
