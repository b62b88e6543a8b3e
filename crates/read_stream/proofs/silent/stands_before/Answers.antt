use Rattle.read_stream.specs.WalkLaws.{library_order}
use Rattle.read_stream.proofs.silent.stands_before.Goals as goal

pub returns : goal.returns
returns c = library_order c.args.first.now c.args.second.now _ c.requires c.lt.ensures
