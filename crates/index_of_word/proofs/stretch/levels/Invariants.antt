-- `index_of_word::stretch::levels` meets its contract. The loop's invariant: the levels so far are read.
use lib.ListN.{drop}
use Rattle.index_of_word.specs.IndexBehind.{digits}
use Rattle.index_of_word.specs.Levels.{Reading}
use Rattle.index_of_word.proofs.stretch.levels.Given as goal

abbrev pub invariant-loop-level : goal.invariant-loop-level
invariant-loop-level l = Reading l.top (digits l.top 0 l.cells) l.level-index l.number (drop l.level-index l.cells)
