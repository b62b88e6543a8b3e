-- `index_of_word::put_index` meets its contract: a legal word begins with an open stretch, and its rows as they are counted there are its index.
use native.Mathlib.Omega.{arith}
use mathlib.Core.Path.{◌≡◌, ◌∙◌}
use mathlib.Core.List.{◌++◌}
use lib.ListN.{length, take, drop}
use lib.Seq.{take_at}
use Rattle.index_of_word.specs.Whole.{zeros, counts-length, countable, combinable, combined_index}
use Rattle.index_of_word.proofs.put_index.Goals as goal

pub open_stretch-requires : goal.open_stretch-requires
open_stretch-requires c = (omega arith, countable c.requires)

-- The counts come back as many as they were lent, and are lent again as they are.
pub combine-requires : goal.combine-requires
combine-requires c =
    let counts = c.open_stretch.new.counts in
    let m = length c.args.cells.now in
    let kept : length counts ≡ m = c.open_stretch.auto.counts ∙ counts-length c.requires in
    let lent : take m (counts ++ drop m (zeros 128)) ≡ counts = take_at _ _ _ kept in
    rw lent (combinable c.requires kept c.open_stretch.ensures c.span.ensures)

pub returns : goal.returns
returns c =
    let counts = c.open_stretch.new.counts in
    let m = length c.args.cells.now in
    let kept : length counts ≡ m = c.open_stretch.auto.counts ∙ counts-length c.requires in
    let lent : take m (counts ++ drop m (zeros 128)) ≡ counts = take_at _ _ _ kept in
    let index = combined_index c.requires kept c.open_stretch.ensures in
    rw (c.combine.ensures, lent, index)
