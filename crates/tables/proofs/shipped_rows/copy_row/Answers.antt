-- `tables::shipped_rows::copy_row` meets its contract: what is read is the shipped row, which holds N(i).
use Rattle.tables.specs.Shipped.{shipped_limbs, row_copied}
use Rattle.tables.proofs.shipped_rows.copy_row.Goals as goal

pub returns : goal.returns
unfolding shipped_limbs
returns c = row_copied c.args.i c.args.out.now c.requires.0 c.store.ensures
