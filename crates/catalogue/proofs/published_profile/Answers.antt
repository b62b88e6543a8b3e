-- `catalogue::published_profile` meets its contract: what the constant holds at the row's number is the row.
use Rattle.std.proofs.Common.{rules, ◌<◌, ◌∙◌, get_or-take}
use Rattle.catalogue.specs.declared.TheConstants.{ROWS}
use Rattle.catalogue.specs.declared.rows.TheConstants.{PUBLISHED}
use Rattle.catalogue.proofs.RowsRight.{row_published}
use Rattle.catalogue.proofs.published_profile.Goals as goal

pub returns : goal.returns
returns c =
    let told : c.args.row < ROWS = search rules in
    row_published c.args.row c.in-Some.field-0.now (search rules) (c.in-Some.ensures.lookup.1 ∙ get_or-take ROWS PUBLISHED c.args.row c.in-Some.field-0.now told)
