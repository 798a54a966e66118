-- What the format says for all rows, it says when these rows are in it and it is closed.
use Rattle.std.proofs.Common.{◌∙◌}
use Rattle.redl_listing.specs.Rows.{listed_rows}
use Rattle.redl_listing.proofs.listing.list_in.Goals as goal

pub add_rows-requires-clause-open : goal.add_rows-requires-clause-open
add_rows-requires-clause-open g c = c.requires.fresh.0

pub returns-clause-listed : goal.returns-clause-listed
returns-clause-listed g c =
    let all = listed_rows c.args.listed.now c.args.details.items in
    let rows = rw c.requires.fresh.1 at c.in_ok-add_rows.ensures.rows in
    c.in_ok-finish.ensures.text ∙ rw (c.requires.empty, rows) (c.in_ok-add_rows.ensures.same_format all)
