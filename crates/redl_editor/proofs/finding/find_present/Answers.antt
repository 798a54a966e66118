use Rattle.std.proofs.Common.{◌≤◌, ◌<◌, ◌∙◌, length, ap, sym, arith}
use Rattle.redl_leaves.specs.Lends.{lent_nodes}
use Rattle.redl_editor.proofs.FindLaws.{story-past, story-there}
use Rattle.redl_editor.proofs.KeptLaws.{kept-tables, kept-here}
use Rattle.redl_editor.proofs.finding.find_present.Goals as goal

pub returns-in_err-table : goal.returns-in_err-table
returns-in_err-table c = λ says parts kept.
    let many = kept-tables says parts c.args.stories.now c.args.tables.now kept in
    let past : length c.args.stories.now ≤ c.args.story = omega (arith, many, c.in_err-table.ensures.lookup) in
    ap lent_nodes c.from_residual-in_err-table.ensures ∙ sym (story-past c.args.stories.now c.args.story c.args.place past)

pub returns : goal.returns
returns c = λ says parts kept.
    let stories = c.args.stories.now in
    let tables = c.args.tables.now in
    let lt : c.args.story < length stories = omega (arith, c.in_ok-kept.ensures.lookup) in
    let here = kept-here says parts stories tables c.args.story c.in_ok-kept.kept.now c.in_ok-table.table.now kept lt c.in_ok-kept.ensures.lookup.1 c.in_ok-table.ensures.lookup.1 in
    c.find_in.ensures here.kept.table ∙ sym (story-there stories c.args.story c.args.place c.in_ok-kept.kept.now lt c.in_ok-kept.ensures.lookup.1)
