-- What the format says for all lines, it says when these lines are in it and it is closed.
use Rattle.std.proofs.Common.{◌∙◌}
use Rattle.redl_report.proofs.making.report_in.Goals as goal

pub add_lines-requires-clause-open : goal.add_lines-requires-clause-open
add_lines-requires-clause-open g c = c.requires.fresh.0

pub returns-clause-made : goal.returns-clause-made
returns-clause-made g c =
    let given = rw c.requires.fresh.1 at c.in_ok-add_lines.ensures.lines in
    c.in_ok-finish.ensures.text ∙ rw (c.requires.empty, given) (c.in_ok-add_lines.ensures.same_format c.args.lines.now)
