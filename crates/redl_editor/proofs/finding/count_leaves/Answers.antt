use Rattle.std.proofs.Common.{◌∙◌, sym, arith}
use Rattle.redl_editor.proofs.FindLaws.{count-here, count-past}
use Rattle.redl_editor.proofs.finding.count_leaves.Goals as goal

pub returns-in-Some : goal.returns-in-Some
returns-in-Some c = λ says parts stories kept.
    let here = count-here says parts stories c.args.tables.now kept c.args.story c.in-Some.table.now (omega (arith, c.in-Some.ensures.lookup)) c.in-Some.ensures.lookup.1 in
    c.count.ensures here.all here.has ∙ here.count

pub returns-in-None : goal.returns-in-None
returns-in-None c = λ says parts stories kept.
    sym (count-past says parts stories c.args.tables.now kept c.args.story (omega (arith, c.in-None.ensures.lookup)))
