use Rattle.std.proofs.Common.{ap, ◌∙◌, Option}
use Rattle.redl_left.specs.Lines.{ends_same}
use Rattle.redl_left.specs.declared.line.Line.{Line}
use Rattle.redl_left.proofs.notes.ends_same.Goals as goal

pub returns-in-Some : goal.returns-in-Some
returns-in-Some c = λ fact.
    c.is_same.ensures fact
    ∙ ap (λ (o : Option Line). ends_same o (record { fact = fact; part = c.args.part.now; value = c.args.value.now })) c.in-Some.ensures.value
