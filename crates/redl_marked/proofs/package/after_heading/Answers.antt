use Rattle.std.proofs.Common.{sym, ap, ◌∙◌}
use Rattle.std.specs.List.{last_or}
use Rattle.redl_marked.specs.MarkedText.{heading}
use Rattle.redl_marked.proofs.LastLaws.{heading_last}
use Rattle.redl_marked.proofs.package.after_heading.Goals as goal

pub returns-in-Some : goal.returns-in-Some
returns-in-Some c = λ name.
    sym (ap (λ before. last_or c.args.before (heading before name)) c.in-Some.is ∙ heading_last c.in-Some.field-0 name c.args.before)
