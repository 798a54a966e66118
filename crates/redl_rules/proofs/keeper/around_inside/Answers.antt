use Rattle.std.proofs.Common.{◌∙◌, ap, sym}
use Rattle.redl_tree.specs.Model.View.{tag_of, kids_of}
use Rattle.redl_visit.specs.declared.ancestors.Ancestors.{Ancestors}
use Rattle.redl_visit.specs.Summaries.{ancestors_inside}
use Rattle.redl_visit.proofs.VisitLaws.{some_inner}
use Rattle.redl_rules.proofs.keeper.around_inside.Goals as goal

pub returns-in-Some : goal.returns-in-Some
returns-in-Some c =
    ap (λ (a : Ancestors). a.around)
    (some_inner ancestors_inside (tag_of c.args.elem.now) (kids_of c.args.elem.now) c.args.here.now c.in-Some.inner (sym c.in-Some.is ∙ c.requires))
