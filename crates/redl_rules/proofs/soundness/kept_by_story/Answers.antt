use Rattle.std.proofs.Common.{◌∙◌}
use Rattle.redl_tree.specs.Model.View.{tag_of, kids_of}
use Rattle.redl_visit.specs.Summaries.{ancestors_inside}
use Rattle.redl_visit.proofs.VisitLaws.{needs-nothing}
use Rattle.redl_rules.specs.Visiting.{keeper_rule}
use Rattle.redl_rules.proofs.KeeperLaws.{story-kept}
use Rattle.redl_rules.proofs.soundness.kept_by_story.Goals as goal

pub visit_kids-requires : goal.visit_kids-requires
visit_kids-requires c =
    record { needs = needs-nothing ancestors_inside keeper_rule c.inside-inner.result c.at_root.result.1 (kids_of c.args.root.now) c.at_root.result.0.kept }

pub returns : goal.returns
returns c =
    c.in-Ok.ensures.state
    ∙ story-kept (tag_of c.args.root.now) (kids_of c.args.root.now) c.none.result c.inside-inner.result c.at_root.result.1 c.at_root.result.0.kept
    c.none.ensures c.inside-inner.ensures c.at_root.ensures.round c.at_root.ensures.kept
