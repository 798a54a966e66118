use Rattle.std.proofs.Common.{sym, ap, ◌∙◌}
use Rattle.redl_props.proofs.UncoveredLaws.{idle_uncovered}
use Rattle.redl_tree.proofs.Model.Laws.{item_of-Plain}
use Rattle.redl_tree.specs.Model.Kids.{item_is}
use Rattle.redl_tree.specs.Decisions.Restored.{is_uncovered as is_uncovered_tag}
use Rattle.redl_tree.specs.Model.View.{item_of}
use Rattle.redl_props.proofs.uncovered.is_uncovered_node.Goals as goal

pub returns-in-Plain : goal.returns-in-Plain
returns-in-Plain c =
    let test = is_uncovered_tag c.args.what in
    sym (ap (λ x. item_is test (item_of x)) c.in-Plain.is ∙ ap (item_is test) (item_of-Plain _) ∙ idle_uncovered c.args.what _)
