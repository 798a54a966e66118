use Rattle.std.proofs.Common.{◌∙◌, ap, not, rules}
use Rattle.std.proofs.lemmas.Fn.{filter_same}
use Rattle.redl_tree.specs.Model.Kids.{item_is}
use Rattle.redl_tree.specs.Decisions.Restored.{is_uncovered as is_uncovered_tag}
use Rattle.redl_tree.specs.Model.View.{nodes_of, item_of}
use Rattle.redl_tree.specs.declared.kinds.Prop.TheVariants.{Run}
use Rattle.redl_tree.proofs.Model.KeptLaws.{filter_without}
use Rattle.redl_props.proofs.UncoveredLaws.{none_uncovered}
use Rattle.redl_props.proofs.uncovered.without_marks.Goals as goal

pub returns : goal.returns
returns c =
    ap nodes_of (filter_same _ (λ x. not (item_is (is_uncovered_tag Run) (item_of x))) _ (λ x b f' k. search rules) _ _ c.retain.ensures.filtered)
    ∙ filter_without (is_uncovered_tag Run) (none_uncovered Run) c.args.kids.items
