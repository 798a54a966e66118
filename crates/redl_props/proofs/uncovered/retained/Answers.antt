use Rattle.std.proofs.Common.{◌∙◌, ap, rules}
use Rattle.std.proofs.lemmas.Fn.{filter_same}
use Rattle.redl_tree.specs.Model.Kids.{item_is}
use Rattle.redl_tree.specs.Decisions.Restored.{is_uncovered as is_uncovered_tag}
use Rattle.redl_tree.specs.Model.View.{nodes_of, item_of}
use Rattle.redl_tree.proofs.Model.KeptLaws.{filter_only}
use Rattle.redl_props.proofs.UncoveredLaws.{none_uncovered}
use Rattle.redl_props.proofs.uncovered.retained.Goals as goal

pub returns : goal.returns
returns c =
    ap nodes_of (filter_same _ (λ x. item_is (is_uncovered_tag c.args.what) (item_of x)) _ (λ x b f' k. search rules) _ _ c.retain.ensures.filtered)
    ∙ filter_only (is_uncovered_tag c.args.what) (none_uncovered c.args.what) c.args.current.items
