use Rattle.std.proofs.Common.{◌∙◌, is_some, rules, tests}
use Rattle.std.proofs.lemmas.Iterator.{YieldsList-from_slice}
use Rattle.std.proofs.lemmas.Iterator.Search.{any_from_yields_List}
use Rattle.redl_tree.specs.Model.Kids.{item_is}
use Rattle.redl_tree.specs.Model.View.{item_of}
use Rattle.redl_tree.specs.Roles.Places.{row_trace_of}
use Rattle.redl_index.proofs.MarkerLaws.Elements.{any_mark}
use Rattle.redl_index.proofs.markers.revised.has_row_trace.Goals as goal

pub returns : goal.returns
returns c =
    any_from_yields_List (λ node. item_is (λ tag. is_some (row_trace_of tag)) (item_of node)) _ _ _ c.any.ensures.ran (YieldsList-from_slice c.args.nodes.now cc) (λ x b q k. search (rules, tests))
    ∙ any_mark (λ tag. is_some (row_trace_of tag)) c.args.nodes.now
