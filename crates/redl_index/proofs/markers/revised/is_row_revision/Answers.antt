use Rattle.std.proofs.Common.{◌∙◌, refl, is_some, false, rules, tests}
use Rattle.std.proofs.lemmas.Iterator.{YieldsList-from_slice}
use Rattle.std.proofs.lemmas.Iterator.Search.{any_from_yields_List}
use Rattle.redl_tree.specs.Model.View.{item_of}
use Rattle.redl_tree.specs.Roles.Places.{row_trace_of}
use Rattle.redl_tree.proofs.Idle.Lists.{name_none}
use Rattle.redl_index.specs.Inside.Markers.Trails.{makes_revised}
use Rattle.redl_index.proofs.MarkerLaws.Elements.{any_revision}
use Rattle.redl_index.proofs.markers.revised.is_row_revision.Goals as goal

pub returns : goal.returns
returns c =
    any_from_yields_List (λ node. makes_revised "trPr" (λ tag. is_some (row_trace_of tag)) (item_of node)) _ _ _ c.any.ensures.ran (YieldsList-from_slice c.args.kids.now cc) (λ x b q k. search (rules, tests))
    ∙ any_revision (λ tag. is_some (row_trace_of tag)) "trPr" (name_none "trPr" false refl) c.args.kids.now
