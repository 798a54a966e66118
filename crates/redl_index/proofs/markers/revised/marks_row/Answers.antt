use Rattle.std.proofs.Common.{◌∙◌, false, is_some, ap}
use Rattle.redl_tree.specs.Model.View.{item_of}
use Rattle.redl_tree.specs.Roles.Places.{row_trace_of}
use Rattle.redl_tree.proofs.Idle.Roles.{no_row_trace}
use Rattle.redl_tree.proofs.Model.Laws.{item_of-Plain}
use Rattle.redl_rules.proofs.KidLaws.{is_none}
use Rattle.redl_index.proofs.markers.revised.marks_row.Goals as goal

pub returns-in-Plain : goal.returns-in-Plain
returns-in-Plain c =
    let t = c.in-Plain.field-0 in
    is_none (λ tag. is_some (row_trace_of tag)) (λ tag i. ap is_some (no_row_trace false tag i)) (item_of c.args.node.now) t (ap item_of c.in-Plain.is ∙ item_of-Plain t)
