use Rattle.std.proofs.Common.{◌≡◌, ◌∙◌, ℕ, List, ap, subst, IfOk}
use Rattle.redl_commands.specs.Notes.{locked_numbers, noting_gone, with_result_notes}
use Rattle.redl_commands.specs.Views.{writing_view}
use Rattle.redl_commands.specs.Write.{left_nodes}
use Rattle.redl_lines.specs.Remarks.{Remarks, remarks_view}
use Rattle.redl_tree.specs.Model.Nodes.{Nodes}
use Rattle.redl_tree.specs.Model.Text.{text}
use Rattle.redl_tree.specs.Model.View.{nodes_of}
use Rattle.redl_commands_write.proofs.write.resolve.Goals as goal

pub returns : goal.returns
returns c =
    let state = c.args.admitted.session in
    let before : Remarks = remarks_view c.args.admitted.remarks in
    let left : nodes_of c.in_ok-nodes.nodes.items ≡ left_nodes state = c.in_ok-nodes.ensures.passed in
    let numbers : c.deref.result.now ≡ locked_numbers c.args.locks.now state.revisions =
    c.deref.ensures.value ∙ c.in_ok-locked.ensures ∙ ap (locked_numbers c.args.locks.now) (c.revisions.ensures.value ∙ c.index.ensures) in
    let told : remarks_view c.note_gone.new.remarks ≡ noting_gone (left_nodes state) (locked_numbers c.args.locks.now state.revisions) before =
    c.in_ok-note_gone.ensures
    ∙ ap (λ (nodes : Nodes). noting_gone nodes c.deref.result.now before) (ap nodes_of c.deref-2.ensures.value ∙ left)
    ∙ ap (λ (ns : List ℕ). noting_gone (left_nodes state) ns before) numbers in
    let Makes : Nodes → Remarks → Type 0 =
    λ nodes remarks. IfOk c.package.result (λ writing. writing_view writing ≡ with_result_notes nodes (record { bytes = text nodes; remarks = remarks })) in
    subst (Makes (left_nodes state)) told (subst (λ (nodes : Nodes). Makes nodes (remarks_view c.note_gone.new.remarks)) left c.package.ensures)
