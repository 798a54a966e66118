use Rattle.std.proofs.Common.{◌∙◌, ◌++◌, ap, nat_lt, length}
use Rattle.std.specs.Prelude.{not}
use Rattle.redl_commands.proofs.NoteLaws.{noted_each, with_notes}
use Rattle.redl_commands.specs.Notes.{noted_if}
use Rattle.redl_io.specs.Limits.{depth, package_bytes}
use Rattle.redl_lines.specs.Remarks.{remarks_view}
use Rattle.redl_lines.specs.declared.note.Obstacle.TheVariants as obstacle
use Rattle.redl_reread_sound.specs.Together.{meet_well}
use Rattle.redl_tree.specs.Model.Shapes.{depth_of}
use Rattle.redl_tree.specs.Model.Text.{text}
use Rattle.redl_tree.specs.Model.View.{nodes_of}
use Rattle.redl_commands.proofs.notes.note_again.Goals as goal

pub returns : goal.returns
returns c =
    let start = remarks_view c.args.remarks.now in
    let one = remarks_view c.note_if.new.remarks in
    let two = remarks_view c.note_if-2.new.remarks in
    let nodes = nodes_of c.args.nodes.now in
    noted_each one two (remarks_view c.note_if-3.new.remarks) start (noted_if (nat_lt depth (depth_of nodes)) obstacle.Depth)
    (noted_if (nat_lt package_bytes (length (text nodes))) obstacle.Bytes) (noted_if (not (meet_well nodes)) obstacle.Meeting)
    (c.in_ok-note_if.ensures ∙ ap (λ b. with_notes start (start.notes ++ noted_if b obstacle.Depth)) c.of-found.ensures.too_deep)
    (c.in_ok-note_if-2.ensures ∙ ap (λ b. with_notes one (one.notes ++ noted_if b obstacle.Bytes)) c.of-found.ensures.too_long)
    (c.in_ok-note_if-3.ensures ∙ ap (λ b. with_notes two (two.notes ++ noted_if b obstacle.Meeting)) c.of-found.ensures.meets_badly)
