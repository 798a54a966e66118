use Rattle.std.proofs.Common.{◌==◌}
use Rattle.std.proofs.lemmas.Bool.{false_from_ne_true, eqb-true}
use Rattle.redl_commands.proofs.NoteLaws.{marks_are_noted, none_noted}
use Rattle.redl_lines.specs.Remarks.{remarks_view}
use Rattle.redl_tree.specs.Model.View.{nodes_of}
use Rattle.redl_commands.proofs.notes.note_marks.Goals as goal

pub returns-then-number-eq0 : goal.returns-then-number-eq0
returns-then-number-eq0 c =
    none_noted (remarks_view c.args.remarks.now) (nodes_of c.args.nodes.now) c.count_undecided-number.result c.count_undecided-number.ensures c.if-number-eq0.true

pub returns : goal.returns
returns c =
    let number = c.count_undecided-number.result in
    let other = false_from_ne_true (number == 0) (λ is. c.if-number-eq0.false (eqb-true number 0 is)) in
    marks_are_noted (remarks_view c.args.remarks.now) (nodes_of c.args.nodes.now) number c.push.new.self.items c.count_undecided-number.ensures other c.in_ok-push.ensures.items
