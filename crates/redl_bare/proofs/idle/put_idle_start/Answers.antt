use Rattle.std.proofs.Common.{[], sym, ap, ◌∙◌, if◌then◌else◌}
use Rattle.redl_bare.specs.Units.{in_marks, start_texts}
use Rattle.redl_bare.specs.Inside.Idle.{numbers, numbered, tag_with}
use Rattle.redl_bare.specs.Inside.UnitLaws.{no_units}
use Rattle.redl_bare.specs.Inside.Views.{marks_view}
use Rattle.redl_bare.proofs.FieldLaws.{numbers_back}
use Rattle.redl_bare.proofs.LineLaws.{units_by}
use Rattle.redl_bare.proofs.idle.put_idle_start.Goals as goal

pub returns-then-is_open : goal.returns-then-is_open
returns-then-is_open g c =
    let marks = marks_view c.args.writer.now.marks in
    let texts = start_texts (tag_with c.args.local.now c.args.tail.now) in
    units_by (ap (λ b. in_marks marks (numbered (numbers (if b then texts else [])))) (sym c.is_open.ensures ∙ c.if-is_open.true) ∙ ap (in_marks marks) (numbers_back texts))
    c.put_open_idle.ensures

pub returns : goal.returns
returns g c =
    let marks = marks_view c.args.writer.now.marks in
    let texts = start_texts (tag_with c.args.local.now c.args.tail.now) in
    units_by (ap (λ b. in_marks marks (numbered (numbers (if b then texts else [])))) (sym c.is_open.ensures ∙ c.if-is_open.false)) (no_units c.args.writer.now)
