use Rattle.std.proofs.Common.{[], ◌∷◌, ◌++◌, map, sym, ap, refl, ◌∙◌}
use Rattle.redl_shown.specs.Shown.{shown}
use Rattle.redl_bare.specs.Units.{byte, object, in_marks}
use Rattle.redl_bare.specs.Inside.UnitLaws.{units_then, units_fail}
use Rattle.redl_bare.specs.Inside.Views.{marks_view}
use Rattle.redl_bare.specs.declared.object.Object.TheVariants.{FieldBegin, FieldSeparate}
use Rattle.redl_bare.proofs.FieldLaws.{field_units}
use Rattle.redl_bare.proofs.texts.put_field.Goals as goal

pub returns-in_err-put_object : goal.returns-in_err-put_object
returns-in_err-put_object g c =
    units_fail _ (field_units (marks_view c.args.writer.now.marks) (shown c.args.code.now)) refl c.from_residual.ensures.1 c.in_err-put_object.ensures

pub returns-in_err-put_shown_texts : goal.returns-in_err-put_shown_texts
returns-in_err-put_shown_texts g c =
    let marks = marks_view c.args.writer.now.marks in
    let code = map byte (shown c.args.code.now) in
    units_then
    (field_units marks (shown c.args.code.now)
    ∙ ap (λ m. in_marks marks (object FieldBegin ∷ []) ++ (in_marks (marks_view m) code ++ in_marks (marks_view m) (object FieldSeparate ∷ []))) (sym c.in_ok-put_object.ensures.after.marks))
    c.in_ok-put_object.ensures
    (units_fail _ refl refl c.from_residual-in_err-put_shown_texts.ensures.1 c.in_err-put_shown_texts.ensures)

pub returns : goal.returns
returns g c =
    let marks = marks_view c.args.writer.now.marks in
    let later = marks_view c.put_object.new.writer.marks in
    let code = map byte (shown c.args.code.now) in
    units_then
    (field_units marks (shown c.args.code.now)
    ∙ ap (λ m. in_marks marks (object FieldBegin ∷ []) ++ (in_marks (marks_view m) code ++ in_marks (marks_view m) (object FieldSeparate ∷ []))) (sym c.in_ok-put_object.ensures.after.marks))
    c.in_ok-put_object.ensures
    (units_then (ap (λ m. in_marks later code ++ in_marks (marks_view m) (object FieldSeparate ∷ [])) (sym c.in_ok-put_shown_texts.ensures.after.marks)) c.in_ok-put_shown_texts.ensures c.put_object-2.ensures)
