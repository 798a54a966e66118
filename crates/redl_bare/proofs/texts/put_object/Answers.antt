use Rattle.std.proofs.Common.{[], ◌∷◌, sym, ap, refl, ◌∙◌}
use Rattle.redl_bare.specs.Units.{text, object}
use Rattle.redl_bare.specs.Inside.Views.{fields_view, marks_view}
use Rattle.redl_bare.proofs.FieldLaws.{object_kept, object_goes}
use Rattle.redl_bare.proofs.LineLaws.{one_done}
use Rattle.redl_bare.proofs.TextPuts.{texts_go}
use Rattle.redl_bare.proofs.texts.put_object.Goals as goal

pub returns-then-not-pass : goal.returns-then-not-pass
returns-then-not-pass g c =
    let what = c.args.what in
    let f = fields_view c.args.writer.now.fields in
    texts_go c.args.writer.now _ (object what ∷ []) (object_goes (marks_view c.args.writer.now.marks) f what (sym c.pass.ensures.shown ∙ c.if-not-pass.true)) refl refl c.pass.ensures.after refl

pub returns : goal.returns
returns g c =
    let what = c.args.what in
    let marks = marks_view c.args.writer.now.marks in
    one_done c.args.writer.now _ (text marks (object what)) _ (object_kept marks (fields_view c.args.writer.now.fields) what (sym c.pass.ensures.shown ∙ c.if-not-pass.false))
    (rw c.name.ensures at c.put_named.ensures.puts) c.put_named.ensures.after (ap fields_view c.put_named.ensures.fields ∙ c.pass.ensures.after) c.put_named.ensures.marks
