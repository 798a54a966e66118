use Rattle.std.proofs.Common.{map, sym, ap, refl, ◌∙◌}
use Rattle.redl_bare.specs.Units.{byte, in_marks}
use Rattle.redl_bare.specs.Fields.{uncounted}
use Rattle.redl_bare.specs.Inside.Texts.{is_silent}
use Rattle.redl_bare.specs.Inside.Views.{fields_view, marks_view}
use Rattle.redl_bare.proofs.FieldLaws.{silent_after, characters_stay, characters_go}
use Rattle.redl_bare.proofs.TextLaws.{none_by_length, some_by_length}
use Rattle.redl_bare.proofs.TextPuts.{characters_put, begin_fails, texts_go}
use Rattle.redl_bare.proofs.texts.put_characters.Goals as goal

pub returns-then-is_empty : goal.returns-then-is_empty
returns-then-is_empty g c =
    let b = c.args.bytes.now in
    let none = none_by_length b c.is_empty.result c.is_empty.ensures c.if-is_empty.true in
    texts_go c.args.writer.now _ (map byte b) (ap (λ l. uncounted (fields_view c.args.writer.now.fields) (in_marks (marks_view c.args.writer.now.marks) (map byte l))) none) refl refl c.read.ensures refl

pub returns-then-are_silent : goal.returns-then-are_silent
returns-then-are_silent g c =
    let b = c.args.bytes.now in
    let f = fields_view c.args.writer.now.fields in
    let silent = sym (silent_after f b) ∙ ap is_silent (sym c.read.ensures) ∙ sym c.are_silent.ensures ∙ c.if-are_silent.true in
    texts_go c.args.writer.now _ (map byte b) (characters_go (marks_view c.args.writer.now.marks) f b silent) refl refl c.read.ensures refl

pub returns-in_err-begin : goal.returns-in_err-begin
returns-in_err-begin g c =
    let b = c.args.bytes.now in
    let f = fields_view c.args.writer.now.fields in
    let some = some_by_length b c.is_empty.result c.is_empty.ensures c.if-is_empty.false in
    let heard = sym (silent_after f b) ∙ ap is_silent (sym c.read.ensures) ∙ sym c.are_silent.ensures ∙ c.if-are_silent.false in
    begin_fails c.args.writer.now b some (characters_stay (marks_view c.args.writer.now.marks) f b heard) _ _ c.from_residual.ensures.1 c.in_err-begin.ensures.puts

pub returns : goal.returns
returns g c =
    let b = c.args.bytes.now in
    let f = fields_view c.args.writer.now.fields in
    let some = some_by_length b c.is_empty.result c.is_empty.ensures c.if-is_empty.false in
    let heard = sym (silent_after f b) ∙ ap is_silent (sym c.read.ensures) ∙ sym c.are_silent.ensures ∙ c.if-are_silent.false in
    characters_put c.args.writer.now b some (characters_stay (marks_view c.args.writer.now.marks) f b heard) c.begin.new.writer _ c.put_escaped.result
    c.in_ok-begin.ensures.puts c.put_escaped.ensures c.in_ok-begin.ensures.after (ap fields_view c.in_ok-begin.ensures.fields ∙ c.read.ensures) c.in_ok-begin.ensures.marks
