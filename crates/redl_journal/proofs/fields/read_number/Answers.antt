use Rattle.std.proofs.Common.{sym, ◌∙◌, rules, refl}
use Rattle.redl_journal.proofs.Parts.{number_not_text, number_not_parsed, number_other, number_same}
use Rattle.redl_journal.proofs.fields.read_number.Goals as goal

pub returns-in_default : goal.returns-in_default
returns-in_default c = number_not_text c.args.digits.now c.in_default.ensures.cases.0

pub returns-in_default-parse : goal.returns-in_default-parse
returns-in_default-parse c =
    rw c.in-Ok.ensures.cases.0 at (number_not_parsed c.in-Ok.text.now c.parse.result c.parse.ensures.value.0 (rw c.in_default-parse.is refl))

pub returns-then-eq : goal.returns-then-eq
returns-then-eq c =
    rw c.in-Ok.ensures.cases.0 at (number_same c.in-Ok.text.now c.format.result.now c.in-Ok-parse.number (search rules) c.format.ensures.text (sym c.eq.ensures ∙ c.if-eq.true))

pub returns-else-eq : goal.returns-else-eq
returns-else-eq c =
    rw c.in-Ok.ensures.cases.0 at (number_other c.in-Ok.text.now c.format.result.now c.in-Ok-parse.number c.parse.result c.parse.ensures.value.0 c.in-Ok-parse.is c.format.ensures.text (sym c.eq.ensures ∙ c.if-eq.false))
