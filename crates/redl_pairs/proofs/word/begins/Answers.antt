use Rattle.std.proofs.Common.{◌∙◌, inl, inr, sym}
use Rattle.std.proofs.lemmas.Bool.{cases_Bool}
use Rattle.redl_reading.specs.Lists.{begins}
use Rattle.redl_reading.proofs.Words.{begins_none, none_begins}
use Rattle.redl_pairs.proofs.word.begins.Goals as goal

pub returns-in-Some : goal.returns-in-Some
returns-in-Some c =
    elim (cases_Bool (begins c.args.word.now c.args.text.now)) [
      | inl h ↦ sym h
      | inr h ↦ absurd (let none = none_begins c.args.word.now c.args.text.now h in let some = c.in-Some.ensures in cc)
    ]

pub returns-in-None : goal.returns-in-None
returns-in-None c = sym (begins_none c.args.word.now c.args.text.now c.in-None.ensures)
