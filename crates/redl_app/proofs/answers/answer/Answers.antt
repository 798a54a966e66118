use Rattle.std.proofs.Common.{All, IsUtf8, subst, sym}
use Rattle.redl_app.proofs.answers.answer.Goals as goal

pub run_words-requires : goal.run_words-requires
run_words-requires g c = record { utf8 = subst (All IsUtf8) (sym c.deref-in-None.ensures.value) (rw c.in-Ok.is at c.requires.utf8) }

pub returns-in-None-clause-answers : goal.returns-in-None-clause-answers
returns-in-None-clause-answers g c = rw (c.in-Ok.is, ← c.deref-in-None.ensures.value) (λ none. c.run_words.ensures.answers)
