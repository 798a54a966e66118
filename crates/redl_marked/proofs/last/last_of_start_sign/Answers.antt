use Rattle.std.proofs.Common.{sym, ap, ◌∙◌, codes}
use Rattle.redl_marked.specs.Signs.{start_sign}
use Rattle.redl_marked.specs.Inside.Walks.{last_of}
use Rattle.redl_marked.proofs.LastLaws.{content_last, change_last, word_last}
use Rattle.redl_marked.proofs.last.last_of_start_sign.Goals as goal

pub returns-in-Content : goal.returns-in-Content
returns-in-Content c = λ number.
    sym (ap (λ kind. last_of (start_sign kind number)) c.in-Content.is ∙ content_last c.in-Content.field-0 number)

pub returns-in-Change : goal.returns-in-Change
returns-in-Change c = λ number.
    sym (ap (λ kind. last_of (start_sign kind number)) c.in-Change.is ∙ change_last c.in-Change.field-0 number)

pub returns-in-Row : goal.returns-in-Row
returns-in-Row c = λ number.
    c.last_or.ensures ∙ ap last_of c.sign_end.ensures
    ∙ sym (ap (λ kind. last_of (start_sign kind number)) c.in-Row.is ∙ word_last c.in-Row.trace number (codes "row"))

pub returns-in-Cell : goal.returns-in-Cell
returns-in-Cell c = λ number.
    c.last_or-in-Cell.ensures ∙ ap last_of c.sign_end-in-Cell.ensures
    ∙ sym (ap (λ kind. last_of (start_sign kind number)) c.in-Cell.is ∙ word_last c.in-Cell.trace number (codes "cell"))
