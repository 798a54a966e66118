use Rattle.std.proofs.Common.{refl}
use Rattle.redl_page_stories.proofs.sign.change_before_author.Goals as goal

pub returns-in-Run : goal.returns-in-Run
returns-in-Run c = rw c.in-Run.is refl

pub returns-in-Para : goal.returns-in-Para
returns-in-Para c = rw c.in-Para.is refl

pub returns-in-Sect : goal.returns-in-Sect
returns-in-Sect c = rw c.in-Sect.is refl

pub returns-in-Table : goal.returns-in-Table
returns-in-Table c = rw c.in-Table.is refl

pub returns-in-Except : goal.returns-in-Except
returns-in-Except c = rw c.in-Except.is refl

pub returns-in-Row : goal.returns-in-Row
returns-in-Row c = rw c.in-Row.is refl

pub returns-in-Cell : goal.returns-in-Cell
returns-in-Cell c = rw c.in-Cell.is refl
