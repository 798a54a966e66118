use Rattle.std.proofs.Common.{List, All, subst}
use Rattle.redl_journal.specs.declared.entry.Entry.{Entry}
use Rattle.redl_journal.specs.Journals.{IsAllowed}
use Rattle.redl_join.proofs.book.Book.entries.Goals as goal

pub returns-clause-allowed : goal.returns-clause-allowed
returns-clause-allowed c = subst (λ (entries : List Entry). All IsAllowed entries) c.self.view_is c.self.invariant.allowed
