use Rattle.std.proofs.Common.{refl, ap, ◌∙◌}
use Rattle.redl_sittings.specs.JoinedBooks.{decided}
use Rattle.redl_commands_resume.proofs.resume.leave.Goals as goal

pub returns-clause-first : goal.returns-clause-first
returns-clause-first c = record {
  document = c.id-document.ensures.id;
  decided_book = c.in_ok-decided.ensures ∙ ap decided c.book.ensures;
  numbers = c.in_ok-numbers.ensures.numbers;
  refused = refl;
}

pub returns-clause-text : goal.returns-clause-text
returns-clause-text c = c.in_ok-numbers.ensures.text
