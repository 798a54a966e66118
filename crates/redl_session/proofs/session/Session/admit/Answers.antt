use Rattle.std.proofs.Common.{◌≡◌, List, sym, ap, ◌∙◌}
use Rattle.redl_join.proofs.Lists.{sorted_insert}
use Rattle.redl_journal.proofs.EntryOrder.{entry_order-total}
use Rattle.redl_journal.specs.declared.entry.Entry.{Entry}
use Rattle.redl_session.proofs.Consistency.{book-repeat}
use Rattle.redl_session.specs.Sessions.{SessionState}
use Rattle.redl_session.proofs.session.Session.admit.Goals as goal

pub invariant_of-self : goal.invariant_of-self
invariant_of-self c = record {
  numbered = c.self.invariant.numbered;
  sound = c.self.invariant.sound;
  ordered = rw c.in-Ok-true.ensures.added (sorted_insert entry_order-total c.self.inside.book c.args.entry c.self.invariant.ordered);
}

pub invariant_of-self-in-Ok-false : goal.invariant_of-self-in-Ok-false
invariant_of-self-in-Ok-false c =
    let same : c.add_copy.new.book ≡ c.self.inside.book =
    book-repeat c.self.inside.book c.add_copy.new.book c.args.entry c.self.invariant.ordered c.in-Ok-false.ensures.added (sym c.in-Ok-false.field-0-test ∙ c.in-Ok-false.ensures.was_new) in
    rw same c.self.invariant

pub returns-in-Ok-false-clause-repeat : goal.returns-in-Ok-false-clause-repeat
returns-in-Ok-false-clause-repeat c =
    let same : c.add_copy.new.book ≡ c.self.inside.book =
    book-repeat c.self.inside.book c.add_copy.new.book c.args.entry c.self.invariant.ordered c.in-Ok-false.ensures.added (sym c.in-Ok-false.field-0-test ∙ c.in-Ok-false.ensures.was_new) in
    let with_book : List Entry → SessionState = λ book. record { nodes = c.self.inside.original; revisions = c.self.inside.index; locks = c.self.inside.locks; book = book } in
    λ _. ap with_book same ∙ c.self.view_is
