use Rattle.std.proofs.Common.{◌≡◌, true, false, sym, ◌∙◌}
use Rattle.redl_journal.proofs.EntryOrder.{entry_order-total}
use Rattle.redl_join.specs.Books.{has_entry}
use Rattle.redl_join.specs.Inside.Numbers.{has_number, is_numbered}
use Rattle.redl_join.proofs.Kept.{kept-without, numbered_there}
use Rattle.redl_join.proofs.Parts.{remove_absent}
use Rattle.redl_join.proofs.book.Book.remove.Goals as goal

pub invariant_of-self : goal.invariant_of-self
invariant_of-self c =
    let lacks : has_entry c.self.inside.entries c.args.entry.now ≡ false = sym c.remove.ensures.was_there ∙ c.if-not-remove.true in
    rw c.remove.ensures.removed (rw (remove_absent entry_order-total c.self.inside.entries c.args.entry.now lacks) c.self.invariant)

pub invariant_of-self-in-Some : goal.invariant_of-self-in-Some
invariant_of-self-in-Some c =
    let has : has_entry c.self.inside.entries c.args.entry.now ≡ true = sym c.remove.ensures.was_there ∙ c.if-not-remove.false in
    let given : has_number c.self.inside.numbers.entries c.args.entry.now.reviewer c.in-Some.number ≡ true = rw c.as_bytes-reviewer.ensures at c.in-Some.ensures.found in
    let words = rw (c.remove.ensures.removed, c.as_bytes-reviewer.ensures) at c.find_latest-words.ensures in
    rw c.remove.ensures.removed
    (kept-without c.self.inside.entries c.self.inside.numbers.entries c.self.inside.by_revision c.replace_words.new.by_revision c.args.entry.now c.in-Some.number c.self.invariant has given
    (rw words at c.replace_words.ensures))

pub invariant_of-self-in_default : goal.invariant_of-self-in_default
invariant_of-self-in_default c =
    let has : has_entry c.self.inside.entries c.args.entry.now ≡ true = sym c.remove.ensures.was_there ∙ c.if-not-remove.false in
    let there : is_numbered c.self.inside.numbers.entries c.args.entry.now.reviewer ≡ true =
    numbered_there c.self.inside.entries c.self.inside.numbers.entries c.self.inside.by_revision c.args.entry.now c.self.invariant has in
    let none : is_numbered c.self.inside.numbers.entries c.args.entry.now.reviewer ≡ false = rw c.as_bytes-reviewer.ensures at c.in_default.ensures.none in
    absurd cc
