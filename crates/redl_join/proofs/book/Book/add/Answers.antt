use Rattle.redl_join.proofs.Kept.{kept-numbered, kept-words, kept-with, kept-back, has_given}
use Rattle.redl_join.proofs.book.Book.add.Goals as goal

pub invariant_of-self-in_err-before : goal.invariant_of-self-in_err-before
invariant_of-self-in_err-before c =
    let given = rw c.as_bytes.ensures at c.in_ok-number.ensures.given in
    let kept = kept-numbered c.self.inside.entries c.self.inside.numbers.entries c.give_number.new.numbers.entries c.self.inside.by_revision c.args.entry.reviewer c.in_ok-number.number c.self.invariant c.give_number.ensures.numbers given in
    kept-words c.self.inside.entries c.give_number.new.numbers.entries c.self.inside.by_revision c.add_words.new.by_revision kept c.in_err-before.ensures.err

pub invariant_of-self-in-Ok : goal.invariant_of-self-in-Ok
invariant_of-self-in-Ok c =
    let given = rw c.as_bytes.ensures at c.in_ok-number.ensures.given in
    let kept = kept-numbered c.self.inside.entries c.self.inside.numbers.entries c.give_number.new.numbers.entries c.self.inside.by_revision c.args.entry.reviewer c.in_ok-number.number c.self.invariant c.give_number.ensures.numbers given in
    let has = has_given c.self.inside.numbers.entries c.give_number.new.numbers.entries c.args.entry.reviewer c.in_ok-number.number given in
    rw c.in-Ok.ensures.added
    (kept-with c.self.inside.entries c.give_number.new.numbers.entries c.self.inside.by_revision c.add_words.new.by_revision c.args.entry c.in_ok-number.number kept c.requires has (rw c.of-words.ensures at c.in_ok-before.ensures.added))

pub invariant_of-self-in-Err : goal.invariant_of-self-in-Err
invariant_of-self-in-Err c =
    let given = rw c.as_bytes.ensures at c.in_ok-number.ensures.given in
    let kept = kept-numbered c.self.inside.entries c.self.inside.numbers.entries c.give_number.new.numbers.entries c.self.inside.by_revision c.args.entry.reviewer c.in_ok-number.number c.self.invariant c.give_number.ensures.numbers given in
    rw c.in-Err.ensures.untouched
    (kept-back c.self.inside.entries c.give_number.new.numbers.entries c.self.inside.by_revision c.add_words.new.by_revision c.replace_words.new.by_revision c.args.entry.rev c.in_ok-number.number c.of-words.result c.in_ok-before.before kept
    c.in_ok-before.ensures.before c.in_ok-before.ensures.added c.in_ok-before.ensures.there c.replace_words.ensures)
