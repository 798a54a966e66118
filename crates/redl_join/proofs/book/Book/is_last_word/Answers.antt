use Rattle.std.proofs.Common.{◌≡◌, true, false, eqb, List, ap, subst, sym, ◌∙◌}
use Rattle.redl_journal.specs.declared.entry.Entry.{Entry}
use Rattle.redl_join.specs.declared.latest.Latest.{Latest}
use Rattle.redl_join.specs.Books.{has_entry}
use Rattle.redl_join.specs.Inside.Latest.{latest_words}
use Rattle.redl_join.specs.Inside.Numbers.{has_number, is_numbered}
use Rattle.redl_join.specs.Verdicts.{counts}
use Rattle.redl_join.proofs.Kept.{numbered_there}
use Rattle.redl_join.proofs.LastWordLaws.{counts-seq}
use Rattle.redl_join.proofs.book.Book.is_last_word.Goals as goal

pub returns-in-Some : goal.returns-in-Some
returns-in-Some c =
    let has : has_entry c.self.inside.entries c.args.entry.now ≡ true = subst (λ (book : List Entry). has_entry book c.args.entry.now ≡ true) (sym c.self.view_is) c.requires in
    let number : has_number c.self.inside.numbers.entries c.args.entry.now.reviewer c.in-Some.number ≡ true = rw c.as_bytes.ensures at c.in-Some.ensures.found in
    let words : c.find_words.result ≡ latest_words c.self.inside.entries c.args.entry.now.rev c.args.entry.now.reviewer =
    c.find_words.ensures ∙ c.self.invariant.words c.args.entry.now.rev c.args.entry.now.reviewer c.in-Some.number number in
    ap (λ (latest : Latest). eqb latest.seq c.args.entry.now.seq) words
    ∙ counts-seq c.self.inside.entries c.args.entry.now has
    ∙ ap (λ (book : List Entry). counts book c.args.entry.now.rev c.args.entry.now) c.self.view_is

pub returns-in-None : goal.returns-in-None
returns-in-None c =
    let has : has_entry c.self.inside.entries c.args.entry.now ≡ true = subst (λ (book : List Entry). has_entry book c.args.entry.now ≡ true) (sym c.self.view_is) c.requires in
    let there : is_numbered c.self.inside.numbers.entries c.args.entry.now.reviewer ≡ true =
    numbered_there c.self.inside.entries c.self.inside.numbers.entries c.self.inside.by_revision c.args.entry.now c.self.invariant has in
    let none : is_numbered c.self.inside.numbers.entries c.args.entry.now.reviewer ≡ false = rw c.as_bytes.ensures at c.in-None.ensures.none in
    absurd cc
