-- An entry more, after the others.
use Rattle.std.proofs.Common.{◌∙◌, ◌+◌, List, map, take, drop, sym, ap, subst}
use Rattle.std.specs.Map.Iter.{deref}
use Rattle.redl_journal.specs.declared.entry.Entry.{Entry}
use Rattle.redl_journal.specs.Journals.{IsAllowed}
use Rattle.redl_join.specs.Books.{IsBook, with_entry}
use Rattle.redl_report.proofs.ListLaws.{holds-between, map-split-at, map-take-more}
use Rattle.redl_report.proofs.OwnLaws.{entry-last}
use Rattle.redl_report.proofs.reviewers.own_book.Goals as goal

pub add-requires : goal.add-requires
add-requires c =
    let place = c.loop-entry.entry-index in
    let own = c.args.own.now in
    let entry = c.entry-item.result in
    subst IsAllowed (sym c.in_ok-copy.ensures)
    (holds-between IsAllowed (map deref (take place own)) (map deref (drop (place + 1) own)) (map deref own) entry.now
    (map-split-at deref own place entry c.loop-entry-test.true c.entry-item.is) c.requires.allowed)

pub loop-entry-preserved : goal.loop-entry-preserved
loop-entry-preserved c =
    let place = c.loop-entry.entry-index in
    let own = c.args.own.now in
    let entry = c.entry-item.result in
    let before = map deref (take place own) in
    c.in_ok-add.ensures.added
    ∙ ap (λ (book : List Entry). with_entry book c.in_ok-copy.field-0) c.loop-entry.invariant
    ∙ ap (λ (copy : Entry). with_entry before copy) c.in_ok-copy.ensures
    ∙ entry-last before (map deref (drop (place + 1) own)) entry.now (subst IsBook (map-split-at deref own place entry c.loop-entry-test.true c.entry-item.is) c.requires.book)
    ∙ sym (map-take-more deref own place entry c.loop-entry-test.true c.entry-item.is)
