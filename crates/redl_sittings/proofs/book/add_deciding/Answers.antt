use Rattle.std.proofs.Common.{◌≡◌, ◌∷◌, ◌∙◌, All, List, ap, filter, subst, sym}
use Rattle.std.proofs.lemmas.List.Elements.{All-tail}
use Rattle.redl_join.specs.Books.{union}
use Rattle.redl_join.specs.Verdicts.{verdict_at}
use Rattle.redl_journal.specs.Journals.{IsAllowed}
use Rattle.redl_journal.specs.declared.entry.Entry.{Entry}
use Rattle.redl_sittings.specs.JoinedBooks.{is_decided}
use Rattle.redl_sittings.proofs.BookLaws.{kept-more}
use Rattle.redl_sittings.proofs.book.add_deciding.Goals as goal

pub loop-entry-init : goal.loop-entry-init
loop-entry-init c =
    let it : c.into_iter-entry-iterator.result ≡ c.args.firsts.now = c.into_iter-entry-iterator.ensures.into_iter_gives ∙ c.entries-entry-items.ensures.entries in
    record {
      kept = ap (λ (entries : List Entry). union c.args.book.now (filter (λ entry. is_decided (verdict_at c.args.firsts.now entry.rev)) entries)) it;
      allowed = subst (All IsAllowed) (sym it) c.entries-entry-items.ensures.allowed;
    }

pub loop-entry-preserved : goal.loop-entry-preserved
loop-entry-preserved c =
    let step : c.loop-entry.entry-iterator ≡ c.in-Some.entry.now ∷ c.next.new.self = c.in-Some.ensures.steps in
    record {
      kept = kept-more (λ entry. is_decided (verdict_at c.args.firsts.now entry.rev)) c.loop-entry.book c.add_decided.new.book c.in-Some.entry.now c.next.new.self c.loop-entry.entry-iterator step
          (rw c.verdict-verdict.ensures at c.in_ok-add_decided.ensures) ∙ c.loop-entry.invariant.kept;
      allowed = All-tail IsAllowed c.in-Some.entry.now c.next.new.self (rw step at c.loop-entry.invariant.allowed);
    }
