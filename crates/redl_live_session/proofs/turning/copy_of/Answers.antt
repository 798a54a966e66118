use Rattle.std.proofs.Common.{◌≡◌, ◌∷◌, ◌∙◌, All, List, ap, subst, sym}
use Rattle.std.proofs.lemmas.List.Elements.{All-tail}
use Rattle.redl_join.proofs.Unions.{union-own}
use Rattle.redl_join.specs.Books.{union}
use Rattle.redl_journal.specs.Journals.{IsAllowed}
use Rattle.redl_journal.specs.declared.entry.Entry.{Entry}
use Rattle.redl_live_session.proofs.turning.copy_of.Goals as goal

pub loop-entry-init : goal.loop-entry-init
loop-entry-init c =
    let it : c.into_iter-entry-iterator.result ≡ c.args.book.now = c.into_iter-entry-iterator.ensures.into_iter_gives ∙ c.entries-entry-items.ensures.entries in
    record {
      whole = ap (λ (entries : List Entry). union c.new-copy.result entries) it ∙ ap (λ (book : List Entry). union book c.args.book.now) c.new-copy.ensures
          ∙ union-own c.args.book.now c.entries-entry-items.ensures.ordered;
      allowed = subst (All IsAllowed) (sym it) c.entries-entry-items.ensures.allowed;
    }

pub loop-entry-preserved : goal.loop-entry-preserved
loop-entry-preserved c =
    let step : c.loop-entry.entry-iterator ≡ c.in-Some.entry.now ∷ c.next.new.self = c.in-Some.ensures.steps in
    record {
      whole = ap (λ (book : List Entry). union book c.next.new.self) c.in_ok-add_copy.ensures.added
          ∙ ap (λ (entries : List Entry). union c.loop-entry.copy entries) (sym step) ∙ c.loop-entry.invariant.whole;
      allowed = All-tail IsAllowed c.in-Some.entry.now c.next.new.self (rw step at c.loop-entry.invariant.allowed);
    }
