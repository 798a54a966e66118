use Rattle.std.proofs.Common.{◌≡◌, ◌++◌, ◌∷◌, [], List, None, Some, append_assoc, refl, rules, sym, ap, ◌∙◌}
use Rattle.std.proofs.lemmas.List.Elements.{All-tail}
use Rattle.std.specs.Vec.Iter.{into_iter_items}
use Rattle.redl_join.specs.Books.{union, with_entry}
use Rattle.redl_journal.specs.Journals.{IsAllowed}
use Rattle.redl_journal.specs.declared.entry.Entry.{Entry}
use Rattle.redl_session.proofs.Admissions.{admitted-refuses, refusals-admits, refusals-refuses, union-admits}
use Rattle.redl_session.specs.Refusals.{cause_of}
use Rattle.redl_session.specs.declared.refusal.Refusal.{Refusal}
use Rattle.redl_session.proofs.admission.take_in.Goals as goal

pub loop-entry-init : goal.loop-entry-init
loop-entry-init c =
    let items : into_iter_items c.into_iter-entry-iterator.result ≡ c.args.entries.items = search rules in
    record {
      whole = items;
      allowed = rw items c.requires;
      taken = refl;
      refused = c.new-refused.ensures.items;
    }

pub loop-entry-preserved-in-Continue-1 : goal.loop-entry-preserved-in-Continue-1
loop-entry-preserved-in-Continue-1 c =
    let rest = into_iter_items c.next.new.self in
    let entry = c.in-Some.entry in
    let why = c.in-Some-cause.why in
    let here : into_iter_items c.loop-entry.entry-iterator ≡ entry ∷ rest = c.in-Some.ensures.steps.0 in
    let is : cause_of c.args.index.now c.args.locks.now entry ≡ Some why = sym c.cause.ensures.cause ∙ c.in-Some-cause.is in
    record {
      whole = append_assoc c.loop-entry.yielded (entry ∷ []) rest ∙ ap (λ (l : List Entry). c.loop-entry.yielded ++ l) (sym here) ∙ c.loop-entry.invariant.whole;
      allowed = All-tail IsAllowed entry rest (rw here at c.loop-entry.invariant.allowed);
      taken = c.loop-entry.invariant.taken
          ∙ ap (union c.args.book.now) (sym (admitted-refuses c.args.index.now c.args.locks.now c.loop-entry.yielded entry why is));
      refused = c.in_ok-push-in-Some-cause.ensures.items
          ∙ ap (λ (l : List Refusal). l ++ record { entry = entry; why = why } ∷ []) c.loop-entry.invariant.refused
          ∙ sym (refusals-refuses c.args.index.now c.args.locks.now c.loop-entry.yielded entry why is);
    }

pub loop-entry-preserved : goal.loop-entry-preserved
loop-entry-preserved c =
    let rest = into_iter_items c.next.new.self in
    let entry = c.in-Some.entry in
    let here : into_iter_items c.loop-entry.entry-iterator ≡ entry ∷ rest = c.in-Some.ensures.steps.0 in
    let none : cause_of c.args.index.now c.args.locks.now entry ≡ None = sym c.cause.ensures.cause ∙ c.in-None-cause.is in
    record {
      whole = append_assoc c.loop-entry.yielded (entry ∷ []) rest ∙ ap (λ (l : List Entry). c.loop-entry.yielded ++ l) (sym here) ∙ c.loop-entry.invariant.whole;
      allowed = All-tail IsAllowed entry rest (rw here at c.loop-entry.invariant.allowed);
      taken = c.in_ok-add-in-None-cause.ensures.added
          ∙ ap (λ (l : List Entry). with_entry l entry) c.loop-entry.invariant.taken
          ∙ sym (union-admits c.args.index.now c.args.locks.now c.args.book.now c.loop-entry.yielded entry none);
      refused = c.loop-entry.invariant.refused
          ∙ sym (refusals-admits c.args.index.now c.args.locks.now c.loop-entry.yielded entry none);
    }
