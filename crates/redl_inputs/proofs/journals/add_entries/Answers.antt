use Rattle.std.proofs.Common.{◌≡◌, ◌∷◌, ap, sym, ◌∙◌, rules, [], refl}
use Rattle.std.proofs.lemmas.List.{nil_from_length}
use Rattle.std.proofs.lemmas.List.Elements.{All-tail}
use Rattle.std.specs.Vec.Iter.{into_iter_items}
use Rattle.redl_join.specs.Books.{union}
use Rattle.redl_journal.specs.Journals.{IsAllowed}
use Rattle.redl_inputs.proofs.journals.add_entries.Goals as goal

pub loop-entry-init : goal.loop-entry-init
loop-entry-init c =
    let items : into_iter_items c.into_iter-entry-iterator.result ≡ c.args.entries.items = search rules in
    record { allowed = rw items c.requires; book = rw items refl }

pub loop-entry-preserved : goal.loop-entry-preserved
loop-entry-preserved c =
    let rest = into_iter_items c.next.new.self in
    let entry = c.in-Some.entry in
    let here : into_iter_items c.loop-entry.entry-iterator ≡ entry ∷ rest = c.in-Some.ensures.steps.0 in
    record {
      allowed = All-tail IsAllowed entry rest (rw here at c.loop-entry.invariant.allowed);
      book = ap (λ book. union book rest) c.in_ok-add.ensures.added
          ∙ ap (union c.loop-entry.book) (sym here) ∙ c.loop-entry.invariant.book;
    }

pub returns : goal.returns
returns c =
    let none : into_iter_items c.loop-entry.entry-iterator ≡ [] =
    nil_from_length _ (sym c.loop-entry.entry-iterator.rest.ok.0 ∙ c.in-None.ensures.steps.0) in
    rw none at c.loop-entry.invariant.book
