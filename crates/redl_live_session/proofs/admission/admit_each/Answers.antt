use Rattle.std.proofs.Common.{◌≡◌, ◌++◌, ◌∷◌, [], List, append_assoc, refl, rules, sym, ap, ◌∙◌}
use Rattle.std.proofs.lemmas.List.Elements.{All-tail}
use Rattle.std.specs.Vec.Iter.{into_iter_items}
use Rattle.redl_journal.specs.Journals.{IsAllowed}
use Rattle.redl_journal.specs.declared.entry.Entry.{Entry}
use Rattle.redl_live_session.proofs.EachLaws.{after-one}
use Rattle.redl_live_session.proofs.admission.admit_each.Goals as goal

pub loop-entry-init : goal.loop-entry-init
loop-entry-init c =
    let items : into_iter_items c.into_iter-entry-iterator.result ≡ c.args.entries.items = search rules in
    record {
      whole = items;
      allowed = rw items c.requires;
      taken = refl;
    }

pub loop-entry-preserved : goal.loop-entry-preserved
loop-entry-preserved c =
    let rest = into_iter_items c.next.new.self in
    let entry = c.in-Some.entry in
    let here : into_iter_items c.loop-entry.entry-iterator ≡ entry ∷ rest = c.in-Some.ensures.steps.0 in
    record {
      whole = append_assoc c.loop-entry.yielded (entry ∷ []) rest ∙ ap (λ (l : List Entry). c.loop-entry.yielded ++ l) (sym here) ∙ c.loop-entry.invariant.whole;
      allowed = All-tail IsAllowed entry rest (rw here at c.loop-entry.invariant.allowed);
      taken = after-one c.args.session.now c.loop-entry.session c.admit_or_drop.new.session c.loop-entry.yielded entry
          c.loop-entry.invariant.taken c.in_ok-admit_or_drop.ensures.after;
    }
