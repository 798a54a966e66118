use Rattle.std.proofs.Common.{◌≡◌, ◌+◌, ◌++◌, ◌∷◌, [], List, Bool, true, false, cond, sym, ap, ◌∙◌, subst, append-nil}
use Rattle.std.proofs.lemmas.List.Elements.{All-push}
use Rattle.std.specs.List.{All}
use Rattle.redl_journal.specs.declared.entry.Entry.{Entry}
use Rattle.redl_journal.specs.Journals.{IsAllowed}
use Rattle.redl_sample.specs.Journals.{decides, entries_of, entry_on}
use Rattle.redl_sample.proofs.Laws.{entries_of-more}
use Rattle.redl_sample.proofs.entries.make_entries.Goals as goal
use Rattle.redl_sample.proofs.entries.make_entries.Goals.{then-decides+in_ok-entry+in_ok-push, else-decides}

pub loop-before-preserved : goal.loop-before-preserved
loop-before-preserved c =
    let reviewer = c.args.reviewer in
    let revision = c.loop-before.before + 1 in
    let so_far : List Entry = entries_of reviewer c.loop-before.before in
    elim c.if-decides.branch [
      | then-decides+in_ok-entry+in_ok-push w ↦
          let here : decides reviewer revision ≡ true = sym c.decides.ensures ∙ w.if-decides.true in
          let pushed : c.if-decides.entries.items ≡ c.loop-before.entries.items ++ w.in_ok-entry.entry ∷ [] =
          ap (λ v. v.items) w.entries-is ∙ w.in_ok-push.ensures.items in
          record {
            entries = pushed
                ∙ ap (λ (l : List Entry). l ++ w.in_ok-entry.entry ∷ []) c.loop-before.invariant.entries
                ∙ ap (λ (e : Entry). so_far ++ e ∷ []) w.in_ok-entry.ensures.entry
                ∙ ap (λ (b : Bool). so_far ++ cond b (entry_on reviewer revision ∷ []) []) (sym here)
                ∙ sym (entries_of-more reviewer c.loop-before.before);
            allowed = subst (All IsAllowed) (sym pushed)
                (All-push IsAllowed c.loop-before.entries.items w.in_ok-entry.entry c.loop-before.invariant.allowed w.in_ok-entry.ensures.allowed);
          }
      | else-decides w ↦
          let here : decides reviewer revision ≡ false = sym c.decides.ensures ∙ w.if-decides.false in
          let same : c.if-decides.entries.items ≡ c.loop-before.entries.items = ap (λ v. v.items) w.entries-is in
          record {
            entries = same ∙ c.loop-before.invariant.entries ∙ sym (append-nil so_far)
                ∙ ap (λ (b : Bool). so_far ++ cond b (entry_on reviewer revision ∷ []) []) (sym here)
                ∙ sym (entries_of-more reviewer c.loop-before.before);
            allowed = subst (All IsAllowed) (sym same) c.loop-before.invariant.allowed;
          }
    ]
