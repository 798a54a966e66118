-- What goes out of a numbered package is its text in a view, and how a call ends that put it.
use Rattle.std.proofs.Common.{◌≡◌, ◌≤◌, ℕ, List, Option, Result, Ok, Err, IfErr, OnErr, OnOk, length, replicate, inl, inr, refl, sym, ap, ◌∙◌, subst}
use Rattle.std.specs.Io.KnownBytes.{append_known}
use Rattle.redl_commands.specs.Endings.{EndsAlone, Finishes}
use Rattle.redl_commands.specs.Settle.{same_says}
use Rattle.redl_commands.specs.Writing.{only_bytes}
use Rattle.redl_commands_show.specs.Views.{end_after}
use Rattle.redl_commands_shown.specs.Text.{plain_under}
use Rattle.redl_index.specs.Numbers.{numbered_package, package_revisions}
use Rattle.redl_inputs.specs.Readers.{Reader}
use Rattle.redl_inputs.specs.Reading.{IsMade, Reads}
use Rattle.redl_io.specs.Sink.{CountsPut, GrowsByFront, taken_of}
use Rattle.redl_io.specs.declared.sink.Failed.{Failed}
use Rattle.redl_lines.specs.Ends.{End}
use Rattle.redl_lines.specs.Failures.{Failure}
use Rattle.redl_stamp.specs.Attribute.{attribute_value}
use Rattle.redl_tree.proofs.Revisions.NumberLaws.{numbered-indexed}
use Rattle.redl_tree.specs.Model.Nodes.{Nodes}
use Rattle.redl_tree.specs.declared.kinds.Say.{Say}
use Rattle.redl_views.proofs.PackageLaws.{walk-package}
use Rattle.redl_views.specs.Walks.{walk_text}

pub plain_text_of : (say : Say) (nodes made : Nodes) (count : ℕ) → made ≡ numbered_package nodes → count ≡ package_revisions nodes
    → walk_text (replicate count say) made ≡ plain_under say nodes
plain_text_of say nodes made count numbered counted =
    ap (walk_text (replicate count say)) numbered ∙ ap (λ n. walk_text (replicate n say) (numbered_package nodes)) counted
    ∙ walk-package attribute_value (same_says say nodes) (numbered_package nodes) (numbered-indexed attribute_value nodes)

-- what is due was found, and a step that takes no file made it or ran out of memory
pub reads_through : {Y : Type 0} {y : Y} {made : Result Y Failure} {due : Reader → Result Y Failure} → Reads (Ok y) due → Reads made (λ _. Ok y) → Reads made due
reads_through {made} first rest = record {
  as_due = λ reader is. subst (λ d. IsMade made d ⊥) (sym (first.as_due reader is)) (rest.as_due reader is);
  of_no_file = rest.of_no_file;
}

finishes_after : {K T : Type 0} (told : K → Option (List ℕ)) (faults : K → ℕ) (old new : K) (text : List ℕ) (r : Result T Failed) (end : End) → end ≡ end_after r
    → OnOk r (told new ≡ append_known (told old) text) → OnErr r (GrowsByFront (told old) (told new) text) → CountsPut (faults old) (faults new) r
    → Finishes told faults old new (Ok (only_bytes text)) end
finishes_after told faults old new text (Ok x) end is all front cause = inl (is, record { bytes = all; stands = cause })
finishes_after told faults old new text (Err failed) end is all front cause = inr (is, record { bytes = front; rose = cause })

-- a text was put with this result, and with this the call ended
pub ends_after : {K T : Type 0} {told : K → Option (List ℕ)} {faults : K → ℕ} {old new : K} {end : End} (text : List ℕ) (r : Result T Failed) → end ≡ end_after r
    → OnOk r (told new ≡ append_known (told old) text) → OnErr r (GrowsByFront (told old) (told new) text) → CountsPut (faults old) (faults new) r
    → EndsAlone told faults old new (λ _. Ok (only_bytes text)) end
ends_after {told} {faults} {old} {new} {end} text r is all front cause = record {
  made = Ok (only_bytes text);
  reads = record { as_due = λ reader reads. refl; of_no_file = tt };
  finishes = finishes_after told faults old new text r end is all front cause;
}

all_by_put : {T : Type 0} (old new : Option (List ℕ)) (text : List ℕ) (r : Result T Failed) → new ≡ append_known old (taken_of text r) → OnOk r (new ≡ append_known old text)
all_by_put old new text (Ok x) appends = appends
all_by_put old new text (Err failed) appends = tt

front_by_put : {T : Type 0} (old new : Option (List ℕ)) (text : List ℕ) (r : Result T Failed) → new ≡ append_known old (taken_of text r)
    → IfErr r (λ failed. failed.taken ≤ length text) → OnErr r (GrowsByFront old new text)
front_by_put old new text (Ok x) appends within = tt
front_by_put old new text (Err failed) appends within = (failed.taken, within, appends)

-- the same of a text that went by one put
pub ends_after_put : {K T : Type 0} {told : K → Option (List ℕ)} {faults : K → ℕ} {old new : K} {end : End} (text : List ℕ) (r : Result T Failed) → end ≡ end_after r
    → told new ≡ append_known (told old) (taken_of text r) → IfErr r (λ failed. failed.taken ≤ length text) → CountsPut (faults old) (faults new) r
    → EndsAlone told faults old new (λ _. Ok (only_bytes text)) end
ends_after_put {told} {old} {new} text r is appends within cause =
    ends_after text r is (all_by_put (told old) (told new) text r appends) (front_by_put (told old) (told new) text r appends within) cause
