-- Entries that a session admits and refuses, one list after the other.
use Rattle.std.proofs.Common.{◌≡◌, ℕ, List, [], ◌++◌, filter, Bool, is_none, refl, sym, ap, ◌∙◌}
use Rattle.std.proofs.lemmas.List.Elements.{filter-append, filter_map-append}
use Rattle.redl_index.specs.Numbers.{package_revisions, numbered_package}
use Rattle.redl_index.specs.Revisions.{revisions_of}
use Rattle.redl_index.specs.declared.revision.Revision.{Revision}
use Rattle.redl_inputs.proofs.GatherLaws.{TakesInSteps}
use Rattle.redl_inputs.specs.Admission.{Admission, no_admission, admission_with}
use Rattle.redl_inputs.specs.Idle.{idle_locks}
use Rattle.redl_inputs.specs.Journals.{DocumentId}
use Rattle.redl_join.proofs.Unions.{union-append}
use Rattle.redl_join.specs.Books.{union}
use Rattle.redl_journal.specs.declared.entry.Entry.{Entry}
use Rattle.redl_lines.proofs.RefusedLaws.{with_refusals-append}
use Rattle.redl_lines.specs.Refused.{RefusedEntries, with_refusals}
use Rattle.redl_lines.specs.declared.note.Note.{Note}
use Rattle.redl_kinds.specs.declared.lock.Lock.{Lock}
use Rattle.redl_session.specs.Refusals.{admitted, cause_of, refusal_of, refusals}
use Rattle.redl_session.specs.Sessions.{SessionState}
use Rattle.redl_session.specs.declared.refusal.Refusal.{Refusal}
use Rattle.redl_tree.specs.Model.Nodes.{Nodes}
use Rattle.sha2.specs.Sha256.{sha256}

-- ---- lists of entries

admitted-append : (revisions : List Revision) (locks : List Lock) (first more book : List Entry)
    → union (union book (admitted revisions locks first)) (admitted revisions locks more) ≡ union book (admitted revisions locks (first ++ more))
admitted-append revisions locks first more book =
    let test : Entry → Bool = λ entry. is_none (cause_of revisions locks entry) in
    sym (union-append book (filter test first) (filter test more)) ∙ ap (union book) (sym (filter-append test first more))

refusals-append : (revisions : List Revision) (locks : List Lock) (first more : List Entry) (before : RefusedEntries)
    → with_refusals (with_refusals before (refusals revisions locks first)) (refusals revisions locks more) ≡ with_refusals before (refusals revisions locks (first ++ more))
refusals-append revisions locks first more before =
    sym (with_refusals-append before (refusals revisions locks first) (refusals revisions locks more))
    ∙ ap (with_refusals before) (sym (filter_map-append (refusal_of revisions locks) first more))

-- an admission with another book and other refused entries
abbrev with_sets : Admission → List Entry → RefusedEntries → Admission
with_sets before book refused = record before { state = record before.state { book = book }; remarks = record before.remarks { refused = refused } }

pub admits_in_steps : TakesInSteps admission_with
admits_in_steps before first more =
    let revisions = before.state.revisions in
    let locks = before.state.locks in
    ap (λ book. with_sets before book (with_refusals (with_refusals before.remarks.refused (refusals revisions locks first)) (refusals revisions locks more)))
    (admitted-append revisions locks first more before.state.book)
    ∙ ap (with_sets before (union before.state.book (admitted revisions locks (first ++ more)))) (refusals-append revisions locks first more before.remarks.refused)

pub admits_nothing : (before : Admission) → admission_with before [] ≡ before
admits_nothing before = refl

-- an admission of these parts
abbrev pub with_parts : DocumentId → SessionState → RefusedEntries → RefusedEntries → List Lock → List Note → Admission
with_parts document state refused second idle notes = record {
  document = document;
  state = state;
  remarks = record { refused = refused; second = second; idle = idle; notes = notes };
}

-- a session after these entries, and the refusals that it gave
pub admitted_all : (before : Admission) (entries : List Entry) (state : SessionState) (given : List Refusal) (kept : RefusedEntries)
    → state ≡ record before.state { book = union before.state.book (admitted before.state.revisions before.state.locks entries) }
    → given ≡ refusals before.state.revisions before.state.locks entries
    → kept ≡ with_refusals before.remarks.refused given
    → with_parts before.document state kept before.remarks.second before.remarks.idle before.remarks.notes ≡ admission_with before entries
admitted_all before entries state given kept is were added =
    ap (λ s. with_parts before.document s kept before.remarks.second before.remarks.idle before.remarks.notes) is
    ∙ ap (λ rs. with_parts before.document (record before.state { book = union before.state.book (admitted before.state.revisions before.state.locks entries) }) rs before.remarks.second before.remarks.idle before.remarks.notes)
    (added ∙ ap (with_refusals before.remarks.refused) were)

-- a session over a package, before any entry
pub starts : (whole : List ℕ) (pkg : Nodes) (locks : List Lock) (nodes : Nodes) (revisions : List Revision) (held : List Lock) (state : SessionState) (refused second : RefusedEntries) (idle : List Lock) (notes : List Note) (count : ℕ)
    → state ≡ record { nodes = nodes; revisions = revisions; locks = held; book = [] } → nodes ≡ numbered_package pkg → revisions ≡ revisions_of pkg → held ≡ locks
    → refused ≡ [] → second ≡ [] → idle ≡ idle_locks revisions locks → notes ≡ [] → count ≡ package_revisions pkg
    → let document : DocumentId = record { digest = sha256 whole; count = count } in with_parts document state refused second idle notes ≡ no_admission whole pkg locks
starts whole pkg locks nodes revisions held state refused second idle notes count is of_nodes of_revisions of_locks none nor idly untold counted =
    rw (is, idly, of_nodes, of_revisions, of_locks, none, nor, untold, counted) refl
