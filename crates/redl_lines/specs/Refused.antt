-- The entries that a call refused, each with its cause.
use Rattle.std.specs.Prelude.{Bool, true, false, List, [], ◌∷◌}
use Rattle.std.specs.BTreeMap.{insert_entry}
use Rattle.redl_journal.specs.Order.{entry_order}
use Rattle.redl_journal.specs.declared.entry.Entry.{Entry}
use Rattle.redl_session.specs.declared.refusal.AdmitError.{AdmitError}
use Rattle.redl_session.specs.declared.refusal.Refusal.{Refusal}

-- refused entries with their causes, in the order of the entries, each once
abbrev pub RefusedEntries : Type 0
RefusedEntries = List (Entry × AdmitError)

-- with one more at its place; an entry that is there has the new cause
abbrev pub with_refusal : RefusedEntries → Refusal → RefusedEntries
with_refusal refused refusal = insert_entry entry_order refused refusal.entry refusal.why

-- with all of a list, one after another
abbrev pub with_refusals : RefusedEntries → List Refusal → RefusedEntries
with_refusals refused [] = refused
with_refusals refused (refusal ∷ refusals) = with_refusals (with_refusal refused refusal) refusals

-- no entry was refused
abbrev pub is_empty : RefusedEntries → Bool
is_empty [] = true
is_empty (refused ∷ more) = false
