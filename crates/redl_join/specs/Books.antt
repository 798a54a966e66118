-- Books: sets of entries. Contracts see a book as the list of its entries in their order, each once.
use Rattle.std.specs.Prelude.{◌==◌, ℕ, Bool, List, [], ◌∷◌}
use Rattle.std.specs.List.{list_any}
use Rattle.std.specs.List.Sorted.{IsStrictlySortedBy}
use Rattle.std.specs.Ordering.{is_eq}
use Rattle.std.specs.Set.{remove_key}
use Rattle.std.specs.BTreeSet.{insert_key}
use Rattle.redl_journal.specs.declared.entry.Entry.{Entry}
use Rattle.redl_journal.specs.Order.{entry_order}

-- the entries are in their order, each once
abbrev pub IsBook : List Entry → Type 0
IsBook entries = IsStrictlySortedBy entry_order entries

-- the two entries are the same
abbrev pub is_same : Entry → Entry → Bool
is_same entry other = is_eq (entry_order entry other)

-- the entry is one of these
abbrev pub has_entry : List Entry → Entry → Bool
has_entry entries entry = list_any (is_same entry) entries

-- the union with one entry: it is at its place in the order, once
abbrev pub with_entry : List Entry → Entry → List Entry
with_entry entries entry = insert_key entry_order entries entry

-- the entries but this one
abbrev pub without_entry : List Entry → Entry → List Entry
without_entry entries entry = remove_key (is_same entry) entries

-- the union with all entries of a list, in any order
abbrev pub union : List Entry → List Entry → List Entry
union book [] = book
union book (entry ∷ entries) = union (with_entry book entry) entries

-- the entry is on the revision
abbrev pub is_on : ℕ → Entry → Bool
is_on rev entry = entry.rev == rev
