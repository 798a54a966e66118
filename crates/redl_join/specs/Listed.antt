-- Entries that are listed by their revision.
use Rattle.std.specs.Prelude.{ℕ, List, [], Option, None, Some, map}
use Rattle.std.specs.BTreeMap.{BTreeMap, get}
use Rattle.std.specs.Global.{Vec}
use Rattle.std.specs.Map.Iter.{deref}
use Rattle.std.specs.Ordering.{nat_cmp}
use denote.Ref.{Bor}
use Rattle.redl_journal.specs.declared.entry.Entry.{Entry}

-- the entries of a list, if there is one
abbrev pub entries_of : Option (Vec (Bor Entry)) → List Entry
entries_of None = []
entries_of (Some entries) = map deref entries.items

-- the entries on the revision
abbrev pub entries_at : BTreeMap ℕ (Vec (Bor Entry)) → ℕ → List Entry
entries_at by_revision rev = entries_of (get nat_cmp by_revision rev)
