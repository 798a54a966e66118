-- Unions of entries: what holds of all their entries, and which entries they have.
use Rattle.std.proofs.Common.{◌≡◌, ◌⊎◌, inl, inr, zero, List, [], ◌∷◌, Ordering, Less, Equal, Greater, Contains, refl, sym, subst, arith}
use Rattle.std.proofs.lemmas.List.Elements.{All-contains, All-from_recursion, Contains-append_cases, Contains-append_left, Contains-append_right}
use Rattle.std.specs.List.{AllByRecursion}
use Rattle.std.specs.Ordering.{match_ordering}
use Rattle.redl_inputs.proofs.AnyOrder.{only_one}
use Rattle.redl_join.specs.Books.{union, with_entry}
use Rattle.redl_journal.proofs.EntryOrder.{entry_order-exact}
use Rattle.redl_journal.specs.Order.{entry_order}
use Rattle.redl_journal.specs.declared.entry.Entry.{Entry}

nothing_in : (entry : Entry) → Contains [] entry → ⊥
nothing_in entry (k, within, is) = absurd (omega (arith, within))

pub first_in : (entry : Entry) (entries : List Entry) → Contains (entry ∷ entries) entry
first_in entry entries = Contains-append_left (entry ∷ []) entries entry (zero, omega arith, refl)

pub later_in : (first entry : Entry) (entries : List Entry) → Contains entries entry → Contains (first ∷ entries) entry
later_in first entry entries there = Contains-append_right (first ∷ []) entries entry there

-- ---- what holds of all

all-with : (P : Entry → Type 0) (book : List Entry) (entry : Entry) → AllByRecursion P book → P entry → AllByRecursion P (with_entry book entry)
all-with P [] entry all one = (one, tt)
all-with P (first ∷ book) entry all one = at (entry_order entry first) (all-with P book entry all.1 one)
  where
    at : (o : Ordering) → AllByRecursion P (with_entry book entry)
        → AllByRecursion P (match_ordering o (entry ∷ first ∷ book) (first ∷ book) (first ∷ with_entry book entry))
    at Less more = (one, all)
    at Equal more = all
    at Greater more = (all.0, more)

-- what holds of the entries of a book and of others holds of those of their union
pub all-union : (P : Entry → Type 0) (book entries : List Entry) → AllByRecursion P book → AllByRecursion P entries → AllByRecursion P (union book entries)
all-union P book [] all more = all
all-union P book (entry ∷ entries) all more = all-union P (with_entry book entry) entries (all-with P book entry all more.0) more.1

-- what holds of each entry that a list contains holds of all
pub all-contained : (P : Entry → Type 0) (entries : List Entry) → ((entry : Entry) → Contains entries entry → P entry) → AllByRecursion P entries
all-contained P [] each = tt
all-contained P (entry ∷ entries) each = (each entry (first_in entry entries), all-contained P entries (λ other there. each other (later_in entry other entries there)))

-- ---- which entries there are

with-has : (book : List Entry) (entry : Entry) → Contains (with_entry book entry) entry
with-has [] entry = first_in entry []
with-has (first ∷ book) entry = at (entry_order entry first) refl (with-has book entry)
  where
    at : (o : Ordering) → entry_order entry first ≡ o → Contains (with_entry book entry) entry
        → Contains (match_ordering o (entry ∷ first ∷ book) (first ∷ book) (first ∷ with_entry book entry)) entry
    at Less is more = first_in entry (first ∷ book)
    at Equal is more = subst (λ (e : Entry). Contains (first ∷ book) e) (sym (entry_order-exact entry first is)) (first_in first book)
    at Greater is more = later_in first entry (with_entry book entry) more

with-keeps : (book : List Entry) (entry other : Entry) → Contains book other → Contains (with_entry book entry) other
with-keeps [] entry other there = absurd (nothing_in other there)
with-keeps (first ∷ book) entry other there = at (entry_order entry first) (Contains-append_cases (first ∷ []) book other there) (λ later. with-keeps book entry other later)
  where
    at : (o : Ordering) → Contains (first ∷ []) other ⊎ Contains book other → (Contains book other → Contains (with_entry book entry) other)
        → Contains (match_ordering o (entry ∷ first ∷ book) (first ∷ book) (first ∷ with_entry book entry)) other
    at Less either more = later_in entry other (first ∷ book) there
    at Equal either more = there
    at Greater (inl here) more = Contains-append_left (first ∷ []) (with_entry book entry) other here
    at Greater (inr later) more = later_in first other (with_entry book entry) (more later)

union-keeps : (book entries : List Entry) (entry : Entry) → Contains book entry → Contains (union book entries) entry
union-keeps book [] entry there = there
union-keeps book (first ∷ entries) entry there = union-keeps (with_entry book first) entries entry (with-keeps book first entry there)

-- each entry that is added to a book is in the union
pub in-union : (book entries : List Entry) (entry : Entry) → Contains entries entry → Contains (union book entries) entry
in-union book [] entry there = absurd (nothing_in entry there)
in-union book (first ∷ entries) entry there = at (Contains-append_cases (first ∷ []) entries entry there) (λ later. in-union (with_entry book first) entries entry later)
  where
    at : Contains (first ∷ []) entry ⊎ Contains entries entry → (Contains entries entry → Contains (union (with_entry book first) entries) entry)
        → Contains (union (with_entry book first) entries) entry
    at (inl here) more = subst (λ (e : Entry). Contains (union (with_entry book first) entries) e) (only_one first entry here) (union-keeps (with_entry book first) entries first (with-has book first))
    at (inr later) more = more later

-- an entry of a union is one of those that came together
pub of-union : (entries : List Entry) (entry : Entry) → Contains (union [] entries) entry → Contains entries entry
of-union entries entry there =
    let P : Entry → Type 0 = λ e. Contains entries e in
    All-contains P (union [] entries) entry
    (All-from_recursion P (union [] entries) (all-union P [] entries tt (all-contained P entries (λ other here. here)))) there
