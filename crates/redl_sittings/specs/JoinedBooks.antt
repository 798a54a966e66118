-- The book of two sittings (our own rule): what the first one decided, and what the second one says of the revisions that it
-- was given.
use Rattle.std.specs.Prelude.{ℕ, zero, suc, Bool, true, false, List, [], filter, slice_get, Option, None, Some}
use Rattle.std.specs.List.{filter_map}
use Rattle.std.specs.Option.{option_map}
use Rattle.redl_journal.specs.declared.entry.Entry.{Entry}
use Rattle.redl_join.specs.Books.{union}
use Rattle.redl_join.specs.Verdicts.{verdict_at}
use Rattle.redl_join.specs.declared.verdict.Verdict.{Verdict}
use Rattle.redl_join.specs.declared.verdict.Verdict.TheVariants as verdict

-- a revision with this verdict is resolved
abbrev pub is_decided : Verdict → Bool
is_decided verdict.Undecided = false
is_decided verdict.Accept = true
is_decided verdict.Reject = true
is_decided verdict.Disputed = false

-- the entries of a book on the revisions that it decides
abbrev pub deciding : List Entry → List Entry
deciding book = filter (λ entry. is_decided (verdict_at book entry.rev)) book

-- the number, if it is that of a revision
abbrev pub first_number : Option ℕ → Option ℕ
first_number None = None
first_number (Some zero) = None
first_number (Some (suc number)) = Some (suc number)

-- the number at a place, where numbers count from 1
abbrev pub numbered_at : List ℕ → ℕ → Option ℕ
numbered_at back zero = None
numbered_at back (suc place) = slice_get back place

-- an entry of the second sitting by the first number of its revision, if that has one
abbrev pub mapped_back : List ℕ → Entry → Option Entry
mapped_back back entry = option_map (λ number. record entry { rev = number }) (first_number (numbered_at back entry.rev))

-- the book of what a first sitting decided
abbrev pub decided : List Entry → List Entry
decided firsts = union [] (deciding firsts)

-- a book with the entries of a second sitting; `back` has the first number of each second number
abbrev pub with_second : List Entry → List Entry → List ℕ → List Entry
with_second book seconds back = union book (filter_map (mapped_back back) seconds)

-- the joined book of two sittings
abbrev pub joined_book : List Entry → List Entry → List ℕ → List Entry
joined_book firsts seconds back = with_second (decided firsts) seconds back
