-- The steps of a call: files and their limits, the entries of journals, sequence numbers and choices (our own rule).
use Rattle.std.proofs.Common.{◌≡◌, ℕ, List, [], ◌∷◌, ◌++◌, Option, None, Some, Result, Ok, Err, bytes_eq, codes, map, pos, refl, if◌then◌else◌}
use Rattle.redl_commands.specs.Choices.{chosen_entries}
use Rattle.redl_commands.specs.Decide.{next_seq}
use Rattle.redl_index.specs.declared.revision.Revision.{Revision}
use Rattle.redl_inputs.specs.Journals.{DocumentId, entries_in, gathered, journal_or_none}
use Rattle.redl_inputs.specs.Readers.{Reader}
use Rattle.redl_inputs.specs.Steps.{file}
use Rattle.redl_io.specs.Shelf.{Files}
use Rattle.redl_journal.specs.Journals.{Journal}
use Rattle.redl_journal.specs.declared.entry.Entry.{Entry}
use Rattle.redl_journal.specs.declared.entry.Word.{Word}
use Rattle.redl_journal.specs.declared.entry.Word.TheVariants as word
use Rattle.redl_kinds.specs.Selections.{Selection, all, author, kind, numbers, span}
use Rattle.redl_kinds.specs.declared.rev_kind.RevKind.{RevKind}
use Rattle.redl_kinds.specs.declared.rev_kind.RevKind.TheVariants as kinds
use Rattle.redl_kinds.specs.declared.selection.Listed.TheVariants.{One, Range}
use Rattle.redl_lines.specs.Failures.{Failure, caused, malformed, no_sequence, other_count, other_document, over, unread}
use Rattle.redl_lines.specs.declared.failure.Limit.TheVariants.{JournalBytes}
use Rattle.redl_tree.specs.declared.kinds.Trace.TheVariants as trace

-- ---- files

-- one file of three bytes
abbrev files : Files
files name = if bytes_eq name (codes "j") then Some (codes "abc") else None

-- the text of a file, of at most `most` bytes
abbrev read : List ℕ → ℕ → Result (List ℕ) Failure
read name most = file files name most JournalBytes

-- ---- journals

abbrev entry : ℕ → ℕ → Word → Entry
entry seq rev of_word = record { reviewer = codes "Ann"; seq = seq; rev = rev; word = of_word; rank = 0 }

-- a journal of a package with this digest and this number of revisions
abbrev journal : List ℕ → ℕ → Journal
journal digest count = record { digest = digest; count = count; entries = entry 1 2 word.Accept ∷ [] }

abbrev document : DocumentId
document = record { digest = 1 ∷ 2 ∷ []; count = 3 }

-- every text is this journal
abbrev reader : Reader
reader = record { tree = λ text. None; journal = λ text. Some (journal (1 ∷ 2 ∷ []) 3); command = λ words. None }

-- the entries of the journals of these names, of at most `most` bytes together
abbrev came : ℕ → List (List ℕ) → Result (List Entry) Failure
came most names = gathered reader files document most names

-- ---- choices

-- an insertion by Ann, and a deletion by Bob
abbrev revision : ℕ → RevKind → List ℕ → Revision
revision number of_kind by = record { number = number; kind = of_kind; author = by; seconds = Some (pos number); part = 0; members = 1 }

abbrev revisions : List Revision
revisions = revision 1 (kinds.Content trace.Ins) (codes "Ann") ∷ revision 2 (kinds.Content trace.Del) (codes "Bob") ∷ []

-- what Ann chooses, with the sequence number 7
abbrev choose : List (Word × Selection) → List Entry
choose choices = chosen_entries (codes "Ann") 0 7 revisions [] choices

-- a file is there or not, and is within its limit or not
files_have_limits :
    (read (codes "j") 3 ≡ Ok (codes "abc"))
    × (read (codes "j") 2 ≡ Err (caused (over JournalBytes)))
    × (read (codes "k") 3 ≡ Err (unread (codes "k")))
    × (read [] 3 ≡ Err (unread []))
files_have_limits = (refl, refl, refl, refl)

-- a journal is of a package by its digest and its count; the digest is looked at first
journals_are_of_one_package :
    (entries_in document (codes "j") (journal (1 ∷ 2 ∷ []) 3) ≡ Ok (entry 1 2 word.Accept ∷ []))
    × (entries_in document (codes "j") (journal (1 ∷ 3 ∷ []) 3) ≡ Err (caused (other_document (codes "j") (1 ∷ 3 ∷ []) (1 ∷ 2 ∷ []))))
    × (entries_in document (codes "j") (journal (1 ∷ []) 3) ≡ Err (caused (other_document (codes "j") (1 ∷ []) (1 ∷ 2 ∷ []))))
    × (entries_in document (codes "j") (journal (1 ∷ 2 ∷ []) 4) ≡ Err (caused (other_count (codes "j") 4 3)))
    × (entries_in document (codes "j") (journal [] 4) ≡ Err (caused (other_document (codes "j") [] (1 ∷ 2 ∷ []))))
    × (journal_or_none (codes "j") None ≡ Err (caused (malformed (codes "j"))))
journals_are_of_one_package = (refl, refl, refl, refl, refl, refl)

-- the entries of several journals come one journal after the other; the limit is one of all their bytes together
entries_come_in_order :
    (came 0 [] ≡ Ok [])
    × (came 3 (codes "j" ∷ []) ≡ Ok (entry 1 2 word.Accept ∷ []))
    × (came 6 (codes "j" ∷ codes "j" ∷ []) ≡ Ok (entry 1 2 word.Accept ∷ entry 1 2 word.Accept ∷ []))
    × (came 5 (codes "j" ∷ codes "j" ∷ []) ≡ Err (caused (over JournalBytes)))
    × (came 6 (codes "j" ∷ codes "k" ∷ []) ≡ Err (unread (codes "k")))
    × (came 2 (codes "j" ∷ codes "k" ∷ []) ≡ Err (caused (over JournalBytes)))
entries_come_in_order = (refl, refl, refl, refl, refl, refl)

-- the number after the reviewer's greatest; 4294967295 has none after it
sequence_numbers_end :
    (next_seq (codes "Ann") 0 ≡ Ok 1)
    × (next_seq (codes "Ann") 4294967294 ≡ Ok 4294967295)
    × (next_seq (codes "Ann") 4294967295 ≡ Err (caused (no_sequence (codes "Ann"))))
sequence_numbers_end = (refl, refl, refl)

-- an entry for each revision that is chosen, in the order of the numbers, with the word of the last choice
the_last_choice_counts :
    (choose ((word.Accept, all) ∷ []) ≡ entry 7 1 word.Accept ∷ entry 7 2 word.Accept ∷ [])
    × (choose ((word.Accept, all) ∷ (word.Reject, author (codes "Bob")) ∷ []) ≡ entry 7 1 word.Accept ∷ entry 7 2 word.Reject ∷ [])
    × (choose ((word.Reject, author (codes "Bob")) ∷ (word.Accept, all) ∷ []) ≡ entry 7 1 word.Accept ∷ entry 7 2 word.Accept ∷ [])
    × (choose ((word.Accept, kind (kinds.Content trace.Del)) ∷ []) ≡ entry 7 2 word.Accept ∷ [])
    × (choose ((word.Withdraw, numbers (Range 2 2 ∷ One 1 ∷ [])) ∷ []) ≡ entry 7 1 word.Withdraw ∷ entry 7 2 word.Withdraw ∷ [])
    × (choose ((word.Accept, span (pos 1) (pos 2)) ∷ []) ≡ entry 7 1 word.Accept ∷ [])
    × (choose ((word.Accept, author (codes "Cy")) ∷ []) ≡ [])
    × (choose ((word.Accept, numbers (One 9 ∷ [])) ∷ []) ≡ entry 7 9 word.Accept ∷ [])
the_last_choice_counts = (refl, refl, refl, refl, refl, refl, refl, refl)
