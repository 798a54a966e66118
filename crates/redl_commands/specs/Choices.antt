-- The entries that a reviewer's choices make on the revisions of a package (our own rule).
use Rattle.std.specs.Prelude.{ℕ, ◌==◌, Bool, List, reverse, Option, find, flat_map, filter_map}
use Rattle.std.specs.List.{list_any}
use Rattle.std.specs.Option.{option_map}
use Rattle.redl_index.specs.declared.revision.Revision.{Revision}
use Rattle.redl_journal.specs.declared.entry.Entry.{Entry}
use Rattle.redl_journal.specs.declared.entry.Word.{Word}
use Rattle.redl_kinds.specs.Selections.{Selection}
use Rattle.redl_select.specs.Selections.{asks_edits, chosen, in_order}

-- the number is one of these
abbrev pub is_among : List ℕ → ℕ → Bool
is_among numbers number = list_any (λ one. one == number) numbers

-- the numbers that some choice chooses, in their order, each once; the edit of each revision is in the order of the numbers
abbrev pub chosen_numbers : List Revision → List ℕ → List (Word × Selection) → List ℕ
chosen_numbers revisions edits choices = in_order (flat_map (λ choice. chosen revisions edits choice.1) choices)

-- the word on a number: that of the last choice that chooses it
abbrev pub word_on : List Revision → List ℕ → List (Word × Selection) → ℕ → Option Word
word_on revisions edits choices number =
    option_map (λ choice. choice.0) (find (λ choice. is_among (chosen revisions edits choice.1) number) (reverse choices))

-- an entry of this reviewer with this rank and this sequence number
abbrev pub entry_with : List ℕ → ℕ → ℕ → ℕ → Word → Entry
entry_with reviewer rank seq rev word = record { reviewer = reviewer; seq = seq; rev = rev; word = word; rank = rank }

-- the reviewer's entries on the numbers that the choices choose, all with this rank and this sequence number
abbrev pub chosen_entries : List ℕ → ℕ → ℕ → List Revision → List ℕ → List (Word × Selection) → List Entry
chosen_entries reviewer rank seq revisions edits choices =
    filter_map (λ number. option_map (entry_with reviewer rank seq number) (word_on revisions edits choices number)) (chosen_numbers revisions edits choices)

-- some choice depends on edits
abbrev pub ask_edits : List (Word × Selection) → Bool
ask_edits choices = list_any (λ choice. asks_edits choice.1) choices
