-- Reading which revisions a listing shows: a verdict, or a selection.
use Rattle.std.specs.Prelude.{ℕ, List, Option, Some, None, codes, if◌then◌else◌, option_map}
use Rattle.std.specs.Str.{bytes_eq}
use Rattle.redl_join.specs.declared.verdict.Verdict.{Verdict}
use Rattle.redl_join.specs.declared.verdict.Verdict.TheVariants.{Undecided, Accept, Reject, Disputed}
use Rattle.redl_words.specs.Shown.{Only, chosen, decided}
use Rattle.redl_words.specs.Reading.Selections.{selection_in}

-- the verdict with this name
unfoldable pub verdict_in : List ℕ → Option Verdict
verdict_in word =
    if bytes_eq word (codes "open") then Some Undecided
    else if bytes_eq word (codes "accept") then Some Accept
    else if bytes_eq word (codes "reject") then Some Reject
    else if bytes_eq word (codes "disputed") then Some Disputed
    else None

-- a verdict that was found, or else what the text chooses
abbrev pub decided_or : Option Verdict → List ℕ → Option Only
decided_or (Some verdict) text = Some (decided verdict)
decided_or None text = option_map chosen (selection_in text)

-- what the text shows
unfoldable pub only_in : List ℕ → Option Only
only_in text = decided_or (verdict_in text) text
