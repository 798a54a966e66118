-- Which revisions a listing shows: those that each of what is wanted shows (our own rule).
use Rattle.std.specs.Prelude.{ℕ, Bool, true, false, List, [], ◌∷◌}
use Rattle.std.specs.List.{list_all, list_any}
use Rattle.redl_index.specs.declared.revision.Revision.{Revision}
use Rattle.redl_join.specs.declared.verdict.Verdict.{Verdict}
use Rattle.redl_join.specs.declared.verdict.Verdict.TheVariants.{Undecided, Accept, Reject, Disputed}
use Rattle.redl_select.specs.Selections.{asks_edits, chooses}
use Rattle.redl_words.specs.Shown.{Only, chosen, decided}

-- the two verdicts are the same
abbrev pub is_same_verdict : Verdict → Verdict → Bool
is_same_verdict Undecided Undecided = true
is_same_verdict Accept Accept = true
is_same_verdict Reject Reject = true
is_same_verdict Disputed Disputed = true
is_same_verdict _ _ = false

-- a revision with this verdict is shown: the selection chooses it, or the verdict is the one that is wanted; the edit of each revision is
-- in the order of their numbers
abbrev pub shows : List ℕ → Revision → Verdict → Only → Bool
shows edits revision verdict (chosen selection) = chooses selection edits revision
shows edits revision verdict (decided wanted) = is_same_verdict verdict wanted

-- whether each revision is shown by all that is wanted
abbrev pub shown_revisions : List ℕ → List Only → List Revision → List Verdict → List Bool
shown_revisions edits wanted [] verdicts = []
shown_revisions edits wanted (revision ∷ revisions) [] = []
shown_revisions edits wanted (revision ∷ revisions) (verdict ∷ verdicts) =
    list_all (shows edits revision verdict) wanted ∷ shown_revisions edits wanted revisions verdicts

-- what is wanted depends on edits
abbrev pub asks : Only → Bool
asks (chosen selection) = asks_edits selection
asks (decided wanted) = false

abbrev pub ask_edits : List Only → Bool
ask_edits wanted = list_any asks wanted
