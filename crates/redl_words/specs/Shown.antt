-- Which revisions a listing shows (our own rule).
use Rattle.std.specs.Prelude.{◌≡◌, ℕ, List, codes}
use Rattle.redl_join.specs.declared.verdict.Verdict.{Verdict}
use Rattle.redl_join.specs.declared.verdict.Verdict.TheVariants.{Undecided, Accept, Reject, Disputed}
use Rattle.redl_kinds.specs.Selections.{Selection}
use Rattle.redl_words.specs.Selections.{Means}

-- which revisions a listing shows
pub data Only : Type 0 where
  -- those that this selection chooses
  chosen : Selection → Only
  -- those with this verdict
  decided : Verdict → Only

-- the name of a verdict
abbrev pub verdict_text : Verdict → List ℕ
verdict_text Undecided = codes "open"
verdict_text Accept = codes "accept"
verdict_text Reject = codes "reject"
verdict_text Disputed = codes "disputed"

-- the text means them: it is the name of the verdict, or the text of the selection
abbrev pub MeansOnly : List ℕ → Only → Type 0
MeansOnly text (chosen selection) = Means text selection
MeansOnly text (decided verdict) = text ≡ verdict_text verdict
