-- The summary of a sample under its reviewers' decisions: nine lines, each a name, a space and a value (our own rule).
use Rattle.std.specs.Prelude.{ℕ, Bool, true, false, List, [], ◌∷◌, ◌++◌, codes, decimal, count_by}
use Rattle.hex.specs.Hex.{encode_lower}
use Rattle.redl_join.specs.declared.verdict.Verdict.{Verdict}
use Rattle.redl_join.specs.declared.verdict.Verdict.TheVariants.{Undecided, Accept, Reject, Disputed}
use Rattle.redl_sample.specs.declared.summary.SampleSummary.{SampleSummary}
use Rattle.redl_sample.specs.declared.tally.Tally.{Tally}

-- the two verdicts are the same
abbrev pub is_verdict : Verdict → Verdict → Bool
is_verdict Undecided Undecided = true
is_verdict Accept Accept = true
is_verdict Reject Reject = true
is_verdict Disputed Disputed = true
is_verdict _ _ = false

-- how many of the verdicts are of each kind
abbrev pub tally_of : List Verdict → Tally
tally_of verdicts = record {
  accepted = count_by (is_verdict Accept) verdicts;
  rejected = count_by (is_verdict Reject) verdicts;
  disputed = count_by (is_verdict Disputed) verdicts;
  undecided = count_by (is_verdict Undecided) verdicts;
}

-- ---- the lines

unfoldable pub line : List ℕ → List ℕ → List ℕ
line name value = name ++ (codes " " ++ (value ++ (10 ∷ [])))

abbrev pub number_line : List ℕ → ℕ → List ℕ
number_line name number = line name (decimal number)

abbrev pub tally_text : Tally → List ℕ
tally_text tally =
    number_line (codes "accepted") tally.accepted
    ++ (number_line (codes "rejected") tally.rejected
    ++ (number_line (codes "disputed") tally.disputed ++ number_line (codes "open") tally.undecided))

-- the summary of a sample, a line for each number
abbrev pub summary_text : SampleSummary → List ℕ
summary_text summary =
    number_line (codes "paragraphs") summary.paragraphs
    ++ (number_line (codes "revisions") summary.revisions
    ++ (number_line (codes "entries") summary.entries
    ++ (tally_text summary.verdicts
    ++ (number_line (codes "bytes") summary.bytes ++ line (codes "sha256") (encode_lower summary.digest)))))
