-- `sample N`: what becomes of the sample package under the journals of its three reviewers, in nine lines.
use Rattle.std.specs.Prelude.{ℕ, List, [], ◌∷◌, length, flat_map, nat_lt, Result, Ok, Err, if◌then◌else◌}
use Rattle.redl_inputs.specs.Admission.{Admission, admission_with, no_admission}
use Rattle.redl_commands.specs.Write.{left_text}
use Rattle.redl_inputs.specs.Packages.{package_in}
use Rattle.redl_inputs.specs.Readers.{Reader}
use Rattle.redl_inputs.specs.Steps.{◌>>=◌}
use Rattle.redl_commands.specs.Writing.{Writing, only_bytes}
use Rattle.redl_journal.specs.declared.entry.Entry.{Entry}
use Rattle.redl_lines.specs.Failures.{Failure, caused, over}
use Rattle.redl_lines.specs.Lines.{sample_paragraphs}
use Rattle.redl_lines.specs.declared.failure.Limit.TheVariants.{Sample}
use Rattle.redl_sample.specs.Journals.{sample_journal}
use Rattle.redl_sample.specs.Packages.{package_text}
use Rattle.redl_sample.specs.Summaries.{summary_text, tally_of}
use Rattle.redl_sample.specs.declared.summary.SampleSummary.{SampleSummary}
use Rattle.redl_session.specs.Says.{verdicts_of}
use Rattle.redl_session.specs.Sessions.{SessionState}
use Rattle.sha2.specs.Sha256.{sha256}

-- the entries of the reviewers' journals on the sample with so many paragraphs, journal after journal
abbrev pub reviewers_entries : ℕ → List Entry
reviewers_entries number = flat_map (λ reviewer. (sample_journal number reviewer).entries) (0 ∷ 1 ∷ 2 ∷ [])

-- what a session over the sample comes to: its verdicts, and the length and the digest of its written package
abbrev pub summary_of : ℕ → SessionState → SampleSummary
summary_of number state = record {
  paragraphs = number;
  revisions = length state.revisions;
  entries = length state.book;
  verdicts = tally_of (verdicts_of state.book (length state.revisions));
  bytes = length (left_text state);
  digest = sha256 (left_text state);
}

-- what is written of a session over the sample, before any entry
abbrev pub summarized : ℕ → Admission → Writing
summarized number before = only_bytes (summary_text (summary_of number (admission_with before (reviewers_entries number)).state))

-- what is written of the sample with so many paragraphs
abbrev pub sampled : Reader → ℕ → Result Writing Failure
sampled reader number =
    if nat_lt sample_paragraphs number then Err (caused (over Sample))
    else (package_in reader (package_text number) >>= (λ nodes. Ok (summarized number (no_admission (package_text number) nodes []))))
