-- The entries of the sample's reviewers, one reviewer after another.
use Rattle.std.proofs.Common.{◌≡◌, ◌+◌, ◌≤◌, ℕ, nat_lt, List, [], ◌∷◌, ◌++◌, Result, Ok, ap, sym, subst, ◌∙◌, append-nil, arith}
use Rattle.std.proofs.lemmas.Bool.{le-ltb, cond-false}
use Rattle.std.proofs.lemmas.Grind.{flat_map-append}
use Rattle.std.specs.List.{flat_map, range_with_len}
use Rattle.redl_commands.specs.Sample.{reviewers_entries, sampled, summarized, summary_of}
use Rattle.redl_inputs.specs.Packages.{package_in}
use Rattle.redl_inputs.specs.Steps.{◌>>=◌}
use Rattle.redl_commands.specs.Writing.{Writing, only_bytes}
use Rattle.redl_index.specs.Numbers.{numbered_package}
use Rattle.redl_index.specs.Revisions.{revisions_of}
use Rattle.redl_inputs.specs.Admission.{no_admission}
use Rattle.redl_inputs.specs.Reading.{IsMade, Reads}
use Rattle.redl_journal.specs.declared.entry.Entry.{Entry}
use Rattle.redl_lines.specs.Failures.{Failure}
use Rattle.redl_lines.specs.Lines.{sample_paragraphs}
use Rattle.redl_sample.proofs.Laws.{range_more}
use Rattle.redl_sample.specs.Journals.{sample_journal}
use Rattle.redl_sample.specs.Packages.{package_text}
use Rattle.redl_sample.specs.Summaries.{summary_text}
use Rattle.redl_session.proofs.Admissions.{after-union}
use Rattle.redl_session.specs.Sessions.{SessionState, after}
use Rattle.redl_tree.specs.Model.Nodes.{Nodes}

-- the entries of the first reviewers
abbrev pub first_entries : ℕ → ℕ → List Entry
first_entries number count = flat_map (λ reviewer. (sample_journal number reviewer).entries) (range_with_len 0 count)

pub entries_more : (number count : ℕ) → first_entries number (count + 1) ≡ first_entries number count ++ (sample_journal number count).entries
entries_more number count =
    ap (flat_map (λ reviewer. (sample_journal number reviewer).entries)) (range_more 0 count count (omega arith))
    ∙ flat_map-append (λ reviewer. (sample_journal number reviewer).entries) (range_with_len 0 count) (count ∷ [])
    ∙ ap (λ (es : List Entry). first_entries number count ++ es) (append-nil (sample_journal number count).entries)

-- the summary of a session after the reviewers' entries, one after another
pub summarized_after : (number : ℕ) (whole : List ℕ) (nodes : Nodes) (begun state : SessionState)
    → begun ≡ record { nodes = numbered_package nodes; revisions = revisions_of nodes; locks = []; book = [] } → state ≡ after begun (reviewers_entries number)
    → only_bytes (summary_text (summary_of number state)) ≡ summarized number (no_admission whole nodes [])
summarized_after number whole nodes begun state is admitted =
    ap (λ (s : SessionState). only_bytes (summary_text (summary_of number s)))
    (admitted ∙ ap (λ (s : SessionState). after s (reviewers_entries number)) is ∙ after-union (no_admission whole nodes []).state (reviewers_entries number))

-- what is due of a sample within the limit
pub sampled_within : (number : ℕ) (made : Result Writing Failure) → number ≤ sample_paragraphs
    → Reads made (λ reader. package_in reader (package_text number) >>= (λ nodes. Ok (summarized number (no_admission (package_text number) nodes []))))
    → Reads made (λ reader. sampled reader number)
sampled_within number made few step = record {
  as_due = λ reader is. subst (λ due. IsMade made due ⊥) (sym (cond-false (nat_lt sample_paragraphs number) _ _ (le-ltb sample_paragraphs number few))) (step.as_due reader is);
  of_no_file = step.of_no_file;
}
