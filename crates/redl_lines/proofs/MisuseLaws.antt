-- No command ends as a call does whose words are misused: what the code can tell of a command has no such cause.
use Rattle.std.proofs.Common.{◌≡◌, [], ◌∷◌}
use Rattle.redl_lines.specs.Ends.{end_status, end_view, written_status}
use Rattle.redl_lines.specs.Failures.{cause_status, cause_view, failure_status, failure_view}
use Rattle.redl_lines.specs.Refused.{RefusedEntries}
use Rattle.redl_lines.specs.Remarks.{all_refused, remarks_view}
use Rattle.redl_lines.specs.declared.end.End.{End}
use Rattle.redl_lines.specs.declared.end.End.TheVariants as end
use Rattle.redl_lines.specs.declared.failure.Cause.{Cause}
use Rattle.redl_lines.specs.declared.failure.Cause.TheVariants as cause
use Rattle.redl_lines.specs.declared.failure.Failure.{Failure}
use Rattle.redl_lines.specs.declared.failure.Failure.TheVariants as failure
use Rattle.redl_lines.specs.declared.status.Status.TheVariants as status

written_is_no_usage : (refused : RefusedEntries) → written_status refused ≡ status.Usage → ⊥
written_is_no_usage [] is = absurd (cc is)
written_is_no_usage (entry ∷ refused) is = absurd (cc is)

cause_is_no_usage : (one : Cause) → cause_status (cause_view one) ≡ status.Usage → ⊥
cause_is_no_usage (cause.Package fault) is = absurd (cc is)
cause_is_no_usage (cause.Second fault) is = absurd (cc is)
cause_is_no_usage (cause.Malformed name) is = absurd (cc is)
cause_is_no_usage (cause.OtherDocument journal found expected) is = absurd (cc is)
cause_is_no_usage (cause.OtherCount journal found expected) is = absurd (cc is)
cause_is_no_usage (cause.NoSequence reviewer) is = absurd (cc is)
cause_is_no_usage cause.NotWritten is = absurd (cc is)
cause_is_no_usage cause.Differ is = absurd (cc is)
cause_is_no_usage (cause.Limit limit) is = absurd (cc is)

failure_is_no_usage : (one : Failure) → failure_status (failure_view one) ≡ status.Usage → ⊥
failure_is_no_usage (failure.Cause one) is = cause_is_no_usage one is
failure_is_no_usage (failure.Unread name) is = absurd (cc is)
failure_is_no_usage failure.NoMemory is = absurd (cc is)

-- a command's end has never the status of words that are misused
pub end_is_no_usage : (one : End) → end_status (end_view one) ≡ status.Usage → ⊥
end_is_no_usage (end.Written remarks) is = written_is_no_usage (all_refused (remarks_view remarks)) is
end_is_no_usage (end.Unwritten remarks) is = absurd (cc is)
end_is_no_usage (end.Failed one) is = failure_is_no_usage one is
