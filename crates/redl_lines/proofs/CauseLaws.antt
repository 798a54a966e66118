-- The status of a cause.
use Rattle.redl_lines.specs.Failures.{Cause, usage, no_format, no_package, no_second, malformed, other_document, other_count, no_sequence, not_written, differ, over, cause_status}
use Rattle.redl_lines.specs.declared.status.Status.{Status}
use Rattle.redl_lines.specs.declared.status.Status.TheVariants as status

-- what holds of the seven statuses of causes holds of the status of each cause
pub by_cause : (Holds : Status → Type 0) → Holds status.Usage → Holds status.Package → Holds status.Journal → Holds status.Limit → Holds status.Sequence
    → Holds status.NotWritten → Holds status.Differ → (cause : Cause) → Holds (cause_status cause)
by_cause Holds words_ package_ journal limit sequence not_left_ differ_ usage = words_
by_cause Holds words_ package_ journal limit sequence not_left_ differ_ (no_format name) = words_
by_cause Holds words_ package_ journal limit sequence not_left_ differ_ (no_package fault) = package_
by_cause Holds words_ package_ journal limit sequence not_left_ differ_ (no_second fault) = package_
by_cause Holds words_ package_ journal limit sequence not_left_ differ_ (malformed name) = journal
by_cause Holds words_ package_ journal limit sequence not_left_ differ_ (other_document name found expected) = journal
by_cause Holds words_ package_ journal limit sequence not_left_ differ_ (other_count name found expected) = journal
by_cause Holds words_ package_ journal limit sequence not_left_ differ_ (no_sequence reviewer) = sequence
by_cause Holds words_ package_ journal limit sequence not_left_ differ_ not_written = not_left_
by_cause Holds words_ package_ journal limit sequence not_left_ differ_ differ = differ_
by_cause Holds words_ package_ journal limit sequence not_left_ differ_ (over quantity) = limit
