-- What a call writes, and what it comes to.
use Rattle.std.specs.Prelude.{ℕ, List, [], Result, Ok, Err}
use Rattle.redl_lines.specs.Ends.{written_status, remark_lines}
use Rattle.redl_lines.specs.Failures.{Failure, failure_status}
use Rattle.redl_lines.specs.Lines.{failure_line}
use Rattle.redl_lines.specs.Remarks.{Remarks, all_refused, no_remarks}
use Rattle.redl_lines.specs.declared.status.Status.{Status}

-- what a call writes: bytes, and what there is to remark
pub record Writing : Type 0 where
  pub bytes : List ℕ
  pub remarks : Remarks

-- bytes, where there is nothing to remark
abbrev pub only_bytes : List ℕ → Writing
only_bytes bytes = record { bytes = bytes; remarks = no_remarks }

-- a status, the bytes for the output, and the lines for standard error
pub record Outcome : Type 0 where
  pub status : Status
  pub bytes : List ℕ
  pub lines : List ℕ

-- the outcome of a call that writes this, or fails
abbrev pub outcome_of : Result Writing Failure → Outcome
outcome_of (Err failure) = record { status = failure_status failure; bytes = []; lines = failure_line failure }
outcome_of (Ok writing) = record {
  status = written_status (all_refused writing.remarks);
  bytes = writing.bytes;
  lines = remark_lines writing.remarks;
}
