-- How a call ends: its status and its lines.
use Rattle.std.specs.Prelude.{◌≡◌, ℕ, List, [], ◌∷◌, ◌++◌, Option}
use Rattle.std.specs.Io.KnownBytes.{append_known}
use Rattle.std.specs.List.{flat_map}
use Rattle.redl_io.specs.Faults.{Rose}
use Rattle.redl_io.specs.Sink.{GrowsByFront}
use Rattle.redl_lines.specs.Failures.{Failure, caused, failure_view, failure_status, misuse_cause}
use Rattle.redl_lines.specs.Lines.{failure_line, idle_line, note_line, refused_line, unwritten_line}
use Rattle.redl_lines.specs.Refused.{RefusedEntries}
use Rattle.redl_lines.specs.Remarks.{Remarks, all_refused, remarks_view}
use Rattle.redl_lines.specs.declared.end.End.{End as Declared}
use Rattle.redl_lines.specs.declared.end.End.TheVariants as declared
use Rattle.redl_lines.specs.declared.end.CallEnd.{CallEnd}
use Rattle.redl_lines.specs.declared.end.CallEnd.TheVariants.{Command, Misuse}
use Rattle.redl_lines.specs.declared.status.Status.{Status}
use Rattle.redl_lines.specs.declared.status.Status.TheVariants as status

-- how a call ends
pub data End : Type 0 where
  -- all went out
  written : Remarks → End
  -- the output failed
  unwritten : Remarks → End
  -- nothing went out
  failed : Failure → End

-- what a clause sees of the code's ends
abbrev pub end_view : Declared → End
end_view (declared.Written remarks) = written (remarks_view remarks)
end_view (declared.Unwritten remarks) = unwritten (remarks_view remarks)
end_view (declared.Failed failure) = failed (failure_view failure)

-- the same of the ends of calls
abbrev pub call_end_view : CallEnd → End
call_end_view (Command end) = end_view end
call_end_view (Misuse misuse) = failed (caused (misuse_cause misuse))

-- the status of a call that wrote all, where these entries were refused
abbrev pub written_status : RefusedEntries → Status
written_status [] = status.Done
written_status (refused ∷ more) = status.Refused

-- the exit status of a call
abbrev pub end_status : End → Status
end_status (written remarks) = written_status (all_refused remarks)
end_status (unwritten remarks) = status.WriteFault
end_status (failed failure) = failure_status failure

-- a line for each refused entry, then one for each of a second package, one for each lock that holds nothing, and one for each note
abbrev pub remark_lines : Remarks → List ℕ
remark_lines remarks =
    flat_map refused_line remarks.refused
    ++ (flat_map refused_line remarks.second ++ (flat_map idle_line remarks.idle ++ flat_map note_line remarks.notes))

-- the lines that a call writes to standard error
abbrev pub end_lines : End → List ℕ
end_lines (written remarks) = remark_lines remarks
end_lines (unwritten remarks) = remark_lines remarks ++ unwritten_line
end_lines (failed failure) = failure_line failure

-- the lines went out, or a prefix of them where the count of faults rose
pub record Tells {K : Type 0} (told : K → Option (List ℕ)) (faults : K → ℕ) (old new : K) (lines : List ℕ) : Type 0 where
  pub front : GrowsByFront (told old) (told new) lines
  pub whole : ¬ Rose (faults old) (faults new) → told new ≡ append_known (told old) lines
