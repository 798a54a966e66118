-- What a call says beside its output.
use Rattle.std.specs.Prelude.{List, [], ◌++◌}
use Rattle.redl_lines.specs.Refused.{RefusedEntries}
use Rattle.redl_lines.specs.declared.note.Note.{Note}
use Rattle.redl_lines.specs.declared.remarks.Remarks.{Remarks as Declared}
use Rattle.redl_kinds.specs.declared.lock.Lock.{Lock}

-- the refused entries with their causes, those of a second package, the locks that hold nothing, and what there is to tell of the document
pub record Remarks : Type 0 where
  pub refused : RefusedEntries
  pub second : RefusedEntries
  pub idle : List Lock
  pub notes : List Note

-- a call without remarks
abbrev pub no_remarks : Remarks
no_remarks = record { refused = []; second = []; idle = []; notes = [] }

-- the refused entries of both packages
abbrev pub all_refused : Remarks → RefusedEntries
all_refused remarks = remarks.refused ++ remarks.second

-- what a clause sees of the code's remarks
abbrev pub remarks_view : Declared → Remarks
remarks_view remarks = record { refused = remarks.refused; second = remarks.second; idle = remarks.idle.items; notes = remarks.notes.items }
