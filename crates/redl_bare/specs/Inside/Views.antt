-- The code's stamps, marks and lines as plain data.
use Rattle.std.specs.Prelude.{Option, Some, None, if◌then◌else◌}
use Rattle.std.specs.Option.{option_map}
use Rattle.redl_marks.specs.declared.mark.Stamp as code_stamp
use Rattle.redl_marks.specs.declared.mark.Mark as code_mark
pub use Rattle.redl_marks.specs.Views.{stamp_view, mark_view, marks_view, without_at}
use Rattle.redl_bare.specs.Marks.{Stamp, Mark, Marks}
use Rattle.redl_bare.specs.Fields.{Fields}
use Rattle.redl_bare.specs.declared.fields.Fields as code_fields
use Rattle.redl_bare.specs.declared.line.Line as code_line

abbrev pub slot_view : Option code_stamp.Stamp → Option Stamp
slot_view slot = option_map stamp_view slot

abbrev pub own_view : Option code_mark.Mark → Option Mark
own_view mark = option_map mark_view mark

-- the line that is open, if one is
abbrev pub line_view : code_line.Line → Option Marks
line_view line = if line.is_open then Some (marks_view line.marks) else None

abbrev pub fields_view : code_fields.Fields → Fields
fields_view fields = record { in_code = fields.in_code; code = fields.code.items; silent = fields.silent }
