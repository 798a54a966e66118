use Rattle.std.proofs.Common.{◌≡◌, ◌++◌, Bool, false, List, take}
use Rattle.redl_report.specs.declared.line.ReportLine.{ReportLine}
use Rattle.redl_report.proofs.making.add_lines.Given as goal

-- the format has the lines so far
abbrev pub invariant-loop-line : goal.invariant-loop-line
invariant-loop-line g l = record {
  is_open : (goal.ReportFormat-dyn g (l.format.vtable, l.format.value)).is_ended l.format.value ≡ false;
  taken : (goal.ReportFormat-dyn g (l.format.vtable, l.format.value)).lines_so_far l.format.value
      ≡ (goal.ReportFormat-dyn g (l.fn.format.vtable, l.fn.format.value)).lines_so_far l.fn.format.value ++ take l.line-index l.lines;
  same_format : (lines : List ReportLine) (closed : Bool)
      → (goal.ReportFormat-dyn g (l.format.vtable, l.format.value)).report_text l.format.value lines closed
      ≡ (goal.ReportFormat-dyn g (l.fn.format.vtable, l.fn.format.value)).report_text l.fn.format.value lines closed;
}
