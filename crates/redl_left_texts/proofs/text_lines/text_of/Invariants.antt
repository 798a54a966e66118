use Rattle.std.proofs.Common.{◌≡◌, take, true}
use Rattle.redl_formats.specs.Formats.{lines_of}
use Rattle.redl_left_texts.specs.Texts.{text_line}
use Rattle.redl_left_texts.proofs.text_lines.text_of.Given as goal

abbrev pub invariant-loop-line : goal.invariant-loop-line
invariant-loop-line l = l.text.items ≡ lines_of text_line (take l.line-index l.lines) true
