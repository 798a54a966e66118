use Rattle.std.proofs.Common.{◌≡◌, take, false}
use Rattle.redl_formats.specs.Formats.{array_of}
use Rattle.redl_left_texts.specs.Texts.{json_line}
use Rattle.redl_left_texts.proofs.json_lines.json_of.Given as goal

abbrev pub invariant-loop-place : goal.invariant-loop-place
invariant-loop-place l = l.text.items ≡ array_of json_line (take l.place l.lines) false
