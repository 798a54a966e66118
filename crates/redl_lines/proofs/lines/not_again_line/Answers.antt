use Rattle.std.proofs.Common.{◌++◌, codes, ap, sym}
use Rattle.redl_lines.specs.Lines.{newline}
use Rattle.redl_lines.proofs.LimitLaws.{package_bytes_digits, depth_digits}
use Rattle.redl_lines.proofs.lines.not_again_line.Goals as goal

pub returns-in-Depth : goal.returns-in-Depth
returns-in-Depth c =
    rw c.in-Depth.is
    (ap (λ digits. codes "redline: note: the result " ++ (codes "is deeper than " ++ digits) ++ codes " and will not be read again" ++ newline) (sym depth_digits))

pub returns-in-Bytes : goal.returns-in-Bytes
returns-in-Bytes c =
    rw c.in-Bytes.is
    (ap (λ digits. codes "redline: note: the result " ++ (codes "has more than " ++ digits ++ codes " bytes") ++ codes " and will not be read again" ++ newline) (sym package_bytes_digits))
