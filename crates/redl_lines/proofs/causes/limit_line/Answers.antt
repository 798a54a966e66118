use Rattle.std.proofs.Common.{◌++◌, codes, ap, sym}
use Rattle.redl_lines.specs.Lines.{newline}
use Rattle.redl_lines.proofs.LimitLaws.{package_bytes_digits, journal_bytes_digits, depth_digits, nodes_digits, sample_digits}
use Rattle.redl_lines.proofs.causes.limit_line.Goals as goal

pub returns-in-PackageBytes : goal.returns-in-PackageBytes
returns-in-PackageBytes c =
    rw c.in-PackageBytes.is (ap (λ digits. codes "redline: limit package bytes " ++ digits ++ newline) (sym package_bytes_digits))

pub returns-in-JournalBytes : goal.returns-in-JournalBytes
returns-in-JournalBytes c =
    rw c.in-JournalBytes.is (ap (λ digits. codes "redline: limit journal bytes " ++ digits ++ newline) (sym journal_bytes_digits))

pub returns-in-Depth : goal.returns-in-Depth
returns-in-Depth c =
    rw c.in-Depth.is (ap (λ digits. codes "redline: limit depth " ++ digits ++ newline) (sym depth_digits))

pub returns-in-Nodes : goal.returns-in-Nodes
returns-in-Nodes c =
    rw c.in-Nodes.is (ap (λ digits. codes "redline: limit nodes " ++ digits ++ newline) (sym nodes_digits))

pub returns-in-Sample : goal.returns-in-Sample
returns-in-Sample c =
    rw c.in-Sample.is (ap (λ digits. codes "redline: limit sample " ++ digits ++ newline) (sym sample_digits))
