use Rattle.std.proofs.Common.{◌≡◌, ◌++◌, drop}
use Rattle.redl_numbering.specs.NumberTexts.{bullets_from}
use Rattle.redl_numbering.proofs.text.put_bullets.Given as goal

-- what is written, and what the bytes that are left add
abbrev pub invariant-loop-place : goal.invariant-loop-place
invariant-loop-place l = l.out.items ++ bullets_from l.skip (drop l.place l.text) ≡ l.initial.out.items ++ bullets_from 0 l.text
