use Rattle.std.proofs.Common.{◌≡◌, ◌++◌, drop, false}
use Rattle.redl_numbering.specs.NumberTexts.{filled_from, part_text}
use Rattle.redl_numbering.proofs.text.Numbered.put_filled.Given as goal

-- what is written, and what the bytes that are left add
abbrev pub invariant-loop-byte : goal.invariant-loop-byte
invariant-loop-byte l =
    let part = part_text l.self.used.overrides.now l.self.used.levels.now l.self.level l.self.values l.is_legal in
    l.out.items ++ filled_from part l.pending (drop l.byte-index l.text) ≡ l.initial.out.items ++ filled_from part false l.text
