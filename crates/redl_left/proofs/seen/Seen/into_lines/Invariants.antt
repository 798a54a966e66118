use Rattle.std.proofs.Common.{◌≡◌, ◌++◌, map}
use Rattle.std.specs.Vec.Iter.{into_iter_items}
use Rattle.redl_left.specs.Lines.{all_lines}
use Rattle.redl_left.proofs.seen.Seen.into_lines.Given as goal

-- the lines so far, and then those that are left
abbrev pub invariant-loop-lines : goal.invariant-loop-lines
invariant-loop-lines l =
    l.all.items ++ all_lines (map (λ lines. lines.items) (into_iter_items l.lines-iterator)) ≡ all_lines (map (λ lines. lines.items) l.fn.self.tables.items)
