use Rattle.std.proofs.Common.{◌≡◌, ◌++◌, ℕ, List, map, drop}
use Rattle.std.specs.List.{list_any}
use Rattle.redl_left.specs.Named.{has_value, is_value_of}
use Rattle.redl_left.proofs.named.Named.of.Given as goal

-- the values of the facts so far, and then the lines of those that are left
abbrev pub invariant-loop-lines : goal.invariant-loop-lines
invariant-loop-lines l =
    (value : List ℕ) → map (λ values. has_value values value) l.all.items ++ map (λ lines. list_any (is_value_of value) lines.items) (drop l.lines-index l.tables)
    ≡ map (λ lines. list_any (is_value_of value) lines.items) l.tables
