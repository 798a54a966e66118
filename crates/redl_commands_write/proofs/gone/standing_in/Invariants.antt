use Rattle.std.proofs.Common.{◌≡◌, ℕ, map, take}
use Rattle.std.specs.BTreeSet.{contains}
use Rattle.std.specs.List.{list_any}
use Rattle.std.specs.Ordering.{nat_cmp}
use Rattle.redl_commands.specs.Choices.{is_among}
use Rattle.redl_commands_write.proofs.gone.standing_in.Given as goal

-- those of the parts so far
abbrev pub invariant-loop-part : goal.invariant-loop-part
invariant-loop-part l = (number : ℕ) → contains nat_cmp l.standing number
    ≡ list_any (λ part. is_among part number) (map (λ part. part.items) (take l.part-index l.part-items))
