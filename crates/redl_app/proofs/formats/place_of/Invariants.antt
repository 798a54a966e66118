use Rattle.std.proofs.Common.{◌≡◌}
use Rattle.redl_commands_list.proofs.FormatLaws.{place_from}
use Rattle.redl_commands_shown.specs.Formats.{place_named}
use Rattle.redl_app.proofs.formats.place_of.Given as goal

-- the first format with the name is among the rest
abbrev pub invariant-loop-place : goal.invariant-loop-place
invariant-loop-place g l =
    place_from (λ b. (goal.RowFormat-dyn g (b.vtable, b.value)).format_name b.value) l.name l.formats l.place
    ≡ place_named (λ b. (goal.RowFormat-dyn g (b.vtable, b.value)).format_name b.value) l.name l.formats
