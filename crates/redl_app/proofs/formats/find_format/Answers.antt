use Rattle.std.proofs.Common.{sym, ◌∙◌}
use Rattle.redl_commands_list.proofs.FormatLaws.{placed_there, unplaced}
use Rattle.redl_app.proofs.formats.find_format.Goals as goal

pub returns-in-Some-place_of-clause-there : goal.returns-in-Some-place_of-clause-there
returns-in-Some-place_of-clause-there g c =
    rw c.in-Some.is (sym (placed_there (λ b. (goal.RowFormat-dyn g (b.vtable, b.value)).format_name b.value) (λ b. (goal.RowFormat-dyn g (b.vtable, b.value)).text_for b.value)
    c.in-Some.name.now c.args.formats.now c.in-Some-place_of.place (sym c.place_of.ensures ∙ c.in-Some-place_of.is)))

pub returns-in-None-clause-there : goal.returns-in-None-clause-there
returns-in-None-clause-there g c =
    rw c.in-Some.is (sym (unplaced (λ b. (goal.RowFormat-dyn g (b.vtable, b.value)).format_name b.value) (λ b. (goal.RowFormat-dyn g (b.vtable, b.value)).text_for b.value)
    c.in-Some.name.now c.args.formats.now (sym c.place_of.ensures ∙ c.in-None.is)))
