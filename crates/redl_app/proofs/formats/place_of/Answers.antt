use Rattle.std.proofs.Common.{sym}
use Rattle.redl_commands_list.proofs.FormatLaws.{placed_first, placed_here, placed_later, placed_nowhere}
use Rattle.redl_app.proofs.formats.place_of.Goals as goal

pub loop-place-init : goal.loop-place-init
loop-place-init g c = placed_first (λ b. (goal.RowFormat-dyn g (b.vtable, b.value)).format_name b.value) c.args.name.now c.args.formats.now

pub loop-place-preserved : goal.loop-place-preserved
loop-place-preserved g c =
    placed_later (λ b. (goal.RowFormat-dyn g (b.vtable, b.value)).format_name b.value) c.args.name.now c.args.formats.now c.loop-place.place c.index-formats-place.result
    c.loop-place-test.true c.index-formats-place.is (sym c.if-has_name.ensures) c.loop-place.invariant

pub returns-then-has_name : goal.returns-then-has_name
returns-then-has_name g c =
    placed_here (λ b. (goal.RowFormat-dyn g (b.vtable, b.value)).format_name b.value) c.args.name.now c.args.formats.now c.loop-place.place c.index-formats-place.result
    c.loop-place-test.true c.index-formats-place.is (sym c.if-has_name.ensures) c.loop-place.invariant

pub returns : goal.returns
returns g c =
    placed_nowhere (λ b. (goal.RowFormat-dyn g (b.vtable, b.value)).format_name b.value) c.args.name.now c.args.formats.now c.loop-place.place c.loop-place-test.false c.loop-place.invariant
