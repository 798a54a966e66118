use Rattle.std.proofs.Common.{◌<◌, ◌∙◌, List, false, length, ap, sym, arith}
use Rattle.redl_tree.specs.Leaves.Ways.{ways, lent_at}
use Rattle.redl_leaves.specs.View.{states_of}
use Rattle.redl_leaves.specs.declared.slots.Slot.{Slot}
use Rattle.redl_editor.proofs.FindLaws.{lent-past, lent-there}
use Rattle.redl_editor.specs.Stories.{states_kept, slots_kept}
use Rattle.redl_editor.proofs.finding.find_in.Goals as goal

pub returns-then-place-count : goal.returns-then-place-count
returns-then-place-count c = λ is.
    let count = c.count.ensures (ways (slots_kept c.args.story.now)) is.places in
    sym (lent-past (states_kept c.args.story.now) c.args.place (omega (arith, count, c.if-place-count.true)))

pub returns : goal.returns
returns c = λ is.
    let count = c.count.ensures (ways (slots_kept c.args.story.now)) is.places in
    let lt : c.args.place < length (ways (slots_kept c.args.story.now)) = omega (arith, count, c.if-place-count.false) in
    let way = c.way.ensures (ways (slots_kept c.args.story.now)) is.places lt in
    c.lend.ensures ∙ ap (λ (slots : List Slot). lent_at false c.way.result.now (states_of slots)) c.deref.ensures.value
    ∙ lent-there (states_kept c.args.story.now) c.args.place c.way.result.now lt way
