use Rattle.std.proofs.Common.{◌+◌, ◌<◌, ◌≤◌, ◌∙◌, length, drop, ap, sym, arith}
use Rattle.redl_opc.specs.Shape.{parts_of}
use Rattle.redl_opc.proofs.WalkLaws.{parts-end}
use Rattle.redl_page_numbers.specs.Walks.{parts_walked}
use Rattle.redl_page_numbers.proofs.StoryLaws.{parts_walked-step}
use Rattle.redl_page_numbers.proofs.stories.walk_parts.Goals as goal

pub loop-part-preserved : goal.loop-part-preserved
loop-part-preserved c =
    let tables = c.args.lists.now.tables.now in
    let pkg = c.args.pkg.now in
    let part = c.loop-part.part in
    let within : part < length (parts_of pkg) = omega (arith, c.parts-part-end.ensures.value, c.loop-part-test.true) in
    ap (parts_walked tables (drop (part + 1) (parts_of pkg))) c.in_ok-walk_part.ensures
    ∙ sym (parts_walked-step tables pkg part c.loop-part.known within)
    ∙ c.loop-part.invariant

pub returns : goal.returns
returns c =
    let tables = c.args.lists.now.tables.now in
    let pkg = c.args.pkg.now in
    let part = c.loop-part.part in
    let past : length (parts_of pkg) ≤ part = omega (arith, c.parts-part-end.ensures.value, c.loop-part-test.false) in
    sym (ap (λ parts. parts_walked tables parts c.loop-part.known) (parts-end pkg part past)) ∙ c.loop-part.invariant
