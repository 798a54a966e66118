-- Part by part.
use Rattle.std.proofs.Common.{◌+◌, ◌<◌, ◌≤◌, ap, sym, ◌∙◌, arith, drop, length, Some, if◌then◌else◌}
use Rattle.redl_opc.specs.Shape.{parts_of}
use Rattle.redl_relations.specs.Relations.{has_part_name, number_from}
use Rattle.redl_relations.proofs.Laws.{number-here, number-end}
use Rattle.redl_relations.proofs.parts.part_named.Goals as goal

pub returns-then-has_name : goal.returns-then-has_name
returns-then-has_name c =
    let nodes = c.args.pkg.now in
    let n = c.loop-part.part in
    let p = (has_part_name c.args.name.now) in
    let within : n < length (parts_of nodes) = omega (arith, c.parts-part-end.ensures.value) in
    sym (sym c.loop-part.invariant ∙ number-here p nodes n within
    ∙ ap (λ b. if b then Some n else number_from p (n + 1) (drop (n + 1) (parts_of nodes))) (sym c.has_name.ensures ∙ c.if-has_name.true))

pub loop-part-preserved : goal.loop-part-preserved
loop-part-preserved c =
    let nodes = c.args.pkg.now in
    let n = c.loop-part.part in
    let p = (has_part_name c.args.name.now) in
    let within : n < length (parts_of nodes) = omega (arith, c.parts-part-end.ensures.value) in
    sym (number-here p nodes n within
    ∙ ap (λ b. if b then Some n else number_from p (n + 1) (drop (n + 1) (parts_of nodes))) (sym c.has_name.ensures ∙ c.if-has_name.false))
    ∙ c.loop-part.invariant

pub returns : goal.returns
returns c =
    let nodes = c.args.pkg.now in
    let past : length (parts_of nodes) ≤ c.loop-part.part = omega (arith, c.parts-part-end.ensures.value, c.loop-part-test.false) in
    sym (number-end (has_part_name c.args.name.now) nodes c.loop-part.part past) ∙ c.loop-part.invariant
