-- Part by part.
use Rattle.std.proofs.Common.{◌+◌, ◌<◌, ◌≤◌, ap, sym, ◌∙◌, arith, drop, length, Some, if◌then◌else◌}
use Rattle.redl_opc.specs.Shape.{parts_of, is_document}
use Rattle.redl_relations.specs.Relations.{number_from}
use Rattle.redl_relations.proofs.Laws.{number-here, number-end}
use Rattle.redl_relations.proofs.parts.document_part.Goals as goal

pub returns-then-is_document : goal.returns-then-is_document
returns-then-is_document c =
    let nodes = c.args.pkg.now in
    let n = c.loop-part.part in
    let p = is_document in
    let within : n < length (parts_of nodes) = omega (arith, c.parts-part-end.ensures.value) in
    sym (sym c.loop-part.invariant ∙ number-here p nodes n within
    ∙ ap (λ b. if b then Some n else number_from p (n + 1) (drop (n + 1) (parts_of nodes))) (sym c.is_document.ensures ∙ c.if-is_document.true))

pub loop-part-preserved : goal.loop-part-preserved
loop-part-preserved c =
    let nodes = c.args.pkg.now in
    let n = c.loop-part.part in
    let p = is_document in
    let within : n < length (parts_of nodes) = omega (arith, c.parts-part-end.ensures.value) in
    sym (number-here p nodes n within
    ∙ ap (λ b. if b then Some n else number_from p (n + 1) (drop (n + 1) (parts_of nodes))) (sym c.is_document.ensures ∙ c.if-is_document.false))
    ∙ c.loop-part.invariant

pub returns : goal.returns
returns c =
    let nodes = c.args.pkg.now in
    let past : length (parts_of nodes) ≤ c.loop-part.part = omega (arith, c.parts-part-end.ensures.value, c.loop-part-test.false) in
    sym (number-end is_document nodes c.loop-part.part past) ∙ c.loop-part.invariant
