use Rattle.std.proofs.Common.{◌≡◌, ◌≢◌, ◌∙◌, ◌≤◌, ap, sym, Some, length, ℕ, arith}
use Rattle.std.proofs.lemmas.Result.{err_from_is_err_and}
use Rattle.redl_tree.specs.Model.Nodes.{Nodes}
use Rattle.redl_tree.specs.Model.View.{nodes_of}
use Rattle.redl_xml.proofs.Parts.{none_filled, some_filled, sizes_are, sizes_fail, root_fails, document_is, counted_grows}
use Rattle.redl_xml.proofs.document.read_document.Goals as goal

pub returns-in_err-element-clause-sizes : goal.returns-in_err-element-clause-sizes
returns-in_err-element-clause-sizes c =
    let p = err_from_is_err_and c.from_residual-in_err-element.result c.from_residual-in_err-element.ensures.1 in
    rw (p.1, p.2) (root_fails c.args.limits.nodes c.args.bytes.now c.in_ok-before.before.now c.in_ok-before.root.now c.in_err-element.field-0.0 c.in_ok-before.ensures c.in_err-element.ensures.sizes)

pub returns-then-not-is_empty-clause-sizes : goal.returns-then-not-is_empty-clause-sizes
returns-then-not-is_empty-clause-sizes c =
    let some : length c.in_ok-after.rest.now ≢ 0 = grind (arith, c.is_empty.ensures, c.if-not-is_empty.true) in
    let x = c.in_ok-element.element in
    sizes_fail c.args.limits.nodes c.args.bytes.now c.in_ok-before.before.now c.in_ok-before.root.now ((x.sizes.deepest, x.sizes.nodes), x.rest.now) c.in_ok-after.after.now c.in_ok-after.rest.now c.in_ok-before.ensures c.in_ok-element.ensures.sizes c.in_ok-after.ensures (some_filled c.in_ok-after.rest.now some)

pub returns-clause-sizes : goal.returns-clause-sizes
returns-clause-sizes c =
    let none : length c.in_ok-after.rest.now ≡ 0 = grind (arith, c.is_empty.ensures, c.if-not-is_empty.false) in
    let x = c.in_ok-element.element in
    let deepest = c.count_bytes-2.ensures.deepest ∙ c.count_bytes.ensures.deepest in
    sizes_are c.args.limits.nodes c.args.bytes.now c.in_ok-before.before.now c.in_ok-before.root.now x.sizes.deepest x.sizes.nodes x.rest.now c.in_ok-after.after.now c.in_ok-after.rest.now _ _ c.in_ok-before.ensures c.in_ok-element.ensures.sizes c.in_ok-after.ensures (none_filled c.in_ok-after.rest.now none) c.count_bytes.ensures.nodes c.count_bytes-2.ensures.nodes
    ∙ ap (λ (d : ℕ). Some (d, c.count_bytes-2.new.sizes.nodes)) (sym deepest)

pub returns-clause-nodes : goal.returns-clause-nodes
returns-clause-nodes c = λ deep few.
    let none : length c.in_ok-after.rest.now ≡ 0 = grind (arith, c.is_empty.ensures, c.if-not-is_empty.false) in
    let x = c.in_ok-element.element in
    let shallow : x.sizes.deepest ≤ c.args.limits.depth = omega (arith, c.count_bytes-2.ensures.deepest, c.count_bytes.ensures.deepest, deep) in
    let grown = counted_grows c.args.limits.nodes c.in_ok-before.before.now x.sizes.nodes in
    let grown_again = counted_grows c.args.limits.nodes c.in_ok-after.after.now c.count_bytes.new.sizes.nodes in
    let first = c.count_bytes.ensures.nodes in
    let second = c.count_bytes-2.ensures.nodes in
    let fewer : x.sizes.nodes ≤ c.args.limits.nodes = omega (arith, first, second, grown, grown_again, few) in
    document_is c.args.bytes.now c.in_ok-before.before.now c.in_ok-before.root.now (nodes_of x.nodes.items) x.rest.now c.in_ok-after.after.now c.in_ok-after.rest.now c.in_ok-before.ensures (c.in_ok-element.ensures.nodes shallow fewer) c.in_ok-after.ensures (none_filled c.in_ok-after.rest.now none)
    ∙ ap (λ (u : Nodes). Some u) (sym c.in_ok-nodes.ensures)
