use Rattle.std.proofs.Common.{◌≡◌, ◌≢◌, ◌∙◌, length, arith}
use Rattle.redl_tree.specs.Model.View.{nodes_of}
use Rattle.redl_tree.proofs.Model.Laws.{item_of-Bytes}
use Rattle.redl_xml.proofs.Buildings.{pushed}
use Rattle.redl_xml.proofs.Parts.{pushed_none, pushed_some}
use Rattle.redl_xml.proofs.document.push_bytes.Goals as goal

pub returns-then-is_empty : goal.returns-then-is_empty
returns-then-is_empty c =
    let none : length c.args.bytes.now ≡ 0 = grind (arith, c.is_empty.ensures, c.if-is_empty.true) in
    pushed_none (nodes_of c.args.nodes.now.items) c.args.bytes.now none

pub returns : goal.returns
returns c =
    let some : length c.args.bytes.now ≢ 0 = grind (arith, c.is_empty.ensures, c.if-is_empty.false) in
    pushed _ _ _ _ c.in_ok-push.ensures.items (item_of-Bytes c.args.bytes) ∙ pushed_some (nodes_of c.args.nodes.now.items) c.args.bytes.now some
