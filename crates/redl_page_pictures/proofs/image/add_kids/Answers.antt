-- Node by node.
use Rattle.std.proofs.Common.{◌+◌, ◌++◌, arith, drop}
use Rattle.redl_tree.specs.Model.View.{nodes_of, item_of, tag_of}
use Rattle.redl_tree.proofs.Model.Laws.{nodes_here, nodes_end}
use Rattle.redl_page_pictures.specs.Pictures.{image_in}
use Rattle.redl_page_pictures.proofs.ItemLaws.{read_all, read-more, read-done, image-skips}
use Rattle.redl_page_pictures.proofs.image.add_kids.Goals as goal

pub loop-node-preserved : goal.loop-node-preserved
loop-node-preserved c =
    let items = c.args.kids.now in
    let i = c.loop-node.node-index in
    let x = c.node-item.result in
    read-more (image_in (tag_of c.args.part.now)) (image-skips (tag_of c.args.part.now)) c.loop-node.images.items _ (c.args.images.now.items ++ read_all (image_in (tag_of c.args.part.now)) (nodes_of c.args.kids.now)) (nodes_of (drop i items)) (nodes_of (drop (i + 1) items)) (item_of x)
    (nodes_here items i x (omega arith) c.node-item.is) c.in_ok-add_kid.ensures c.loop-node.invariant

pub returns : goal.returns
returns c =
    let items = c.args.kids.now in
    let i = c.loop-node.node-index in
    read-done (image_in (tag_of c.args.part.now)) c.loop-node.images.items (c.args.images.now.items ++ read_all (image_in (tag_of c.args.part.now)) (nodes_of c.args.kids.now)) (nodes_of (drop i items)) (nodes_end items i (omega arith)) c.loop-node.invariant
