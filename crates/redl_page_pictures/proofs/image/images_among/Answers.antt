-- Node by node.
use Rattle.std.proofs.Common.{◌+◌, arith, drop}
use Rattle.redl_tree.specs.Model.View.{nodes_of, item_of}
use Rattle.redl_tree.proofs.Model.Laws.{nodes_here, nodes_end}
use Rattle.redl_page_pictures.specs.Pictures.{images_of}
use Rattle.redl_page_pictures.proofs.ItemLaws.{read_all, read-more, read-done, images-skip}
use Rattle.redl_page_pictures.proofs.image.images_among.Goals as goal

pub loop-node-preserved : goal.loop-node-preserved
loop-node-preserved c =
    let items = c.args.nodes.now in
    let i = c.loop-node.node-index in
    let x = c.node-item.result in
    read-more images_of images-skip c.loop-node.images.items _ (read_all images_of (nodes_of c.args.nodes.now)) (nodes_of (drop i items)) (nodes_of (drop (i + 1) items)) (item_of x)
    (nodes_here items i x (omega arith) c.node-item.is) c.in_ok-add_node.ensures c.loop-node.invariant

pub returns : goal.returns
returns c =
    let items = c.args.nodes.now in
    let i = c.loop-node.node-index in
    read-done images_of c.loop-node.images.items (read_all images_of (nodes_of c.args.nodes.now)) (nodes_of (drop i items)) (nodes_end items i (omega arith)) c.loop-node.invariant
