-- Node by node.
use Rattle.std.proofs.Common.{◌+◌, ◌++◌, arith, drop}
use Rattle.redl_tree.specs.Model.View.{nodes_of, item_of}
use Rattle.redl_tree.proofs.Model.Laws.{nodes_here, nodes_end}
use Rattle.redl_page_pictures.specs.Pictures.{lead_in}
use Rattle.redl_page_pictures.proofs.ItemLaws.{read_all, read-more, read-done, lead-skips}
use Rattle.redl_page_pictures.proofs.lead.add_all.Goals as goal

pub loop-node-preserved : goal.loop-node-preserved
loop-node-preserved c =
    let items = c.args.nodes.now in
    let i = c.loop-node.node-index in
    let x = c.node-item.result in
    read-more (lead_in c.args.source.now) (lead-skips c.args.source.now) c.loop-node.leads.items _ (c.args.leads.now.items ++ read_all (lead_in c.args.source.now) (nodes_of c.args.nodes.now)) (nodes_of (drop i items)) (nodes_of (drop (i + 1) items)) (item_of x)
    (nodes_here items i x (omega arith) c.node-item.is) c.in_ok-add_item.ensures c.loop-node.invariant

pub returns : goal.returns
returns c =
    let items = c.args.nodes.now in
    let i = c.loop-node.node-index in
    read-done (lead_in c.args.source.now) c.loop-node.leads.items (c.args.leads.now.items ++ read_all (lead_in c.args.source.now) (nodes_of c.args.nodes.now)) (nodes_of (drop i items)) (nodes_end items i (omega arith)) c.loop-node.invariant
