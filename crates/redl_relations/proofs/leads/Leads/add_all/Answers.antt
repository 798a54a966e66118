-- Node by node.
use Rattle.std.proofs.Common.{◌+◌, ap, sym, ◌∙◌, arith, drop, ℕ, Option}
use Rattle.redl_reading.specs.Steps.{or_else}
use Rattle.redl_tree.specs.Model.Nodes.{Nodes}
use Rattle.redl_tree.specs.Model.View.{nodes_of, item_of}
use Rattle.redl_tree.proofs.Model.Laws.{nodes_here, nodes_end}
use Rattle.redl_relations.specs.Inside.Tables.{lead_in, item_lead}
use Rattle.redl_relations.specs.Leads.{lead_at}
use Rattle.redl_relations.proofs.Laws.{lead-in_front, or_else-none, or_else-assoc}
use Rattle.redl_relations.proofs.leads.Leads.add_all.Goals as goal

pub loop-node-preserved : goal.loop-node-preserved
loop-node-preserved c = λ id.
    let items = c.args.nodes.now in
    let i = c.loop-node.node-index in
    let x = c.node-item.result in
    let whence = c.args.whence in
    let more = nodes_of (drop (i + 1) items) in
    let old = lead_at c.loop-node.self id in
    ap (λ (o : Option (Option ℕ)). or_else o (lead_in whence id more)) (c.in_ok-add_node.ensures id)
    ∙ or_else-assoc old (item_lead whence id (item_of x)) (lead_in whence id more)
    ∙ ap (or_else old) (sym (ap (lead_in whence id) (nodes_here items i x (omega arith) c.node-item.is) ∙ lead-in_front whence id (item_of x) more))
    ∙ c.loop-node.invariant id

pub returns : goal.returns
returns c = λ id.
    let now = lead_at c.loop-node.self id in
    sym (ap (λ (ns : Nodes). or_else now (lead_in c.args.whence id ns)) (nodes_end c.args.nodes.now c.loop-node.node-index (omega arith)) ∙ or_else-none now)
    ∙ c.loop-node.invariant id
