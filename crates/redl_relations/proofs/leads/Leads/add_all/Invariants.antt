use Rattle.std.proofs.Common.{◌≡◌, ℕ, List, drop}
use Rattle.redl_reading.specs.Steps.{or_else}
use Rattle.redl_tree.specs.Model.View.{nodes_of}
use Rattle.redl_relations.specs.Inside.Tables.{lead_in}
use Rattle.redl_relations.specs.Leads.{lead_at}
use Rattle.redl_relations.proofs.leads.Leads.add_all.Given as goal

-- an id is among those so far, or among those of the nodes that are left
abbrev pub invariant-loop-node : goal.invariant-loop-node
invariant-loop-node l = (id : List ℕ) →
    or_else (lead_at l.self id) (lead_in l.whence id (nodes_of (drop l.node-index l.nodes))) ≡ or_else (lead_at l.initial.self id) (lead_in l.whence id (nodes_of l.nodes))
