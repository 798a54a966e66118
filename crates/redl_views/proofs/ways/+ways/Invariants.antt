use Rattle.std.proofs.Common.{◌≡◌, ◌≤◌, ℕ, List, ◌∷◌, drop, length}
use Rattle.redl_tables.specs.Asked.{answer}
use Rattle.redl_tables.specs.Owners.{and_then}
use Rattle.redl_tables.specs.declared.owned.Finding.TheVariants.{Living}
use Rattle.redl_tree.specs.Model.View.{nodes_of}
use Rattle.redl_views.specs.Ways.{Leads}
use Rattle.redl_views.proofs.ways.+ways.Given as goal

abbrev pub invariant-find_way-loop-node : goal.invariant-find_way-loop-node
invariant-find_way-loop-node l =
    (and_then l.all (answer l.says l.asked (nodes_of (drop l.node-index l.nodes))) ≡ answer l.says l.asked (nodes_of l.nodes))
    × ((l.passed ≤ l.node-index)
    × ((length l.way ≡ length l.initial.way)
    × (((at : ℕ) (way : List ℕ) → l.passed ≤ at → Leads l.says l.asked l.passed (at ∷ way) (nodes_of (drop l.node-index l.nodes)) → Leads l.says l.asked 0 (at ∷ way) (nodes_of l.nodes))
    × (l.all ≡ Living → ⊥))))
