-- Examples of idle nodes, by computing.
use Prim.Native.String.{String}
use Rattle.std.proofs.Common.{◌≡◌, true, false, refl, codes}
use Rattle.redl_tree.specs.Model.Nodes.{Nodes, no_nodes, bytes, element}
use Rattle.redl_tree.specs.Roles.Names.{of_w}
use Rattle.redl_tree.specs.Roles.Idle.{is_idle}

abbrev one : String → Nodes → Nodes
one name kids = element (of_w (codes name)) kids no_nodes

-- a run with its properties and its text
a_run : is_idle (one "r" (element (of_w (codes "rPr")) (one "b" no_nodes) (one "t" (bytes (codes "x") no_nodes)))) ≡ true
a_run = refl

-- the same properties where no run is round them, and a run that holds deleted text
not_idle : (is_idle (one "rPr" (one "b" no_nodes)) ≡ false) × (is_idle (one "r" (one "delText" no_nodes)) ≡ false) × (is_idle (one "r" (one "rPr" (one "rPrChange" no_nodes))) ≡ false) × (is_idle (one "hyperlink" (one "rPr" no_nodes)) ≡ false)
not_idle = (refl, refl, refl, refl)

-- an element of a revision
a_member : is_idle (element (record (of_w (codes "r")) { rev = 1 }) no_nodes no_nodes) ≡ false
a_member = refl
