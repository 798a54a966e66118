-- The bytes that are not in properties of a paragraph (`pPr`). Joining paragraphs loses none of them and keeps their order.
use Rattle.std.specs.Prelude.{ℕ, List, [], ◌∷◌, ◌++◌, ◌&&◌, Bool, true, if◌then◌else◌}
use Rattle.redl_tree.specs.Model.Nodes.{Nodes, no_nodes, bytes, element}
use Rattle.redl_tree.specs.Roles.Names.{is}
use Rattle.redl_tree.specs.Decisions.Groups.{GroupPiece, para, thin, thick}

-- the bytes of nodes at every depth, in their order, but for those below a `pPr`
abbrev pub bytes_beside : Nodes → List (List ℕ)
bytes_beside no_nodes = []
bytes_beside (bytes b rest) = b ∷ bytes_beside rest
bytes_beside (element tag kids rest) = (if is "pPr" tag then [] else bytes_beside kids) ++ bytes_beside rest

-- the same of pieces
abbrev pub bytes_of_each : List GroupPiece → List (List ℕ)
bytes_of_each [] = []
bytes_of_each (para tag cut kids ∷ rest) = bytes_beside kids ++ bytes_of_each rest
bytes_of_each (thin nodes ∷ rest) = bytes_beside nodes ++ bytes_of_each rest
bytes_of_each (thick nodes ∷ rest) = bytes_beside nodes ++ bytes_of_each rest

-- each paragraph among these pieces has the name `p`
abbrev pub are_named : List GroupPiece → Bool
are_named [] = true
are_named (para tag cut kids ∷ rest) = is "p" tag && are_named rest
are_named (thin nodes ∷ rest) = are_named rest
are_named (thick nodes ∷ rest) = are_named rest
