-- Whether a chain of paragraphs ends with one: a cell has to, once thin nodes are left out (ECMA-376 Part 1, 17.4).
use Rattle.std.specs.Prelude.{List, [], ◌∷◌, Bool, true, false, ◌&&◌, not, if◌then◌else◌}
use Rattle.redl_tree.specs.Roles.Names.{is}
use Rattle.redl_tree.specs.Model.Kids.{some_element}
use Rattle.redl_tree.specs.Roles.Lists.{is_thick}
use Rattle.redl_tree.specs.Decisions.Groups.{GroupPiece, para, thin, thick, has_thick}

-- a chain consists of paragraphs and of thin nodes
abbrev pub is_chain : List GroupPiece → Bool
is_chain [] = true
is_chain (para tag cut kids ∷ rest) = is "p" tag && is_chain rest
is_chain (thin nodes ∷ rest) = not (some_element is_thick nodes) && is_chain rest
is_chain (thick nodes ∷ rest) = false

-- the chain has a paragraph, and the last one isn't cut or no other thick node comes next
abbrev pub keeps_last : Bool → List GroupPiece → Bool
keeps_last followed [] = false
keeps_last followed (para tag cut kids ∷ rest) =
    if has_thick rest then keeps_last followed rest else not (cut && followed)
keeps_last followed (thin nodes ∷ rest) = keeps_last followed rest
keeps_last followed (thick nodes ∷ rest) = keeps_last followed rest
