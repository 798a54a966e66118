-- What comes first in a text of one space that is read to its end.
use Rattle.std.specs.Prelude.{◌≡◌, ℕ, zero, suc, ◌+◌, ◌-◌, List, ◌++◌, Option, Some, None}
use Rattle.redl_tree.specs.Model.Nodes.{Nodes, no_nodes, bytes, element, Empty, End}
use Rattle.redl_tree.specs.declared.kinds.Space.{Space}
use Rattle.redl_grammar.specs.declared.section.Section.TheVariants.{InElement}
use Rattle.redl_grammar.specs.Names.{Name}
use Rattle.redl_grammar.specs.Pieces.{Piece, start_tag, empty_tag, end_tag, stretch, piece_then, IsPiece}
use Rattle.redl_tree.specs.Model.Folds.{plain_tag, nodes_in, Reads}

-- what follows a start tag is the text of its element's kids, the end tag, and a rest
pub record HasKids (space : Space) (behind : List ℕ) : Type 0 where
  pub name : Name
  pub inner : List ℕ
  pub white : List ℕ
  pub rest : List ℕ
  pub whole : behind ≡ inner ++ piece_then (end_tag name white) rest
  pub legal : IsPiece InElement (end_tag name white)
  pub inner_reads : Reads space inner
  pub rest_reads : Reads space rest

-- the text of the kids, the white space in the end tag, and the rest
abbrev pub parted : {space : Space} {behind : List ℕ} → HasKids space behind → Option (List ℕ × List ℕ × List ℕ)
parted kids = Some (kids.inner, kids.white, kids.rest)

-- the first of these nodes is an element with this start tag, and this follows the tag
pub record IsOpened (space : Space) (nodes : Nodes) (name : Name) (tail behind : List ℕ) : Type 0 where
  pub kids : HasKids space behind
  pub parts : nodes ≡ element (plain_tag name space tail (End kids.white)) (nodes_in space kids.inner) (nodes_in space kids.rest)

-- the first of these nodes begins with this piece, and this follows it
abbrev pub IsFront : Space → Nodes → Piece → List ℕ → Type 0
IsFront space nodes (stretch b) rest = Reads space rest × (nodes ≡ bytes b (nodes_in space rest))
IsFront space nodes (empty_tag name tail) rest =
    Reads space rest × (nodes ≡ element (plain_tag name space tail Empty) no_nodes (nodes_in space rest))
IsFront space nodes (start_tag name tail) behind = IsOpened space nodes name tail behind
IsFront space nodes (end_tag name white) rest = ⊥

-- ---- the end of an element is where as many elements ended as began in it

-- how many elements are open after a piece
abbrev pub depth_with : Piece → ℕ → ℕ
depth_with (start_tag name tail) depth = depth + 1
depth_with (empty_tag name tail) depth = depth
depth_with (stretch b) depth = depth
depth_with (end_tag name white) depth = depth - 1

-- the white space in an end tag, where no other element is open
abbrev pub last_white : Piece → ℕ → Option (List ℕ)
last_white (start_tag name tail) depth = None
last_white (empty_tag name tail) depth = None
last_white (stretch b) depth = None
last_white (end_tag name white) zero = Some white
last_white (end_tag name white) (suc n) = None
