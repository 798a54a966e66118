-- A whole document read from the left: an optional stretch, an element, and an optional stretch.
use Rattle.std.specs.Prelude.{ℕ, List, [], ◌∷◌, Option, Some, None, if◌then◌else◌}
use Rattle.std.specs.Option.{option_map}
use Rattle.redl_tree.specs.Model.Nodes.{Nodes, no_nodes, bytes, ◌⊕◌}
use Rattle.redl_grammar.specs.declared.section.Section.{Section}
use Rattle.redl_grammar.specs.declared.section.Section.TheVariants.{BeforeRoot, AfterRoot}
use Rattle.redl_reading.specs.Lists.{is_filled}
use Rattle.redl_reading.specs.Steps.{◌>>=◌}
use Rattle.redl_grammar.specs.Pieces.{Piece, start_tag, empty_tag, end_tag, stretch}
use Rattle.redl_grammar.specs.ScanPieces.{piece_at}
use Rattle.redl_xml.specs.Inside.Elements.{element_at}
use Rattle.redl_xml.specs.Inside.Sizes.{sizes_of, one_more}

abbrev pub stretch_or_none : List ℕ → Option (Piece × List ℕ) → List ℕ × List ℕ
stretch_or_none bs None = ([], bs)
stretch_or_none bs (Some x) = by_piece x.0 where
  by_piece : Piece → List ℕ × List ℕ
  by_piece (stretch b) = (b, x.1)
  by_piece (start_tag name tail) = ([], bs)
  by_piece (empty_tag name tail) = ([], bs)
  by_piece (end_tag name space) = ([], bs)

-- the leading stretch of this place, which may be empty, and what follows it
unfoldable pub stretch_in : Section → List ℕ → List ℕ × List ℕ
stretch_in place bs = stretch_or_none bs (piece_at place bs)

-- the bytes as a bytes node, if there are any
abbrev pub bytes_or_none : List ℕ → Nodes
bytes_or_none [] = no_nodes
bytes_or_none (b ∷ bs) = bytes (b ∷ bs) no_nodes

abbrev pub whole_nodes : List ℕ → Nodes → List ℕ → Nodes
whole_nodes before root after = bytes_or_none before ⊕ (root ⊕ bytes_or_none after)

-- the nodes of a document, given the stretch before the root, the root, and the stretch after it with what is left
abbrev pub document_with : List ℕ → Nodes → List ℕ × List ℕ → Option Nodes
document_with before root after = if is_filled after.1 then None else Some (whole_nodes before root after.0)

-- the same, given the root with all that follows it
abbrev pub document_from : List ℕ → Nodes × List ℕ → Option Nodes
document_from before found = document_with before found.0 (stretch_in AfterRoot found.1)

-- the nodes of a document
unfoldable pub document_at : List ℕ → Option Nodes
document_at bs = element_at (stretch_in BeforeRoot bs).1 >>= document_from (stretch_in BeforeRoot bs).0

-- how deep a document goes, and its nodes up to one above a limit
abbrev pub sizes_at : ℕ → List ℕ → Option (ℕ × ℕ)
sizes_at limit bs = option_map (sizes_of limit) (document_at bs)

-- such a count with these bytes, if there are any
abbrev pub counted : ℕ → List ℕ → ℕ → ℕ
counted limit b n = if is_filled b then one_more limit n else n
