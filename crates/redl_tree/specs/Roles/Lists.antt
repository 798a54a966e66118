-- What the kids of an element are to a document: blocks, rows of a table, or cells of a row (ECMA-376 Part 1, 17.2, 17.4).
-- A content control (17.5.2) or a custom XML element (17.5.1) may stand round blocks, rows or cells, and what it holds
-- counts as standing where it stands itself.
use Rattle.std.specs.Prelude.{List, [], ◌∷◌, Bool, true, false, ◌&&◌, ◌||◌, not, if◌then◌else◌}
use Rattle.redl_tree.specs.Model.Nodes.{Tag}
use Rattle.redl_tree.specs.Roles.Names.{is, is_any, is_w, is_m}
use Rattle.redl_tree.specs.Roles.Places.{is_open}
use Rattle.redl_tree.specs.declared.lists.Place.{Place}
use Rattle.redl_tree.specs.declared.lists.Reach.{Reach}
use Rattle.redl_tree.specs.declared.lists.Reach.TheVariants.{Direct, Control, Beyond}
use Rattle.redl_tree.specs.declared.lists.Lot.{Lot}
use Rattle.redl_tree.specs.declared.lists.Lot.TheVariants.{Blocks, Rows, Cells}

-- how the kids of an element are reached, from how its own list is
abbrev pub into : Reach → Tag → Reach
into Direct tag = if is "sdt" tag then Control else if is "customXml" tag then Direct else Beyond
into Control tag = if is "sdtContent" tag then Direct else Beyond
into Beyond tag = Beyond

-- not a list of blocks, rows or cells
abbrev pub nowhere : Place
nowhere = record { lot = Blocks; reach = Beyond }

-- the place of a list that consists of this, from how it is reached
abbrev pub still : Lot → Reach → Place
still lot Beyond = nowhere
still lot reach = record { lot = lot; reach = reach }

-- an element whose kids are blocks, wherever it stands (17.2, 17.4, 17.10, 17.11, 17.13.4, 17.17.1)
abbrev pub has_blocks : Tag → Bool
has_blocks tag =
    is_any ("body" ∷ "hdr" ∷ "ftr" ∷ "footnote" ∷ "endnote" ∷ "comment" ∷ "tc" ∷ "txbxContent" ∷ []) tag

-- the place of the kids of an element that stands at this place itself
abbrev pub inside : Tag → Place → Place
inside tag here =
    if has_blocks tag then record { lot = Blocks; reach = Direct }
    else if is "tbl" tag then record { lot = Rows; reach = Direct }
    else if is "tr" tag then record { lot = Cells; reach = Direct }
    else still here.lot (into here.reach tag)

-- the place of what has these ancestors; only open elements count
abbrev pub place : List Tag → Place
place [] = nowhere
place (tag ∷ ancestors) = if is_open (tag ∷ ancestors) then inside tag (place ancestors) else nowhere

-- the kids are reached as such
abbrev pub is_direct : Reach → Bool
is_direct Direct = true
is_direct _ = false

-- the kids are blocks
abbrev pub is_blocks : Lot → Bool
is_blocks Blocks = true
is_blocks _ = false

-- the kids are rows
abbrev pub is_rows : Lot → Bool
is_rows Rows = true
is_rows _ = false

-- the kids are cells
abbrev pub is_cells : Lot → Bool
is_cells Cells = true
is_cells _ = false

-- a list of blocks
abbrev pub is_block_list : Place → Bool
is_block_list here = is_direct here.reach && is_blocks here.lot

-- the kids of these ancestors are a block list
abbrev pub in_blocks : List Tag → Bool
in_blocks ancestors = is_block_list (place ancestors)

-- the kids of these ancestors are rows of a table
abbrev pub in_rows : List Tag → Bool
in_rows ancestors = is_direct (place ancestors).reach && is_rows (place ancestors).lot

-- the kids of these ancestors are cells of a row
abbrev pub in_cells : List Tag → Bool
in_cells ancestors = is_direct (place ancestors).reach && is_cells (place ancestors).lot

-- a content control or a custom XML element
abbrev pub is_wrapper : Tag → Bool
is_wrapper tag = is_any ("sdt" ∷ "customXml" ∷ []) tag

-- a shell: a content control or custom XML element round rows or cells
abbrev pub is_shell : List Tag → Tag → Bool
is_shell ancestors tag = is_wrapper tag && (in_rows ancestors || in_cells ancestors)

-- A block by itself: a paragraph, a table, a wrapper, imported content (17.17.2), and whatever stands outside
-- W and M. All other nodes are thin: they stand between blocks, as bookmarks do.
abbrev pub is_thick : Tag → Bool
is_thick tag =
    is_any ("p" ∷ "tbl" ∷ "sdt" ∷ "customXml" ∷ "altChunk" ∷ []) tag || not (is_w tag.space || is_m tag.space)
