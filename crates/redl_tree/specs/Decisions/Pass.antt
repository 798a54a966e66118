-- The pass: what nodes become under a say for each revision (ECMA-376 Part 1, 17.13.5).
-- It goes once over the original, whose members have their kinds and revisions on them. `ancestors` is the list of the
-- tags of a node's ancestors in the original, the nearest first.
use Rattle.std.specs.Prelude.{List, [], ◌∷◌, Bool, true, false, ◌&&◌, if◌then◌else◌}
use Rattle.redl_tree.specs.Model.Nodes.{Tag, Nodes, no_nodes, bytes, element, Item, bytes_item, element_item, idle_item}
use Rattle.redl_tree.specs.Model.IdleTexts.{idle_nodes}
use Rattle.redl_tree.specs.Roles.Names.{is}
use Rattle.redl_tree.specs.Roles.Lists.{in_blocks, is_thick}
use Rattle.redl_tree.specs.Decisions.Fates.{fate_of, renamed}
use Rattle.redl_tree.specs.Roles.Kinds.{is_content, is_leave}
use Rattle.redl_tree.specs.Decisions.Restored.{rejected, after_change}
use Rattle.redl_tree.specs.Decisions.Tables.{goes_at, para_is_cut}
use Rattle.redl_tree.specs.Decisions.Groups.{GroupPiece, para, thin, thick, grouped}
use Rattle.redl_tree.specs.declared.kinds.Say.{Say}
use Rattle.redl_tree.specs.declared.kinds.Fate.{Fate}
use Rattle.redl_tree.specs.declared.kinds.Fate.TheVariants.{Leave, Free}

-- What an element of this fate gives, where `stays` is what it gives when it is left. Freed content gives its passed kids.
-- Everything else that is decided gives nothing: content that is cut goes with all in it; a member in properties, a change
-- and a marker only said something about the elements round them.
abbrev pub by_fate : Fate → Bool → Nodes → Nodes → Nodes
by_fate Leave is_content passed stays = stays
by_fate Free true passed stays = passed
by_fate _ is_content passed stays = no_nodes

-- the kids of an element that stays, whose own kids give `passed`: after a rejected change these are the former ones
abbrev pub kept_kids : List Say → List Tag → Tag → Nodes → Nodes → Nodes
kept_kids says ancestors tag kids passed = after_change ancestors tag (rejected says kids) passed

-- what an element gives by itself, whose kids give `passed`: a table, row, cell or shell may go
abbrev pub element_pass : List Say → List Tag → Tag → Nodes → Nodes → Nodes
element_pass says ancestors tag kids passed =
    by_fate (fate_of says tag) (is_content tag.kind) passed
    (if goes_at says ancestors tag kids then no_nodes
    else element (renamed says ancestors tag) (kept_kids says ancestors tag kids passed) no_nodes)

-- a paragraph that is left in a block list, and may be joined
abbrev pub is_block_para : List Say → List Tag → Tag → Bool
is_block_para says ancestors tag = is "p" tag && in_blocks ancestors && is_leave (fate_of says tag)

-- what an element gives to its list: a paragraph that may be joined, or thick or thin nodes
abbrev pub piece : List Say → List Tag → Tag → Nodes → Nodes → GroupPiece
piece says ancestors tag kids passed =
    if is_block_para says ancestors tag
    then para (renamed says ancestors tag) (para_is_cut says kids) (kept_kids says ancestors tag kids passed)
    else if is_thick tag then thick (element_pass says ancestors tag kids passed)
    else thin (element_pass says ancestors tag kids passed)

-- what each node of a list with these ancestors gives
abbrev pub pieces : List Say → List Tag → Nodes → List GroupPiece
pieces says ancestors no_nodes = []
pieces says ancestors (bytes b rest) = thin (bytes b no_nodes) ∷ pieces says ancestors rest
pieces says ancestors (element tag kids rest) =
    piece says ancestors tag kids (grouped false (pieces says (tag ∷ ancestors) kids)) ∷ pieces says ancestors rest

-- the pass of nodes with these ancestors
abbrev pub pass : List Say → List Tag → Nodes → Nodes
pass says ancestors nodes = grouped false (pieces says ancestors nodes)

-- the pass of one node by itself
abbrev pub item_pass : List Say → List Tag → Item → Nodes
item_pass says ancestors (bytes_item b) = bytes b no_nodes
item_pass says ancestors (idle_item t) = idle_nodes t
item_pass says ancestors (element_item tag kids) = element_pass says ancestors tag kids (pass says (tag ∷ ancestors) kids)
