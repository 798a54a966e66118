-- What an element may become that stands at a place: which rows and cells go, and which paragraphs may be joined
-- (ECMA-376 Part 1, 17.4, 17.3.1.29). The place is that of `place` of `redl_tree`, where the tags of the ancestors are
-- at hand.
use Rattle.std.specs.Prelude.{List, Bool, ◌&&◌, ◌||◌}
use Rattle.redl_tree.specs.Model.Nodes.{Tag, Nodes}
use Rattle.redl_tree.specs.Roles.Names.{is}
use Rattle.redl_tree.specs.Roles.Kinds.{is_leave}
use Rattle.redl_tree.specs.Roles.Lists.{is_direct, is_rows, is_cells, is_block_list, is_wrapper}
use Rattle.redl_tree.specs.Decisions.Fates.{fate_of}
use Rattle.redl_tree.specs.Decisions.Tables.{goes}
use Rattle.redl_tree.specs.declared.lists.Place.{Place}
use Rattle.redl_tree.specs.declared.kinds.Say.{Say}

-- a list of rows
abbrev pub is_row_list : Place → Bool
is_row_list here = is_direct here.reach && is_rows here.lot

-- a list of cells
abbrev pub is_cell_list : Place → Bool
is_cell_list here = is_direct here.reach && is_cells here.lot

-- a shell: a content control or custom XML element round rows or cells
abbrev pub is_shell : Place → Tag → Bool
is_shell here tag = is_wrapper tag && (is_row_list here || is_cell_list here)

-- a table, a row, a cell or a shell, which goes in some documents
abbrev pub may_go : Place → Tag → Bool
may_go here tag = is "tc" tag || is "tr" tag || is "tbl" tag || is_shell here tag

-- one of these that goes
abbrev pub goes_at : List Say → Place → Tag → Nodes → Bool
goes_at says here tag kids = may_go here tag && goes says (is_cell_list here) tag kids

-- a paragraph that is left in a block list, and may be joined
abbrev pub is_block_para : List Say → Place → Tag → Bool
is_block_para says here tag = is "p" tag && is_block_list here && is_leave (fate_of says tag)
