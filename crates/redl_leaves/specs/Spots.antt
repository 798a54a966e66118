-- The summary of a container's ancestors that the code carries down.
use Rattle.std.specs.Prelude.{List, [], ◌∷◌, Bool, false, ◌&&◌, ◌||◌}
use Rattle.redl_tree.specs.Model.Nodes.{Tag}
use Rattle.redl_tree.specs.Roles.Names.{is}
use Rattle.redl_tree.specs.Roles.Lists.{is_block_list, is_wrapper}
use Rattle.redl_tree.specs.Roles.Sites.{site_of}
use Rattle.redl_tree.specs.Leaves.Containers.{is_control}
use Rattle.redl_tables.specs.Places.{is_row_list, is_cell_list, is_shell}
use Rattle.redl_leaves.specs.declared.spot.Root.{Root}
use Rattle.redl_leaves.specs.declared.spot.Spot.{Spot}

abbrev pub no_root : Root
no_root = record { document = false; footnotes = false; endnotes = false; comments = false }

abbrev pub root_named : Tag → Root
root_named tag = record { document = is "document" tag; footnotes = is "footnotes" tag; endnotes = is "endnotes" tag; comments = is "comments" tag }

-- the root that nodes with these ancestors stand in directly
abbrev pub root_of : List Tag → Root
root_of [] = no_root
root_of (tag ∷ []) = root_named tag
root_of (tag ∷ _ ∷ _) = no_root

-- the summary of these ancestors
abbrev pub spot_of : List Tag → Spot
spot_of ancestors = record { site = site_of ancestors; root = root_of ancestors }

-- an outer container
abbrev pub opens_below : Root → Tag → Bool
opens_below root tag =
    (root.document && is "body" tag) || (root.footnotes && is "footnote" tag) || (root.endnotes && is "endnote" tag) || (root.comments && is "comment" tag)

abbrev pub is_shell_at : Spot → Tag → Bool
is_shell_at spot tag = is_shell spot.site.place tag

-- an element here is a container
abbrev pub opens_at : Spot → Tag → Bool
opens_at spot tag =
    opens_below spot.root tag
    || (is_block_list spot.site.place && (is "tbl" tag || is_wrapper tag))
    || (is_row_list spot.site.place && is "tr" tag)
    || (is_cell_list spot.site.place && is "tc" tag)
    || is_shell_at spot tag
    || (is_control spot.site.place.reach && is "sdtContent" tag)

abbrev pub is_own_at : Spot → Tag → Bool
is_own_at spot tag =
    (is_row_list spot.site.place && is "tr" tag) || (is_cell_list spot.site.place && is "tc" tag)

abbrev pub is_between_at : Spot → Tag → Bool
is_between_at spot tag = is_shell_at spot tag || (is_control spot.site.place.reach && is "sdtContent" tag)
