-- How cells end: the last block of a list of blocks is a paragraph, or a content control or custom XML element that ends so
-- itself (ECMA-376 Part 1, 17.4: a cell ends with block content).
use Rattle.std.specs.Prelude.{Bool, true, false, Option, Some, None, if◌then◌else◌}
use Rattle.redl_tree.specs.Model.Nodes.{Tag, Nodes, no_nodes, bytes, element}
use Rattle.redl_tree.specs.Roles.Names.{is}
use Rattle.redl_tree.specs.Roles.Lists.{into, is_thick, is_wrapper}
use Rattle.redl_tree.specs.declared.lists.Reach.{Reach}
use Rattle.redl_tree.specs.declared.lists.Reach.TheVariants.{Direct, Control, Beyond}

-- there is a last block, and it ends so
abbrev pub is_so : Option Bool → Bool
is_so None = false
is_so (Some ends) = ends

-- whether a kid ends so, if it is thick, where `inner` says this of its own kids
abbrev pub end_of_one : Reach → Tag → Option Bool → Option Bool
end_of_one Direct tag inner =
    if is "p" tag then Some true
    else if is_wrapper tag then Some (is_so inner)
    else if is_thick tag then Some false
    else None
end_of_one Control tag inner = if is "sdtContent" tag then inner else None
end_of_one Beyond tag inner = None

-- what the last of two says, or else the one before
abbrev pub or_before : Option Bool → Option Bool → Option Bool
or_before before (Some last) = Some last
or_before before None = before

-- What two neighbours say together: the later one if it has a block, else the one before. Of the contents of a control
-- one that ends so is enough.
abbrev pub end_of_two : Reach → Option Bool → Option Bool → Option Bool
end_of_two Control (Some true) later = Some true
end_of_two reach before later = or_before before later

-- whether the last thick one of these ends so, or a content of a control, if there is one
abbrev pub end_of : Reach → Nodes → Option Bool
end_of reach no_nodes = None
end_of reach (bytes b rest) = end_of reach rest
end_of reach (element tag kids rest) =
    end_of_two reach (end_of_one reach tag (end_of (into reach tag) kids)) (end_of reach rest)
