-- Nodes that tell nothing of a revision of which an excerpt is made, and in which no line begins.
use Rattle.std.specs.Prelude.{Bool, true, List, Option, ◌&&◌, not}
use Rattle.redl_tree.specs.Model.Nodes.{Nodes, no_nodes, bytes, element, Item, bytes_item, element_item, idle_item}
use Rattle.redl_tree.specs.Roles.Names.{is}
use Rattle.redl_excerpts.specs.declared.excerpt.Excerpt.{Excerpt}
use Rattle.redl_excerpts.specs.Excerpts.{is_made}

-- no element among them is a member of such a revision or a paragraph, at any depth
abbrev pub are_flat : List (Option Excerpt) → Nodes → Bool
are_flat excerpts no_nodes = true
are_flat excerpts (bytes b rest) = are_flat excerpts rest
are_flat excerpts (element tag kids rest) = ((not (is_made excerpts tag.rev) && not (is "p" tag)) && are_flat excerpts kids) && are_flat excerpts rest

-- the same of one node
abbrev pub is_flat : List (Option Excerpt) → Item → Bool
is_flat excerpts (bytes_item b) = true
is_flat excerpts (element_item tag kids) = (not (is_made excerpts tag.rev) && not (is "p" tag)) && are_flat excerpts kids
is_flat excerpts (idle_item t) = true
