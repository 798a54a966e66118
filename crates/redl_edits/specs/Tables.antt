-- The revisions of a table: those of the members in it, but for those in tables inside it.
use Rattle.std.specs.Prelude.{ℕ, List, [], ◌∷◌, ◌++◌, if◌then◌else◌}
use Rattle.redl_tree.specs.Model.Nodes.{Tag, Nodes, no_nodes, bytes, element}
use Rattle.redl_tree.specs.Roles.Idle.{is_plain_kind}
use Rattle.redl_tree.specs.Roles.Names.{is}

abbrev pub own_revision : Tag → List ℕ
own_revision tag = if is_plain_kind tag.kind then [] else tag.rev ∷ []

abbrev pub in_table : Tag → List ℕ → List ℕ
in_table tag inside = if is "tbl" tag then [] else own_revision tag ++ inside

-- in nodes of a table, in the order of their start tags
abbrev pub table_revisions : Nodes → List ℕ
table_revisions no_nodes = []
table_revisions (bytes b rest) = table_revisions rest
table_revisions (element tag kids rest) = in_table tag (table_revisions kids) ++ table_revisions rest
