-- What a paragraph says itself of its number (ECMA-376 Part 1, 17.3.1.19, 17.9.3, 17.9.18 and 17.3.1.27), and whether a section ends with
-- it (17.6.18).
use Rattle.std.specs.Prelude.{codes, is_some}
use Rattle.redl_tree.specs.Model.Nodes.{Nodes}
use Rattle.redl_lists.specs.Named.{first_named}
use Rattle.redl_lists.specs.Values.{kid_value, kid_number}
use Rattle.redl_lists.specs.Tables.{kids_in, kid_id, num_properties}
use Rattle.redl_lists.specs.declared.own.Own.{Own}

abbrev pub properties : Nodes → Nodes
properties kids = kids_in (first_named (codes "pPr") kids)

-- a paragraph with these kids
abbrev pub own_of : Nodes → Own
own_of kids = record {
  num = kid_id (codes "numId") (num_properties kids);
  level = kid_number (codes "ilvl") (num_properties kids);
  style = kid_value (codes "pStyle") (properties kids);
  ends_section = is_some (first_named (codes "sectPr") (properties kids));
}
