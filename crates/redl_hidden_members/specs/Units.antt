-- Places in a line: what a reader sees there beside the characters of a text (our own rule; ECMA-376 Part 1, 17.3.3, 17.3.2.30 and 17.11).
use Rattle.std.specs.Prelude.{ℕ, ◌&&◌, Bool, List, [], ◌∷◌, codes, bytes_eq}
use Rattle.std.specs.List.{list_any}
use Rattle.redl_tree.specs.Model.Nodes.{Tag}
use Rattle.redl_tree.specs.Roles.Names.{is_w}

abbrev pub unit_names : List (List ℕ)
unit_names =
    codes "tab" ∷ codes "br" ∷ codes "cr" ∷ codes "noBreakHyphen" ∷ codes "softHyphen" ∷ codes "sym" ∷ codes "ptab"
    ∷ codes "footnoteReference" ∷ codes "endnoteReference" ∷ codes "drawing" ∷ codes "pict" ∷ codes "object" ∷ []

abbrev pub is_unit_name : List ℕ → Bool
is_unit_name name = list_any (bytes_eq name) unit_names

abbrev pub is_unit : Tag → Bool
is_unit tag = is_w tag.space && is_unit_name tag.local
