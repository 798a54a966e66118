-- What a reader passes in stories (our own rule): one byte for each unit that redl_spans counts, in the same order. Of text it is that byte,
-- of what shows white space a space, of the end of a paragraph an end of a line, and of all else a hyphen.
use Rattle.std.specs.Prelude.{ℕ, Bool, false, List, [], ◌∷◌, ◌++◌, codes, bytes_eq, if◌then◌else◌}
use Rattle.std.specs.List.{flat_map, list_any}
use Rattle.redl_shown.specs.Shown.{shown}
use Rattle.redl_spans.specs.Members.{has_edge}
use Rattle.redl_spans.specs.Units.{holds_text, is_unit_name}
use Rattle.redl_tree.specs.Model.Nodes.{Tag, Nodes, no_nodes, bytes, element}
use Rattle.redl_tree.specs.Model.View.{Element}
use Rattle.redl_tree.specs.Roles.Names.{is, is_w}
use Rattle.redl_tree.specs.Roles.Places.{is_quiet}

-- an element with this local name is one unit, and shows white space
abbrev pub is_white_name : List ℕ → Bool
is_white_name local = list_any (bytes_eq local) (codes "tab" ∷ codes "ptab" ∷ codes "br" ∷ codes "cr" ∷ [])

-- an element of W that is a unit itself
abbrev pub name_bytes : List ℕ → List ℕ
name_bytes local = if is_white_name local then codes " " else if is_unit_name local then codes "-" else []

abbrev pub own_bytes : Tag → List ℕ
own_bytes tag = if is_w tag.space then name_bytes tag.local else []

-- an edge, before the units of a row or a cell with a member
abbrev pub edge_bytes : Tag → Nodes → List ℕ
edge_bytes tag kids = if is "p" tag then [] else if has_edge kids then codes "-" else []

abbrev pub start_bytes : Tag → Nodes → List ℕ
start_bytes tag kids = edge_bytes tag kids ++ own_bytes tag

-- the end of a paragraph
abbrev pub end_bytes : Tag → List ℕ
end_bytes tag = if is "p" tag then 10 ∷ [] else []

-- bytes are passed where they are text
abbrev pub text_bytes : Bool → List ℕ → List ℕ
text_bytes in_text text = if in_text then shown text else []

-- nothing in properties is
abbrev pub if_open : Tag → List ℕ → List ℕ
if_open tag inside = if is_quiet tag then [] else inside

abbrev pub passed : Bool → Nodes → List ℕ
passed in_text no_nodes = []
passed in_text (bytes b rest) = text_bytes in_text b ++ passed in_text rest
passed in_text (element tag kids rest) =
    if_open tag (start_bytes tag kids ++ (passed (holds_text tag) kids ++ end_bytes tag)) ++ passed in_text rest

-- before each story is a unit that no member holds
abbrev pub story_passed : Element → List ℕ
story_passed root = 45 ∷ passed false root.kids

abbrev pub stories_passed : List Element → List ℕ
stories_passed roots = flat_map story_passed roots
