-- Signs: elements that take a place in a line without any text (our own rule; ECMA-376 Part 1, 17.3.3 and 17.11).
use Rattle.std.specs.Prelude.{ℕ, ◌&&◌, ◌||◌, not, Bool, true, false, List, [], ◌∷◌, codes, bytes_eq}
use Rattle.std.specs.List.{list_any}
use Rattle.redl_tree.specs.Model.Nodes.{Tag, Nodes, no_nodes, bytes, element}
use Rattle.redl_tree.specs.Roles.Names.{is_w}
use Rattle.redl_tree.specs.Roles.Places.{is_quiet}
use Rattle.redl_said.specs.Said.{said}
use Rattle.redl_numbering.specs.Counts.{is_filled}

-- A paragraph inside is one by its end, so none is looked for in it.
abbrev pub sign_names : List (List ℕ)
sign_names =
    codes "p" ∷ codes "sym" ∷ codes "ptab" ∷ codes "softHyphen" ∷ codes "footnoteReference" ∷ codes "endnoteReference"
    ∷ codes "drawing" ∷ codes "pict" ∷ codes "object" ∷ []

abbrev pub is_sign_name : List ℕ → Bool
is_sign_name name = list_any (bytes_eq name) sign_names

abbrev pub is_sign : Tag → Bool
is_sign tag = is_w tag.space && is_sign_name tag.local

-- whether there is one among nodes, at every depth; there is none in properties
abbrev pub has_sign : Nodes → Bool
has_sign no_nodes = false
has_sign (bytes b rest) = has_sign rest
has_sign (element tag kids rest) = (not (is_quiet tag) && (is_sign tag || has_sign kids)) || has_sign rest

-- whether a reader sees anything of nodes in a line
abbrev pub shows_something : Nodes → Bool
shows_something nodes = is_filled (said true false nodes) || has_sign nodes
