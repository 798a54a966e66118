-- Which content revisions and markers of moves stay marked (ECMA-376 Part 1, 17.13.5.14 to 17.13.5.28): exactly those with the say Keep that
-- are in nothing that goes.
use Rattle.std.specs.Prelude.{◌≡◌, List, [], ◌∷◌, ◌++◌, ◌&&◌, not, Bool, map, filter}
use Rattle.std.specs.List.{list_any}
use Rattle.redl_tree.specs.Decisions.Fates.{fate_of}
use Rattle.redl_tree.specs.Decisions.Packages.{stories, pass_package, is_plain}
use Rattle.redl_tree.specs.Decisions.Survivors.{any_gone}
use Rattle.redl_tree.specs.Model.Nodes.{Tag, Nodes, no_nodes, bytes, element}
use Rattle.redl_tree.specs.Model.View.{Element}
use Rattle.redl_tree.specs.Revisions.Markers.{Value}
use Rattle.redl_tree.specs.Revisions.Numbers.{IsIndexed}
use Rattle.redl_tree.specs.Roles.Kinds.{is_leave}
use Rattle.redl_tree.specs.Roles.Places.{is_quiet}
use Rattle.redl_tree.specs.declared.kinds.Say.{Say}

-- an element's tag, and its path: the element and its ancestors, the nearest first
pub record Placed : Type 0 where
  pub tag : Tag
  pub path : List Element

-- the elements among nodes with these ancestors, in their order
abbrev pub placed_in : List Element → Nodes → List Placed
placed_in ancestors no_nodes = []
placed_in ancestors (bytes b rest) = placed_in ancestors rest
placed_in ancestors (element tag kids rest) =
    record { tag = tag; path = record { tag = tag; kids = kids } ∷ ancestors }
    ∷ (placed_in (record { tag = tag; kids = kids } ∷ ancestors) kids ++ placed_in ancestors rest)

-- the elements of a story below its root
abbrev pub placed : Element → List Placed
placed story = placed_in (story ∷ []) story.kids

-- a member of a revision, or a marker of a paired move
abbrev pub is_mark : Tag → Bool
is_mark tag = not (is_plain tag.kind)

-- neither the element nor one of its ancestors holds properties
abbrev pub is_content : Placed → Bool
is_content one = not (list_any (λ parts. is_quiet parts.tag) one.path)

-- the tags of a story's content revisions and markers, in their order
abbrev pub marks : Element → List Tag
marks story = map (λ one. one.tag) (filter (λ one. is_mark one.tag && is_content one) (placed story))

-- one that is left as it is
abbrev pub is_kept : List Say → Tag → Bool
is_kept says tag = is_mark tag && is_leave (fate_of says tag)

-- those that are left as they are, and that are in nothing that goes
abbrev pub kept_marks : List Say → Element → List Tag
kept_marks says story =
    map (λ one. one.tag) (filter (λ one. is_kept says one.tag && (is_content one && not (any_gone says one.path))) (placed story))

-- The content revisions and markers of each story after a pass are those, with name, attributes, kind and number.
abbrev pub KeptStay : Value → Type 0
KeptStay value =
    (says : List Say) (nodes : Nodes) → IsIndexed value nodes → map marks (stories (pass_package says nodes)) ≡ map (kept_marks says) (stories nodes)
