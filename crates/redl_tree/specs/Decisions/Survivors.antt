-- The text that a pass leaves, as a filter over the text of the original (ECMA-376 Part 1, 17.13.5). It says nothing of
-- joined paragraphs and of tags.
use Rattle.std.specs.Prelude.{ℕ, List, [], ◌∷◌, ◌++◌, ◌&&◌, ◌||◌, not, Bool, false, map, filter}
use Rattle.std.specs.List.{list_any}
use Rattle.redl_tree.specs.Model.Nodes.{Nodes, no_nodes, bytes, element}
use Rattle.redl_tree.specs.Model.View.{Element}
use Rattle.redl_tree.specs.Roles.Places.{is_quiet}
use Rattle.redl_tree.specs.Decisions.Fates.{fate_of}
use Rattle.redl_tree.specs.Roles.Kinds.{is_content, is_cut, is_drop}
use Rattle.redl_tree.specs.Decisions.Tables.{goes_at}
use Rattle.redl_tree.specs.declared.kinds.Say.{Say}

-- the bytes of one node, and its ancestors, the nearest first
pub record Stretch : Type 0 where
  pub text : List ℕ
  pub ancestors : List Element

-- the stretches among nodes with these ancestors, in their order
abbrev pub stretches_in : List Element → Nodes → List Stretch
stretches_in ancestors no_nodes = []
stretches_in ancestors (bytes b rest) = record { text = b; ancestors = ancestors } ∷ stretches_in ancestors rest
stretches_in ancestors (element tag kids rest) =
    stretches_in (record { tag = tag; kids = kids } ∷ ancestors) kids ++ stretches_in ancestors rest

-- the stretches of a story
abbrev pub stretches : Element → List Stretch
stretches story = stretches_in (story ∷ []) story.kids

-- a stretch is text where no ancestor is quiet
abbrev pub is_text : Stretch → Bool
is_text stretch = not (list_any (λ parts. is_quiet parts.tag) stretch.ancestors)

-- An element that goes with all that it holds: a content revision that is cut, a marker that is dropped, or a table, row,
-- cell or shell that goes. The root of a story stays.
abbrev pub is_gone : List Say → List Element → Element → Bool
is_gone says [] parts = false
is_gone says (parent ∷ ancestors) parts =
    (is_content parts.tag.kind && is_cut (fate_of says parts.tag))
    || is_drop (fate_of says parts.tag)
    || goes_at says (map (λ other. other.tag) (parent ∷ ancestors)) parts.tag parts.kids

-- some of these ancestors goes with all that it holds
abbrev pub any_gone : List Say → List Element → Bool
any_gone says [] = false
any_gone says (parts ∷ ancestors) = is_gone says ancestors parts || any_gone says ancestors

-- the text pieces of a story, in their order
abbrev pub text_pieces : Element → List (List ℕ)
text_pieces story = map (λ stretch. stretch.text) (filter is_text (stretches story))

-- the text pieces that survive a pass: no ancestor goes
abbrev pub survivors : List Say → Element → List (List ℕ)
survivors says story =
    map (λ stretch. stretch.text) (filter (λ stretch. is_text stretch && not (any_gone says stretch.ancestors)) (stretches story))
