-- The units of a story, which are what a reader passes in it one after the other, and the places of comments between them (our own rule;
-- ECMA-376 Part 1, 17.3.3 and 17.11 for the elements, 17.13.4 for comments).
use Rattle.std.specs.Prelude.{ℕ, Bool, List, [], ◌∷◌, codes, bytes_eq, length, Option, Some, None, if◌then◌else◌}
use Rattle.std.specs.List.{list_any}
use Rattle.redl_relations.specs.Values.{value_in}
use Rattle.redl_shown.specs.Shown.{shown}
use Rattle.redl_tree.specs.Model.Nodes.{Tag}
use Rattle.redl_tree.specs.Roles.Names.{is_any, is_w}
use Rattle.redl_spans.specs.declared.place.Anchor.{Anchor}
use Rattle.redl_spans.specs.declared.place.Anchor.TheVariants.{Start, End, Reference}

-- an element whose bytes are text
abbrev pub holds_text : Tag → Bool
holds_text tag = is_any ("t" ∷ "delText" ∷ []) tag

-- the local names of elements that are one unit, before those that they hold
abbrev pub unit_names : List (List ℕ)
unit_names =
    codes "tab" ∷ codes "br" ∷ codes "cr" ∷ codes "noBreakHyphen" ∷ codes "softHyphen" ∷ codes "sym" ∷ codes "ptab"
    ∷ codes "footnoteReference" ∷ codes "endnoteReference" ∷ codes "drawing" ∷ codes "pict" ∷ codes "object" ∷ []

abbrev pub is_unit_name : List ℕ → Bool
is_unit_name local = list_any (bytes_eq local) unit_names

-- what an element with this local name is to a comment
abbrev pub anchor_named : List ℕ → Option Anchor
anchor_named local =
    if bytes_eq local (codes "commentRangeStart") then Some Start
    else if bytes_eq local (codes "commentRangeEnd") then Some End
    else if bytes_eq local (codes "commentReference") then Some Reference
    else None

-- what is passed: so many units, or a place of the comments with this id
pub data Step : Type 0 where
  units_step : ℕ → Step
  place_step : Anchor → List ℕ → Step

abbrev pub place_steps : Option Anchor → List ℕ → List Step
place_steps None tail = []
place_steps (Some anchor) tail = place_step anchor (value_in tail (codes "id")) ∷ []

-- at the start tag of an element of W with this local name and tail
abbrev pub start_steps : List ℕ → List ℕ → List Step
start_steps local tail = if is_unit_name local then units_step 1 ∷ [] else place_steps (anchor_named local) tail

-- at that of any element
abbrev pub steps_at : Tag → List Step
steps_at tag = if is_w tag.space then start_steps tag.local tag.tail else []

-- Among bytes that are text or not. A unit is a byte that they show: no member holds a part of a character.
abbrev pub text_steps : Bool → List ℕ → List Step
text_steps in_text bytes = if in_text then units_step (length (shown bytes)) ∷ [] else []
