-- Which members and markers stay marked wherever they stand, also in properties (ECMA-376 Part 1, 17.13.5): those with the say Keep, unless
-- what is around them goes, or they stand in the properties of a paragraph whose end goes.
use Rattle.std.specs.Prelude.{◌≡◌, ◌⊎◌, ◌&&◌, not, ℕ, List, [], ◌∷◌, Bool, true, false, map}
use Rattle.redl_stays_sound.specs.Kept.{is_kept}
use Rattle.redl_tree.specs.Decisions.Packages.{stories, pass_package}
use Rattle.redl_tree.specs.Decisions.Pass.{is_block_para}
use Rattle.redl_tree.specs.Decisions.Survivors.{is_gone}
use Rattle.redl_tree.specs.Decisions.Tables.{para_is_cut}
use Rattle.redl_tree.specs.Model.Nodes.{Tag, Nodes, no_nodes, bytes, element}
use Rattle.redl_tree.specs.Model.View.{Element}
use Rattle.redl_tree.specs.Revisions.Markers.{Value}
use Rattle.redl_tree.specs.Revisions.Numbers.{IsIndexed}
use Rattle.redl_tree.specs.Roles.Names.{is}
use Rattle.redl_tree.specs.Rules.Sound.{is_sound, tests}
use Rattle.redl_tree.specs.declared.kinds.Say.{Say}

-- an element with this tag is among these nodes, at any depth
abbrev pub HasTag : Tag → Nodes → Type 0
HasTag tag no_nodes = ⊥
HasTag tag (bytes b rest) = HasTag tag rest
HasTag tag (element own kids rest) = ((own ≡ tag) ⊎ HasTag tag kids) ⊎ HasTag tag rest

abbrev pub tags_of : List Element → List Tag
tags_of above = map (λ other. other.tag) above

-- The properties of a paragraph of a block list whose end goes. The paragraph is joined with the next one, whose properties then hold for both,
-- or vanishes where a table or the like comes next and it holds nothing else.
abbrev pub is_cut_props : List Say → List Element → Tag → Bool
is_cut_props says [] tag = false
is_cut_props says (owner ∷ above) tag = is "pPr" tag && (is_block_para says (tags_of above) owner.tag && para_is_cut says owner.kids)

-- an element with these ancestors neither goes, with all that it holds, nor is it such properties
abbrev pub stands : List Say → List Element → Element → Bool
stands says above parts = not (is_gone says above parts) && not (is_cut_props says above parts.tag)

-- among nodes with these ancestors is a member or a marker with this tag and the say Keep that stands, and so does all around it
abbrev pub HasKept : List Say → List Element → Nodes → Tag → Type 0
HasKept says above no_nodes tag = ⊥
HasKept says above (bytes b rest) tag = HasKept says above rest tag
HasKept says above (element own kids rest) tag =
    let here : Element = record { tag = own; kids = kids } in
    ((stands says above here ≡ true) × (((own ≡ tag) × (is_kept says own ≡ true)) ⊎ HasKept says (here ∷ above) kids tag)) ⊎ HasKept says above rest tag

-- each of them is in the story that has its place in the other list
abbrev pub StayIn : List Say → List Element → List Element → Type 0
StayIn says [] [] = Unit {0}
StayIn says (old ∷ olds) (new ∷ news) = ((tag : Tag) → HasKept says (old ∷ []) old.kids tag → HasTag tag new.kids) × StayIn says olds news
StayIn says _ _ = ⊥

-- so it is with the stories of a sound package and those that a pass leaves
abbrev pub AllKeptStay : Value → (List ℕ → Bool) → (List ℕ → Bool) → Type 0
AllKeptStay value has_id declares =
    (says : List Say) (nodes : Nodes) → IsIndexed value nodes → is_sound (tests has_id declares) nodes ≡ true
    → StayIn says (stories nodes) (stories (pass_package says nodes))
