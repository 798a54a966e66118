-- What one element adds to what is found, and what it is to those in it.
use Rattle.std.proofs.Common.{◌≡◌, ◌∙◌, refl, ap, sym, ℕ, List, [], ◌∷◌, ◌++◌, Bool, true, false, Option, Some, None, length, option_to_list, set, append_assoc, ◌&&◌, ◌||◌, if◌then◌else◌}
use Rattle.std.specs.List.{cons_option, list_any}
use Rattle.std.proofs.Math.Bool.{or_comm}
use Rattle.redl_tree.specs.Model.Nodes.{Tag, Nodes, element, Item, bytes_item, element_item, idle_item, in_front, ◌⊕◌}
use Rattle.redl_tree.specs.Model.IdleTexts.{idle_nodes}
use Prim.Native.String.{String}
use Rattle.redl_tree.specs.Roles.Names.{is}
use Rattle.redl_tree.specs.declared.node.Node.{Node}
use Rattle.redl_tree.specs.Model.View.{item_of, nodes_of}
use Rattle.redl_tree.specs.Model.Kids.{some_element, item_is, kids_of_all}
use Rattle.redl_tree.specs.Model.Seen.{Spot, spot, tags_of}
use Rattle.redl_tree.proofs.Idle.Items.{nodes_are_idle}
use Rattle.redl_tree.proofs.Idle.Lists.{NoneIs, kids_of_all_past}
use Rattle.redl_tree.proofs.Model.KeptLaws.{some-⊕, some-in_front}
use Rattle.redl_visit.specs.Summaries.{ancestors_of}
use Rattle.redl_index.specs.Markers.Ends.{one_end}
use Rattle.redl_index.specs.Inside.Markers.Trails.{trail_of, makes_revised, is_revised_by, leaves_grid_at, inside_trail}
use Rattle.redl_index.specs.declared.markers.trail.Trail.{Trail}

-- ---- the end of a paragraph is noted anew

set_after : (before later : List ℕ) (was at : ℕ) → set ((before ++ was ∷ []) ++ later) (length before) at ≡ (before ++ at ∷ []) ++ later
set_after [] later was at = refl
set_after (x ∷ before) later was at = ap (λ xs. x ∷ xs) (set_after before later was at)

pub mended : (tag : Tag) (before later : List ℕ) (was at : ℕ) →
    (if is "p" tag then set ((before ++ one_end tag was) ++ later) (length before) at else (before ++ one_end tag was) ++ later)
    ≡ before ++ (one_end tag at ++ later)
mended tag before later was at = by (is "p" tag)
  where
    by : (b : Bool) →
        (if b then set ((before ++ (if b then was ∷ [] else [])) ++ later) (length before) at else (before ++ (if b then was ∷ [] else [])) ++ later)
        ≡ before ++ ((if b then at ∷ [] else []) ++ later)
    by true = set_after before later was at ∙ append_assoc before (at ∷ []) later
    by false = append_assoc before [] later

-- ---- what an element adds

pub element-more : {X : Type 0} (had : List X) (own : Option X) (below : List X) →
    (had ++ option_to_list own) ++ below ≡ had ++ cons_option own below
element-more had None below = append_assoc had [] below
element-more had (Some x) below = append_assoc had (x ∷ []) below

-- ---- trails

-- the trail of the kids of an element
pub trail-inside : (at : ℕ) (tag : Tag) (kids : Nodes) (ancestors : List Spot) →
    inside_trail tag kids (ancestors_of (tags_of ancestors)) (trail_of ancestors) ≡ trail_of (spot at tag kids ∷ ancestors)
trail-inside at tag kids ancestors =
    let here = trail_of ancestors in
    let Told : Bool → Bool → Trail = λ revised astray. record { revised = revised; astray = astray } in
    let leaves = leaves_grid_at (ancestors_of (tags_of ancestors)).place tag in
    ap (λ revised. Told revised (here.astray || leaves)) (or_comm here.revised (is_revised_by tag kids))
    ∙ ap (Told (is_revised_by tag kids || here.revised)) (or_comm here.astray leaves)

-- ---- rows and cells that are revisions themselves

-- some element among the kids of those with this name
named_kids : (test : Tag → Bool) (name : String) (tag : Tag) (kids rest : Nodes) →
    some_element test (kids_of_all name (element tag kids rest)) ≡ (is name tag && some_element test kids || some_element test (kids_of_all name rest))
named_kids test name tag kids rest = by (is name tag)
  where
    by : (b : Bool) → some_element test (if b then kids ⊕ kids_of_all name rest else kids_of_all name rest)
        ≡ (b && some_element test kids || some_element test (kids_of_all name rest))
    by true = some-⊕ test kids (kids_of_all name rest)
    by false = refl

named_kids-in_front : (test : Tag → Bool) (name : String) → NoneIs false (is name) → (x : Item) (rest : Nodes) →
    some_element test (kids_of_all name (in_front x rest)) ≡ (makes_revised name test x || some_element test (kids_of_all name rest))
named_kids-in_front test name none (bytes_item b) rest = refl
named_kids-in_front test name none (element_item tag kids) rest = named_kids test name tag kids rest
named_kids-in_front test name none (idle_item t) rest = ap (some_element test) (kids_of_all_past false name none (idle_nodes t) rest (nodes_are_idle t))

-- some node makes a revision where some element among the kids of those with this name does
pub any_revision : (test : Tag → Bool) (name : String) → NoneIs false (is name) → (nodes : List Node) →
    list_any (λ node. makes_revised name test (item_of node)) nodes ≡ some_element test (kids_of_all name (nodes_of nodes))
any_revision test name none [] = refl
any_revision test name none (node ∷ nodes) =
    ap (λ b. makes_revised name test (item_of node) || b) (any_revision test name none nodes)
    ∙ sym (named_kids-in_front test name none (item_of node) (nodes_of nodes))

-- some node is a mark where some element is one
pub any_mark : (test : Tag → Bool) (nodes : List Node) → list_any (λ node. item_is test (item_of node)) nodes ≡ some_element test (nodes_of nodes)
any_mark test [] = refl
any_mark test (node ∷ nodes) = ap (λ b. item_is test (item_of node) || b) (any_mark test nodes) ∙ sym (some-in_front test (item_of node) (nodes_of nodes))
