-- Revisions don't depend on labels: a numbered package has the revisions of the original, and as many.
use Rattle.std.proofs.Common.{◌≡◌, ◌∙◌, refl, ap, sym, ℕ, ◌+◌, List, [], ◌∷◌, ◌++◌, filter_map, map, Option, Some, None, option_map}
use Rattle.std.specs.List.{cons_option}
use Rattle.redl_tree.specs.Model.Nodes.{Tag, Nodes}
use Rattle.redl_tree.specs.Model.Seen.{Seen, seen}
use Rattle.redl_tree.specs.Decisions.Packages.{stories, left_after, changed_stories}
use Rattle.redl_tree.specs.Revisions.Labels.{unlabelled_tag, unlabelled}
use Rattle.redl_tree.specs.Revisions.Markers.{marker_of, move_of, whole_role}
use Rattle.redl_tree.specs.Revisions.Moves.{Marking, pairs}
use Rattle.redl_tree.specs.Revisions.Numbers.{labelled_story, next_after_story, number_rule}
use Rattle.redl_tree.proofs.Revisions.NumberLaws.{bare_seen, seen-bare, marker_of-bare, markers-bare, move_of-bare, whole_role-bare, unlabelled-story, unlabelled-numbered, story_next-bare, stories-numbered, numbered-indexed, broken-numbered}
use Rattle.redl_index.proofs.RootLaws.{roots-numbered}
use Rattle.redl_opc.specs.Elements.{Element}
use Rattle.redl_opc.specs.Shape.{elements_in, parts_of, package_of, story_of}
use Rattle.redl_opc.proofs.LabelLaws.{plain, elements-unlabelled, package_of-unlabelled, story_of-plain}
use Rattle.redl_stamp.specs.Attribute.{attribute_value}
use Rattle.redl_rules.specs.Attributes.{broken_rule, declares, has_id}
use Rattle.redl_moves.specs.Starts.{start_in}
use Rattle.redl_index.specs.Markers.Found.{markers_of, marker_tail, marker_tails}
use Rattle.redl_index.specs.Mentions.{Sight, sight_by, sight_in, mentions}
use Rattle.redl_index.specs.Numbers.{package_revisions, numbered_package}
use Rattle.redl_index.specs.Numbered.{IsNumberedFrom}
use Rattle.redl_index.specs.Revisions.{firsts, revision_of, story_revisions, revisions_in, revisions_from, numbered, revisions_of}

-- ---- the mentions in a story

tails-bare : (xs : List Seen) → filter_map marker_tail (map bare_seen xs) ≡ filter_map marker_tail xs
tails-bare [] = refl
tails-bare (x ∷ xs) =
    ap (λ o. cons_option (option_map (λ mark. x.own.tag.tail) o) (filter_map marker_tail (map bare_seen xs))) (marker_of-bare attribute_value x)
    ∙ ap (cons_option (marker_tail x)) (tails-bare xs)

sight-bare : (marks : List Marking) (tails : List (List ℕ)) (x : Seen) → sight_in marks tails (bare_seen x) ≡ sight_in marks tails x
sight-bare marks tails x =
    let tail = x.own.tag.tail in
    ap (λ kind. sight_by tails tail kind (option_map (start_in marks) (move_of attribute_value (pairs marks) (bare_seen x))))
    (whole_role-bare attribute_value (pairs marks) x)
    ∙ ap (λ move. sight_by tails tail (whole_role attribute_value (pairs marks) x) (option_map (start_in marks) move))
    (move_of-bare attribute_value (pairs marks) x)

sights-bare : (marks : List Marking) (tails : List (List ℕ)) (xs : List Seen) → map (sight_in marks tails) (map bare_seen xs) ≡ map (sight_in marks tails) xs
sights-bare marks tails [] = refl
sights-bare marks tails (x ∷ xs) =
    ap (λ s. s ∷ map (sight_in marks tails) (map bare_seen xs)) (sight-bare marks tails x)
    ∙ ap (λ ss. sight_in marks tails x ∷ ss) (sights-bare marks tails xs)

mentions-bare : (root : Tag) (kids : Nodes) → mentions (unlabelled_tag root) (unlabelled kids) ≡ mentions root kids
mentions-bare root kids =
    let bare_root = unlabelled_tag root in
    let bare_kids = unlabelled kids in
    let marks : markers_of bare_root bare_kids ≡ markers_of root kids =
    ap (filter_map (marker_of attribute_value)) (seen-bare root kids) ∙ markers-bare attribute_value (seen root kids) in
    let tails : marker_tails bare_root bare_kids ≡ marker_tails root kids =
    ap (filter_map marker_tail) (seen-bare root kids) ∙ tails-bare (seen root kids) in
    ap (filter_map (λ (sight : Sight). sight.mention))
    (ap (map (sight_in (markers_of bare_root bare_kids) (marker_tails bare_root bare_kids))) (seen-bare root kids)
    ∙ ap (λ ms. map (sight_in ms (marker_tails bare_root bare_kids)) (map bare_seen (seen root kids))) marks
    ∙ ap (λ ts. map (sight_in (markers_of root kids) ts) (map bare_seen (seen root kids))) tails
    ∙ sights-bare (markers_of root kids) (marker_tails root kids) (seen root kids))

-- ---- the revisions of a package

story-bare : (part : ℕ) (root : Tag) (kids : Nodes) → story_revisions part (unlabelled_tag root) (unlabelled kids) ≡ story_revisions part root kids
story-bare part root kids = ap (λ ms. map (revision_of part ms) (firsts [] ms)) (mentions-bare root kids)

in-bare : (number : ℕ) (root : Option Element) → revisions_in number (option_map plain root) ≡ revisions_in number root
in-bare number None = refl
in-bare number (Some root) = story-bare number root.tag root.kids

from-bare : (number : ℕ) (parts : List Element) → revisions_from number (map plain parts) ≡ revisions_from number parts
from-bare number [] = refl
from-bare number (part ∷ later) =
    ap (λ root. revisions_in number root ++ revisions_from (number + 1) (map plain later)) (story_of-plain part)
    ∙ ap (λ rs. rs ++ revisions_from (number + 1) (map plain later)) (in-bare number (story_of part))
    ∙ ap (λ rs. revisions_in number (story_of part) ++ rs) (from-bare (number + 1) later)

parts-bare : (nodes : Nodes) → parts_of (unlabelled nodes) ≡ map plain (parts_of nodes)
parts-bare nodes = ap elements_in (package_of-unlabelled nodes) ∙ by (package_of nodes)
  where
    by : (o : Option Element) → elements_in (option_map plain o) ≡ map plain (elements_in o)
    by None = refl
    by (Some root) = elements-unlabelled root.kids

revisions-bare : (nodes : Nodes) → revisions_of (unlabelled nodes) ≡ revisions_of nodes
revisions-bare nodes = ap (numbered 1) (ap (revisions_from 0) (parts-bare nodes) ∙ from-bare 0 (parts_of nodes))

-- a numbered package has the revisions of the original
pub revisions-numbered : (nodes : Nodes) → revisions_of (numbered_package nodes) ≡ revisions_of nodes
revisions-numbered nodes =
    sym (revisions-bare (numbered_package nodes)) ∙ ap revisions_of (unlabelled-numbered attribute_value nodes) ∙ revisions-bare nodes

-- ---- how many there are

next-again : (next first : ℕ) (root : Tag) (kids : Nodes)
    → next_after_story attribute_value next root (labelled_story attribute_value first root kids) ≡ next_after_story attribute_value next root kids
next-again next first root kids =
    sym (story_next-bare attribute_value next root (labelled_story attribute_value first root kids))
    ∙ ap (next_after_story attribute_value next (unlabelled_tag root)) (unlabelled-story attribute_value first root kids)
    ∙ story_next-bare attribute_value next root kids

all-again : (next first : ℕ) (parts : List Element) → left_after (number_rule attribute_value) next (changed_stories (number_rule attribute_value) first parts) ≡ left_after (number_rule attribute_value) next parts
all-again next first [] = refl
all-again next first (story ∷ later) =
    ap (λ n. left_after (number_rule attribute_value) n (changed_stories (number_rule attribute_value) (next_after_story attribute_value first story.tag story.kids) later))
    (next-again next first story.tag story.kids)
    ∙ all-again (next_after_story attribute_value next story.tag story.kids) (next_after_story attribute_value first story.tag story.kids) later

-- and as many
pub count-numbered : (nodes : Nodes) → package_revisions (numbered_package nodes) ≡ package_revisions nodes
count-numbered nodes =
    ap (left_after (number_rule attribute_value) 0) (stories-numbered attribute_value nodes) ∙ all-again 0 1 (stories nodes)

-- ---- what a numbered package is

pub numbered-from : (nodes made : Nodes) → made ≡ numbered_package nodes → IsNumberedFrom nodes made
numbered-from nodes made is = record {
  again = rw is (numbered-indexed attribute_value nodes);
  revisions = ap revisions_of is ∙ revisions-numbered nodes;
  rule = ap broken_rule is ∙ broken-numbered attribute_value has_id declares nodes;
  plain = λ bare. rw is (roots-numbered attribute_value nodes bare);
}
