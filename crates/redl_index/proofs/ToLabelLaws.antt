-- What is known of the stories of a package serves for all of them, and labels them as the definition does.
use Rattle.std.proofs.Common.{◌≡◌, ◌∙◌, refl, ap, sym, subst, ℕ, ◌+◌, ◌^◌, ◌<◌, ◌≤◌, List, [], ◌∷◌, ◌++◌, map, Bool, true, false, arith, if◌then◌else◌}
use Rattle.std.specs.Cmp.{second_so}
use Rattle.redl_tree.specs.Model.Count.{count}
use Rattle.redl_tree.specs.Model.Nodes.{Tag, Nodes, no_nodes, bytes, element}
use Rattle.redl_tree.specs.Model.Seen.{seen, root_spots}
use Rattle.redl_tree.specs.Model.View.{Element}
use Rattle.redl_tree.specs.Decisions.Packages.{is_data_level, level_of, is_story_root, is_root, stories_in, stories, left_after, changed_package}
use Rattle.redl_tree.specs.Decisions.Taken.{TakesAll}
use Rattle.redl_tree.specs.Revisions.Markers.{moves_among}
use Rattle.redl_tree.specs.Revisions.Numbers.{start_with, next_after_story, number_rule}
use Rattle.redl_tree.proofs.Revisions.NumberLaws.{unlabelled-story}
use Rattle.redl_tree.proofs.Decisions.StoryLaws.{Agree, changed_in-agree}
use Rattle.redl_opc.specs.Labels.{SetsLabels}
use Rattle.redl_stamp.specs.Attribute.{attribute_value}
use Rattle.redl_index.specs.Inside.Markers.Free.{Every}
use Rattle.redl_index.specs.StoryFacts.{Facts, facts_in}
use Rattle.redl_index.specs.Numbers.{numbered_package}
use Rattle.redl_index.specs.ToLabel.{Left, left_rule, IsNext}
use Rattle.redl_index.proofs.EveryLaws.{every-append}
use Rattle.redl_index.proofs.LabelLaws.{GoesOn, numbering-goes}

-- ---- the rule is that of the definition

pub sets-labels : SetsLabels left_rule
sets-labels left tag kids = unlabelled-story attribute_value left.next tag kids

rules-agree : (left : Left) (xs : List Element) → Agree left_rule (number_rule attribute_value) left left.next xs
rules-agree left [] = tt
rules-agree left (story ∷ xs) = (refl, rules-agree (left_rule.left left story.tag story.kids) xs)

pub labelled-numbered : (left : Left) (nodes : Nodes) → left.next ≡ 1 → changed_package left_rule left nodes ≡ numbered_package nodes
labelled-numbered left nodes is =
    changed_in-agree left_rule (number_rule attribute_value) left left.next [] nodes (rules-agree left (stories nodes))
    ∙ ap (λ next. changed_package (number_rule attribute_value) next nodes) is

pub next-left : (left : Left) (xs : List Element) → (left_after left_rule left xs).next ≡ left_after (number_rule attribute_value) left.next xs
next-left left [] = refl
next-left left (story ∷ xs) = next-left (left_rule.left left story.tag story.kids) xs

-- ---- each story is the next one that is known

abbrev HasRoot : Element → Type 0
HasRoot story = is_story_root story.tag ≡ true

-- the nodes of stories, their roots included
abbrev pub size : List Element → ℕ
size [] = 0
size (story ∷ xs) = (1 + count story.kids) + size xs

size-append : (xs ys : List Element) → size (xs ++ ys) ≡ size xs + size ys
size-append [] ys = omega arith
size-append (x ∷ xs) ys = omega (arith, size-append xs ys)

roots-in : (ancestors : List Tag) (nodes : Nodes) → Every HasRoot (stories_in ancestors nodes)
roots-in ancestors no_nodes = tt
roots-in ancestors (bytes b rest) = roots-in ancestors rest
roots-in ancestors (element tag kids rest) =
    every-append HasRoot (if is_root ancestors tag then record { tag = tag; kids = kids } ∷ [] else stories_in (tag ∷ ancestors) kids) (stories_in ancestors rest)
    (by (is_root ancestors tag) refl (roots-in (tag ∷ ancestors) kids)) (roots-in ancestors rest)
  where
    by : (b : Bool) → is_root ancestors tag ≡ b → Every HasRoot (stories_in (tag ∷ ancestors) kids)
        → Every HasRoot (if b then record { tag = tag; kids = kids } ∷ [] else stories_in (tag ∷ ancestors) kids)
    by true is below = (second_so (is_data_level (level_of ancestors)) (is_story_root tag) is, tt)
    by false is below = below

size-in : (ancestors : List Tag) (nodes : Nodes) → size (stories_in ancestors nodes) ≤ count nodes
size-in ancestors no_nodes = omega arith
size-in ancestors (bytes b rest) = omega (arith, size-in ancestors rest)
size-in ancestors (element tag kids rest) =
    let here = if is_root ancestors tag then record { tag = tag; kids = kids } ∷ [] else stories_in (tag ∷ ancestors) kids in
    omega (arith, size-append here (stories_in ancestors rest), by (is_root ancestors tag) (size-in (tag ∷ ancestors) kids), size-in ancestors rest)
  where
    by : (b : Bool) → size (stories_in (tag ∷ ancestors) kids) ≤ count kids
        → size (if b then record { tag = tag; kids = kids } ∷ [] else stories_in (tag ∷ ancestors) kids) ≤ 1 + count kids
    by true below = omega arith
    by false below = omega (arith, below)

story-goes : (next : ℕ) (tag : Tag) (kids : Nodes) → GoesOn next (next_after_story attribute_value next tag kids) (count kids)
story-goes next tag kids = numbering-goes (moves_among attribute_value (seen tag kids)) (root_spots tag kids) 1 (start_with next) kids

takes-known : (next : ℕ) (xs : List Element) → Every HasRoot xs → 0 < next → next + size xs ≤ 2 ^ 32
    → TakesAll left_rule IsNext (record { next = next; stories = map facts_in xs }) xs
takes-known next [] roots begun few = tt
takes-known next (story ∷ xs) roots begun few =
    let goes = story-goes next story.tag story.kids in (
      record { root = roots.0; known = refl; begun = begun; few = omega (arith, few) },
      takes-known (next_after_story attribute_value next story.tag story.kids) xs roots.1 (omega (arith, begun, goes.at_least)) (omega (arith, few, goes.at_most)),
    )

pub takes-stories : (known : List Facts) (nodes : Nodes) → known ≡ map facts_in (stories nodes) → count nodes < 2 ^ 32
    → TakesAll left_rule IsNext (record { next = 1; stories = known }) (stories nodes)
takes-stories known nodes is few =
    let P : List Facts → Type 0 = λ stories_known. TakesAll left_rule IsNext (record { next = 1; stories = stories_known }) (stories nodes) in
    subst P (sym is) (takes-known 1 (stories nodes) (roots-in [] nodes) (omega arith) (omega (arith, size-in [] nodes, few)))
