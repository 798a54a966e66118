-- What is written of a package: its nodes outside stories, and each story as its states show it.
use Rattle.std.proofs.Common.{◌≡◌, ◌∙◌, refl, ap, List, [], ◌∷◌, Bool, true, false, if◌then◌else◌}
use Rattle.redl_tree.specs.Model.Nodes.{Tag, Nodes, no_nodes, bytes, element}
use Rattle.redl_tree.specs.Model.View.{Element}
use Rattle.redl_tree.specs.Decisions.Packages.{is_root, is_story_root, roots_are_plain, stories_in, stories, StoryRule, left_after, changed_stories, changed_in, changed_package, pass_rule, pass_package}
use Rattle.redl_tree.specs.Revisions.Markers.{Value}
use Rattle.redl_tree.specs.Revisions.Numbers.{IsIndexed}
use Rattle.redl_tree.specs.Leaves.Containers.{opens, opens_outer}
use Rattle.redl_tree.specs.Leaves.States.{States}
use Rattle.redl_tree.specs.Leaves.Shown.{AreStatesOfEach, shown_rule}
use Rattle.redl_tree.specs.declared.kinds.Say.{Say}
use Rattle.redl_laws.proofs.Survival.Indexed.{AreStories, indexed_stories}
use Rattle.redl_tree.proofs.Decisions.StoryLaws.{Agree, changed_in-agree, stories-changed}
use Rattle.redl_tree.proofs.Roles.NameLaws.{frame_names, is_any-among}
use Rattle.redl_laws.proofs.Leaves.Packages.{ArePlain, roots-plain}
use Rattle.redl_laws.proofs.Leaves.Openings.{AnyPath, IsOuter, story_roots, root-outer}
use Rattle.redl_laws.proofs.Leaves.States.{IsCountedOpening, whole_opening, outer_opening}
use Rattle.redl_laws.proofs.Leaves.Stories.{story-shown}

-- ---- rules that look at no kids

-- what a rule makes of a story does not depend on the kids that its root has
pub record IsBlind {S : Type 0} (rule : StoryRule S) : Type 0 where
  pub kids : (given : S) (tag : Tag) (xs ys : Nodes) → rule.kids given tag xs ≡ rule.kids given tag ys
  pub left : (given : S) (tag : Tag) (xs ys : Nodes) → rule.left given tag xs ≡ rule.left given tag ys

module _ {S T : Type 0} (rule : StoryRule S) (blind : IsBlind rule) (first : StoryRule T) where
  left-blind : (given : S) (other : T) (ancestors : List Tag) (nodes : Nodes)
      → left_after rule given (stories_in ancestors (changed_in first other ancestors nodes)) ≡ left_after rule given (stories_in ancestors nodes)
  left-blind given other ancestors nodes =
      ap (left_after rule given) (stories-changed first other ancestors nodes) ∙ along given other (stories_in ancestors nodes)
    where
      along : (given : S) (other : T) (xs : List Element) → left_after rule given (changed_stories first other xs) ≡ left_after rule given xs
      along given other [] = refl
      along given other (story ∷ later) =
          ap (λ g. left_after rule g (changed_stories first (first.left other story.tag story.kids) later))
          (blind.left given story.tag (first.kids other story.tag story.kids) story.kids)
          ∙ along (rule.left given story.tag story.kids) (first.left other story.tag story.kids) later

  -- so it makes the same of a package, whatever became of its stories before
  pub changed-blind : (given : S) (other : T) (ancestors : List Tag) (nodes : Nodes)
      → changed_in rule given ancestors (changed_in first other ancestors nodes) ≡ changed_in rule given ancestors nodes
  changed-blind given other ancestors no_nodes = refl
  changed-blind given other ancestors (bytes b rest) = ap (bytes b) (changed-blind given other ancestors rest)
  changed-blind given other ancestors (element tag kids rest) =
      at (is_root ancestors tag) (changed-blind given other (tag ∷ ancestors) kids) (left-blind given other (tag ∷ ancestors) kids)
      (λ g o. changed-blind g o ancestors rest)
    where
      at : (b : Bool) → changed_in rule given (tag ∷ ancestors) (changed_in first other (tag ∷ ancestors) kids) ≡ changed_in rule given (tag ∷ ancestors) kids →
          left_after rule given (stories_in (tag ∷ ancestors) (changed_in first other (tag ∷ ancestors) kids)) ≡ left_after rule given (stories_in (tag ∷ ancestors) kids) →
          ((g : S) (o : T) → changed_in rule g ancestors (changed_in first o ancestors rest) ≡ changed_in rule g ancestors rest) →
          element tag
          (if b then rule.kids given tag (if b then first.kids other tag kids else changed_in first other (tag ∷ ancestors) kids)
          else changed_in rule given (tag ∷ ancestors) (if b then first.kids other tag kids else changed_in first other (tag ∷ ancestors) kids))
          (changed_in rule
          (left_after rule given
          (if b then record { tag = tag; kids = if b then first.kids other tag kids else changed_in first other (tag ∷ ancestors) kids } ∷ []
          else stories_in (tag ∷ ancestors) (if b then first.kids other tag kids else changed_in first other (tag ∷ ancestors) kids)))
          ancestors
          (changed_in first (left_after first other (if b then record { tag = tag; kids = kids } ∷ [] else stories_in (tag ∷ ancestors) kids)) ancestors rest))
          ≡ element tag (if b then rule.kids given tag kids else changed_in rule given (tag ∷ ancestors) kids)
          (changed_in rule (left_after rule given (if b then record { tag = tag; kids = kids } ∷ [] else stories_in (tag ∷ ancestors) kids)) ancestors rest)
      at true below gone later =
          let made = first.kids other tag kids in
          let o = first.left other tag kids in
          ap (λ xs. element tag xs (changed_in rule (rule.left given tag made) ancestors (changed_in first o ancestors rest))) (blind.kids given tag made kids)
          ∙ ap (λ g. element tag (rule.kids given tag kids) (changed_in rule g ancestors (changed_in first o ancestors rest))) (blind.left given tag made kids)
          ∙ ap (element tag (rule.kids given tag kids)) (later (rule.left given tag kids) o)
      at false below gone later =
          let o = left_after first other (stories_in (tag ∷ ancestors) kids) in
          let made = changed_in first other (tag ∷ ancestors) kids in
          ap (λ xs. element tag xs (changed_in rule (left_after rule given (stories_in (tag ∷ ancestors) made)) ancestors (changed_in first o ancestors rest))) below
          ∙ ap (λ g. element tag (changed_in rule given (tag ∷ ancestors) kids) (changed_in rule g ancestors (changed_in first o ancestors rest))) gone
          ∙ ap (element tag (changed_in rule given (tag ∷ ancestors) kids)) (later (left_after rule given (stories_in (tag ∷ ancestors) kids)) o)

-- what a story shows depends on its states, not on the kids that its root has at the time
pub shown-blind : IsBlind shown_rule
shown-blind = record { kids = λ given tag xs ys. refl; left = λ given tag xs ys. refl }

-- ---- what is written is the pass

module _ (opens : List Tag → Tag → Bool) (IsPath : List Tag → Type 0) (is : IsCountedOpening opens IsPath)
    (root : (tag : Tag) → is_story_root tag ≡ true → IsPath (tag ∷ [])) where
  shown-agree : (says : List Say) (xs : List Element) (each : List States) → AreStories xs → ArePlain xs → AreStatesOfEach opens says xs each
      → Agree shown_rule pass_rule each says xs
  shown-agree says [] each h p of = tt
  shown-agree says (story ∷ later) [] h p of = absurd of
  shown-agree says (story ∷ later) (states ∷ others) h p of = (
    (story-shown opens IsPath is root says story h.0 (is_any-among story_roots frame_names story.tag h.0.root refl, p.0)).written states of.0,
    shown-agree says later others h.1 p.1 of.1,
  )

  package-of : (value : Value) (says : List Say) (nodes : Nodes) (each : List States) → roots_are_plain [] nodes ≡ true → IsIndexed value nodes
      → AreStatesOfEach opens says (stories nodes) each → changed_package shown_rule each nodes ≡ pass_package says nodes
  package-of value says nodes each plain indexed of =
      changed_in-agree shown_rule pass_rule each says [] nodes
      (shown-agree says (stories nodes) each (indexed_stories value nodes indexed) (roots-plain [] nodes plain) of)

-- the law of writing: what is written of a package, whatever its stories hold by now, is its pass
pub package-written : {T : Type 0} (first : StoryRule T) (other : T) (value : Value) (says : List Say) (nodes : Nodes) (each : List States)
    → roots_are_plain [] nodes ≡ true → IsIndexed value nodes → AreStatesOfEach opens says (stories nodes) each
    → changed_package shown_rule each (changed_package first other nodes) ≡ pass_package says nodes
package-written first other value says nodes each plain indexed of =
    changed-blind shown_rule shown-blind first each other [] nodes
    ∙ package-of opens AnyPath whole_opening (λ tag named. tt) value says nodes each plain indexed of

-- the same where the outer containers alone are opened
pub package-written_outer : {T : Type 0} (first : StoryRule T) (other : T) (value : Value) (says : List Say) (nodes : Nodes) (each : List States)
    → roots_are_plain [] nodes ≡ true → IsIndexed value nodes → AreStatesOfEach opens_outer says (stories nodes) each
    → changed_package shown_rule each (changed_package first other nodes) ≡ pass_package says nodes
package-written_outer first other value says nodes each plain indexed of =
    changed-blind shown_rule shown-blind first each other [] nodes
    ∙ package-of opens_outer IsOuter outer_opening (λ tag named. root-outer tag named) value says nodes each plain indexed of

-- a package whose stories show their current states is its pass under the says
pub package-shows : (value : Value) (says : List Say) (nodes : Nodes) (each : List States) → roots_are_plain [] nodes ≡ true → IsIndexed value nodes
    → AreStatesOfEach opens says (stories nodes) each → changed_package shown_rule each nodes ≡ pass_package says nodes
package-shows = package-of opens AnyPath whole_opening (λ tag named. tt)

pub package-shows_outer : (value : Value) (says : List Say) (nodes : Nodes) (each : List States) → roots_are_plain [] nodes ≡ true → IsIndexed value nodes
    → AreStatesOfEach opens_outer says (stories nodes) each → changed_package shown_rule each nodes ≡ pass_package says nodes
package-shows_outer = package-of opens_outer IsOuter outer_opening (λ tag named. root-outer tag named)
