-- A package whose stories are rebuilt from their leaves is the passed package.
use Rattle.std.proofs.Common.{◌≡◌, refl, List, [], ◌∷◌, ◌++◌, Bool, true, false, if◌then◌else◌}
use Rattle.std.proofs.lemmas.Bool.{and_parts}
use Rattle.redl_tree.specs.Model.Nodes.{Tag, Nodes, no_nodes, bytes, element}
use Rattle.redl_tree.specs.Model.View.{Element}
use Rattle.redl_tree.specs.Decisions.Pass.{pass}
use Rattle.redl_tree.specs.Decisions.Packages.{is_root, is_story_root, is_plain, roots_are_plain, stories_in, stories, element_stories, pass_rule, changed_package, pass_package}
use Rattle.redl_tree.specs.Revisions.Markers.{Value}
use Rattle.redl_tree.specs.Revisions.Numbers.{IsIndexed}
use Rattle.redl_tree.specs.Leaves.Containers.{opens, opens_outer}
use Rattle.redl_tree.specs.Leaves.Slots.{slots_in}
use Rattle.redl_tree.specs.Leaves.Rebuilt.{rebuilt, rebuild_rule}
use Rattle.redl_tree.specs.declared.kinds.Kind.{Kind}
use Rattle.redl_tree.specs.declared.kinds.Kind.TheVariants.{Plain, Content, Mark, Row, Cell, Change, Marker}
use Rattle.redl_tree.specs.declared.kinds.Say.{Say}
use Rattle.redl_tree.proofs.Roles.NameLaws.{frame_names, is_any-among}
use Rattle.redl_tree.proofs.Roles.Fits.{AllFit}
use Rattle.redl_laws.proofs.Survival.Indexed.{AreStories, indexed_stories}
use Rattle.redl_tree.proofs.Decisions.StoryLaws.{Agree, changed_in-agree}
use Rattle.redl_laws.proofs.Leaves.StandIns.{IsPlain}
use Rattle.redl_laws.proofs.Leaves.Openings.{story_roots, rebuilt-story, rebuilt-outer_story}

plain_kind : (k : Kind) → is_plain k ≡ true → k ≡ Plain
plain_kind Plain e = refl
plain_kind (Content t) e = cc
plain_kind (Mark t) e = cc
plain_kind (Row t) e = cc
plain_kind (Cell t) e = cc
plain_kind (Change p) e = cc
plain_kind Marker e = cc

-- the roots of these stories have no role
abbrev pub ArePlain : List Element → Type 0
ArePlain [] = Unit {0}
ArePlain (story ∷ later) = (story.tag.kind ≡ Plain) × ArePlain later

ArePlain-++ : (xs ys : List Element) → ArePlain xs → ArePlain ys → ArePlain (xs ++ ys)
ArePlain-++ [] ys h k = k
ArePlain-++ (x ∷ xs) ys h k = (h.0, ArePlain-++ xs ys h.1 k)

pub roots-plain : (ancestors : List Tag) (nodes : Nodes) → roots_are_plain ancestors nodes ≡ true → ArePlain (stories_in ancestors nodes)
roots-plain ancestors no_nodes p = tt
roots-plain ancestors (bytes b rest) p = roots-plain ancestors rest p
roots-plain ancestors (element tag kids rest) p =
    let both = and_parts (if is_root ancestors tag then is_plain tag.kind else roots_are_plain (tag ∷ ancestors) kids) (roots_are_plain ancestors rest) p in
    ArePlain-++ (element_stories ancestors tag kids) (stories_in ancestors rest) (at (is_root ancestors tag) both.0 (roots-plain (tag ∷ ancestors) kids))
    (roots-plain ancestors rest both.1)
  where
    at : (b : Bool) → (if b then is_plain tag.kind else roots_are_plain (tag ∷ ancestors) kids) ≡ true
        → (roots_are_plain (tag ∷ ancestors) kids ≡ true → ArePlain (stories_in (tag ∷ ancestors) kids))
        → ArePlain (if b then record { tag = tag; kids = kids } ∷ [] else stories_in (tag ∷ ancestors) kids)
    at true e below = (plain_kind tag.kind e, tt)
    at false e below = below e

-- what is rebuilt of a story is its pass
abbrev RebuildsStories : (List Tag → Tag → Bool) → List Say → Type 0
RebuildsStories opens says =
    (root : Tag) (kids : Nodes) → is_story_root root ≡ true → IsPlain root → AllFit (root ∷ []) kids
    → rebuilt says (root ∷ []) (slots_in opens (root ∷ []) kids) ≡ pass says (root ∷ []) kids

module _ (opens : List Tag → Tag → Bool) (says : List Say) (rebuilds : RebuildsStories opens says) where
  stories-agree : (xs : List Element) → AreStories xs → ArePlain xs → Agree (rebuild_rule opens) pass_rule says says xs
  stories-agree [] h p = tt
  stories-agree (story ∷ later) h p = (
    rebuilds story.tag story.kids h.0.root (is_any-among story_roots frame_names story.tag h.0.root refl, p.0) h.0.fits,
    stories-agree later h.1 p.1,
  )

  package-agrees : (value : Value) (nodes : Nodes) → roots_are_plain [] nodes ≡ true → IsIndexed value nodes
      → changed_package (rebuild_rule opens) says nodes ≡ pass_package says nodes
  package-agrees value nodes plain indexed =
      changed_in-agree (rebuild_rule opens) pass_rule says says [] nodes
      (stories-agree (stories nodes) (indexed_stories value nodes indexed) (roots-plain [] nodes plain))

-- the law of rebuilding, for a package: the containers that stay, round the passes of their leaves, are the pass
pub package-rebuilt : (value : Value) (says : List Say) (nodes : Nodes) → roots_are_plain [] nodes ≡ true → IsIndexed value nodes
    → changed_package (rebuild_rule opens) says nodes ≡ pass_package says nodes
package-rebuilt value says nodes =
    package-agrees opens says (λ root kids named plain fits. rebuilt-story says root kids plain fits) value nodes

-- the same where the outer containers alone are opened
pub package-rebuilt_outer : (value : Value) (says : List Say) (nodes : Nodes) → roots_are_plain [] nodes ≡ true → IsIndexed value nodes
    → changed_package (rebuild_rule opens_outer) says nodes ≡ pass_package says nodes
package-rebuilt_outer value says nodes =
    package-agrees opens_outer says (λ root kids named plain fits. rebuilt-outer_story says root kids named plain fits) value nodes
