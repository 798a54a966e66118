-- The laws of leaves for each story of an indexed package.
use Rattle.std.proofs.Common.{◌≡◌, ◌∙◌, refl, sym, ap, ℕ, List, [], ◌∷◌, Bool, true, false, ◌||◌, map, All}
use Rattle.std.proofs.lemmas.List.Elements.{All-nil, All-cons}
use Rattle.redl_tree.specs.Model.Nodes.{Tag, Nodes}
use Rattle.redl_tree.specs.Model.View.{Element}
use Rattle.redl_tree.specs.Decisions.Packages.{is_story_root, roots_are_plain, stories}
use Rattle.redl_tree.specs.Revisions.Markers.{Value}
use Rattle.redl_tree.specs.Revisions.Numbers.{IsIndexed}
use Rattle.redl_tree.specs.Leaves.Containers.{opens, opens_outer}
use Rattle.redl_tree.specs.Leaves.Slots.{slots_in}
use Rattle.redl_tree.specs.Leaves.Leaf.{leaves_by}
use Rattle.redl_tree.specs.Leaves.Settings.{has_member, leaf_holds}
use Rattle.redl_tree.specs.Leaves.Present.{present_leaf, present_leaves}
use Rattle.redl_tree.specs.Leaves.Shown.{ShowsStory}
use Rattle.redl_tree.specs.declared.kinds.Say.{Say}
use Rattle.redl_tree.proofs.Roles.NameLaws.{frame_names, is_any-among}
use Rattle.redl_laws.proofs.Survival.Indexed.{IsStory, AreStories, indexed_stories}
use Rattle.redl_tree.proofs.Roles.Fits.{open_∷}
use Rattle.redl_laws.proofs.Leaves.StandIns.{IsPlain}
use Rattle.redl_laws.proofs.Leaves.Openings.{AnyPath, IsOuter, story_roots, root-outer, root-stays}
use Rattle.redl_laws.proofs.Leaves.Originals.{original-slots}
use Rattle.redl_laws.proofs.Leaves.Settings.{held-original}
use Rattle.redl_laws.proofs.Leaves.Members.{AreUnheld, package-unheld}
use Rattle.redl_laws.proofs.Leaves.Packages.{ArePlain, roots-plain}
use Rattle.redl_laws.proofs.Leaves.Present.{present-walk}
use Rattle.redl_laws.proofs.Leaves.States.{IsCountedOpening, whole_opening, outer_opening, shown-pass, lent-present}

-- the root of a story never goes
root-walk : (opens : List Tag → Tag → Bool) (says : List Say) (story : Element) → is_story_root story.tag ≡ true
    → map (present_leaf says) (leaves_by opens story) ≡ present_leaves says false (story.tag ∷ []) (slots_in opens (story.tag ∷ []) story.kids)
root-walk opens says story named =
    present-walk says (story ∷ []) (slots_in opens (story.tag ∷ []) story.kids)
    ∙ ap (λ b. present_leaves says (b || false) (story.tag ∷ []) (slots_in opens (story.tag ∷ []) story.kids)) (root-stays says story.tag story.kids named)

module _ (opens : List Tag → Tag → Bool) (IsPath : List Tag → Type 0) (is : IsCountedOpening opens IsPath)
    (root : (tag : Tag) → is_story_root tag ≡ true → IsPath (tag ∷ [])) where
  pub story-shown : (says : List Say) (story : Element) → IsStory story → IsPlain story.tag → ShowsStory opens says story
  story-shown says story it plain = record {
    written = λ kept of. shown-pass opens IsPath is says (story.tag ∷ []) story.kids kept (root story.tag it.root) (plain, tt) it.fits of.split of.current;
    leaves = λ kept of.
        lent-present opens IsPath is says false (story.tag ∷ []) story.kids kept (open_∷ story.tag [] it.loud) of.split of.current
        ∙ sym (root-walk opens says story it.root);
  }

  stories-shown : (says : List Say) (xs : List Element) → AreStories xs → ArePlain xs → All (ShowsStory opens says) xs
  stories-shown says [] h p = All-nil (ShowsStory opens says)
  stories-shown says (story ∷ later) h p =
      All-cons (ShowsStory opens says) story later
      (story-shown says story h.0 (is_any-among story_roots frame_names story.tag h.0.root refl, p.0)) (stories-shown says later h.1 p.1)

-- each story of an indexed package is shown by its leaves as the pass makes it
pub package-shown : (value : Value) (says : List Say) (nodes : Nodes) → roots_are_plain [] nodes ≡ true → IsIndexed value nodes
    → All (ShowsStory opens says) (stories nodes)
package-shown value says nodes plain indexed =
    stories-shown opens AnyPath whole_opening (λ tag named. tt) says (stories nodes) (indexed_stories value nodes indexed) (roots-plain [] nodes plain)

pub package-shown_outer : (value : Value) (says : List Say) (nodes : Nodes) → roots_are_plain [] nodes ≡ true → IsIndexed value nodes
    → All (ShowsStory opens_outer says) (stories nodes)
package-shown_outer value says nodes plain indexed =
    stories-shown opens_outer IsOuter outer_opening (λ tag named. root-outer tag named) says (stories nodes) (indexed_stories value nodes indexed) (roots-plain [] nodes plain)

-- ---- members

-- in an indexed package only leaves hold members and markers, so what a story holds is what its leaves hold
abbrev AreHeld : (List Tag → Tag → Bool) → (ℕ → Bool) → Element → Type 0
AreHeld opens is_set story = has_member is_set story.kids ≡ leaf_holds is_set (slots_in opens (story.tag ∷ []) story.kids)

stories-held : (opens : List Tag → Tag → Bool) (is_set : ℕ → Bool) (xs : List Element) → AreUnheld opens is_set xs → All (AreHeld opens is_set) xs
stories-held opens is_set [] h = All-nil (AreHeld opens is_set)
stories-held opens is_set (story ∷ later) h =
    let slots = slots_in opens (story.tag ∷ []) story.kids in
    All-cons (AreHeld opens is_set) story later
    (ap (has_member is_set) (sym (original-slots opens (story.tag ∷ []) story.kids)) ∙ held-original is_set slots h.0) (stories-held opens is_set later h.1)

pub package-held : (value : Value) (nodes : Nodes) → IsIndexed value nodes → (is_set : ℕ → Bool) → is_set 0 ≡ false
    → All (λ story. has_member is_set story.kids ≡ leaf_holds is_set (slots_in opens (story.tag ∷ []) story.kids)) (stories nodes)
package-held value nodes indexed is_set none = stories-held opens is_set (stories nodes) (package-unheld value nodes indexed is_set none)
