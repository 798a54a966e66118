-- THE VIEW OF A PACKAGE: what the walk over an indexed package shows is the plain text of its pass. The walk needs that kinds
-- agree with places, and no rule of structure.
use Rattle.std.proofs.Common.{◌≡◌, ℕ, List, [], ◌∷◌, ◌++◌, map, length, ◌+◌, ◌<◌, Bool, true, false, Option, None, subst, refl, sym, ap, ◌∙◌, if◌then◌else◌}
use Rattle.std.specs.List.{flat_map}
use Rattle.redl_tree.specs.Model.Nodes.{Tag, Nodes}
use Rattle.redl_tree.specs.Model.View.{Element}
use Rattle.redl_tree.specs.Roles.Names.{is}
use Rattle.redl_tree.specs.Revisions.Markers.{Value}
use Rattle.redl_tree.specs.Revisions.Numbers.{IsIndexed}
use Rattle.redl_tree.specs.Decisions.Packages.{stories, pass_package}
use Rattle.redl_tree.specs.Decisions.Pass.{pass}
use Rattle.redl_tree.specs.declared.kinds.Say.{Say}
use Rattle.redl_tree.proofs.Roles.Named.{by_name}
use Rattle.redl_tree.proofs.Roles.Fits.{open_∷}
use Rattle.redl_laws.proofs.Survival.Indexed.{IsStory, AreStories, indexed_stories, passed, stories-pass}
use Rattle.redl_views.specs.PlainText.{plain_in, story_plain, plain_text}
use Rattle.redl_views.specs.Views.{is_freed, in_shown, view_in, story_view, view_text}
use Rattle.redl_tree.specs.Roles.Places.{is_quiet}
use Rattle.std.specs.Borrow.{GName}
use Rattle.std.proofs.lemmas.List.Concat.{flat_map-append}
use Rattle.redl_io.proofs.Puts.{PutsSoFar, so_far_begins}
use Rattle.redl_opc.specs.Shape.{parts_of}
use Rattle.redl_opc.specs.Stories.{stories_of_part, stories_from}
use Rattle.redl_opc.proofs.WalkLaws.{stories_from-part}
use Rattle.redl_shown.specs.Shown.{shown as shown_text}
use Rattle.redl_views.specs.Walks.{story_walk}
use Rattle.redl_views.proofs.ViewLaws.{view-pass}
use Rattle.redl_views.proofs.WalkLaws.{walk-view}

root_hidden : (says : List Say) (root : Tag) → is "document" root ≡ true → in_shown says (root ∷ []) ≡ false
root_hidden says root e = at (is_freed says root) (by_name (λ t. is "t" t ≡ false) "document" root e refl)
  where
    at : (b : Bool) → is "t" root ≡ false → (if b then false else is "t" root) ≡ false
    at true n = refl
    at false n = n

module _ (shown : List ℕ → List ℕ) where
  view-story : (says : List Say) (story : Element) → IsStory story → story_plain shown (passed says story) ≡ story_view shown says story
  view-story says story h = at (is "document" story.tag) refl
    where
      at : (b : Bool) → is "document" story.tag ≡ b →
          (if b then plain_in shown false (pass says (story.tag ∷ []) story.kids) else [])
          ≡ (if b then view_in shown says (story.tag ∷ []) None story.kids else [])
      at false e = refl
      at true e =
          ap (λ c. plain_in shown c (pass says (story.tag ∷ []) story.kids)) (sym (root_hidden says story.tag e))
          ∙ view-pass shown says (story.tag ∷ []) story.kids (open_∷ story.tag [] h.loud) h.fits (λ b. root_hidden says story.tag e)

  view-stories : (says : List Say) (xs : List Element) → AreStories xs → flat_map (story_plain shown) (map (passed says) xs) ≡ flat_map (story_view shown says) xs
  view-stories says [] h = refl
  view-stories says (x ∷ xs) h =
      ap (λ ts. ts ++ flat_map (story_plain shown) (map (passed says) xs)) (view-story says x h.0)
      ∙ ap (λ ts. story_view shown says x ++ ts) (view-stories says xs h.1)

  pub view-package : (value : Value) (says : List Say) (nodes : Nodes) → IsIndexed value nodes →
      plain_text shown (pass_package says nodes) ≡ view_text shown says nodes
  view-package value says nodes is =
      ap (λ ss. flat_map (story_plain shown) ss) (stories-pass says nodes) ∙ view-stories says (stories nodes) (indexed_stories value nodes is)

-- what the code puts of a story
walk-story : (says : List Say) (story : Element) → IsStory story → story_walk says story ≡ story_view shown_text says story
walk-story says story h =
    ap (λ ts. if is "document" story.tag then ts else []) (walk-view says (story.tag ∷ []) None story.kids (open_∷ story.tag [] h.loud) h.fits)

walk-stories : (says : List Say) (xs : List Element) → AreStories xs → flat_map (story_walk says) xs ≡ flat_map (story_view shown_text says) xs
walk-stories says [] h = refl
walk-stories says (x ∷ xs) h =
    ap (λ ts. ts ++ flat_map (story_walk says) xs) (walk-story says x h.0) ∙ ap (λ ts. story_view shown_text says x ++ ts) (walk-stories says xs h.1)

-- a walk over the stories gives the plain text of the package after its verdicts
pub walk-package : (value : Value) (says : List Say) (nodes : Nodes) → IsIndexed value nodes →
    flat_map (story_walk says) (stories nodes) ≡ plain_text shown_text (pass_package says nodes)
walk-package value says nodes is = walk-stories says (stories nodes) (indexed_stories value nodes is) ∙ sym (view-package shown_text value says nodes is)

pub document_loud : (root : Tag) → is "document" root ≡ true → is_quiet root ≡ false
document_loud root e = by_name (λ t. is_quiet t ≡ false) "document" root e refl

-- ---- the parts of a package, one after the other

pub walk-part : (says : List Say) (nodes : Nodes) (part : ℕ) → part < length (parts_of nodes) →
    flat_map (story_walk says) (stories_from part nodes) ≡ flat_map (story_walk says) (stories_of_part nodes part) ++ flat_map (story_walk says) (stories_from (part + 1) nodes)
walk-part says nodes part within =
    ap (flat_map (story_walk says)) (stories_from-part nodes part within) ∙ flat_map-append (story_walk says) (stories_of_part nodes part) (stories_from (part + 1) nodes)

-- a text that is put from its start
pub begins-at : {K : Type 0} {told : K → Option (List ℕ)} {faults settled : K → ℕ} {lenders : K → List GName} {text rest : List ℕ} → text ≡ rest → (sink : K)
    → PutsSoFar told faults settled lenders sink sink text rest
begins-at {told = told} {faults = faults} {settled = settled} {lenders = lenders} {text = text} e sink =
    subst (λ rest. PutsSoFar told faults settled lenders sink sink text rest) e (so_far_begins sink text)
