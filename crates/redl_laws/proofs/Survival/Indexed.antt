-- The stories of an indexed package: their kinds agree with their places. The laws of survival and soundness need no more,
-- and no numbers.
use Rattle.std.proofs.Common.{◌≡◌, ℕ, ◌+◌, List, [], ◌∷◌, ◌++◌, map, Bool, true, false, ◌&&◌, inl, inr, is_some, find, refl, sym, ap, ◌∙◌, codes, if◌then◌else◌}
use Rattle.std.proofs.lemmas.Bool.{and_parts}
use Rattle.redl_tree.specs.Model.Nodes.{Tag, Nodes, no_nodes, bytes, element}
use Rattle.redl_tree.specs.Model.View.{Element}
use Rattle.redl_tree.specs.Roles.Places.{is_quiet, is_open, is_range_edge, role}
use Rattle.redl_tree.specs.Model.Seen.{Spot, spot, seen_one, root_spots, seen, tags, tags_of}
use Rattle.redl_tree.specs.Revisions.Moves.{Pair, is_of_pair}
use Rattle.redl_tree.specs.Revisions.Markers.{Value, moves_among, move_of_marker}
use Rattle.redl_tree.specs.Rules.Sound.{is_marker}
use Rattle.redl_tree.specs.Revisions.Numbers.{Numbering, counted, revision_of, numbering_after, labelled_tag, labelled, labelled_story, start_with, number_rule, IsIndexed}
use Rattle.redl_tree.specs.Decisions.Packages.{is_root, level_of, is_data_level, is_story_root, stories_in, stories, element_stories, left_after, changed_stories, changed_in, pass_rule, pass_package}
use Rattle.redl_tree.specs.Decisions.Pass.{pass}
use Rattle.redl_tree.specs.Decisions.Survivors.{text_pieces, survivors}
use Rattle.redl_tree.specs.declared.kinds.Kind.TheVariants.{Marker}
use Rattle.redl_tree.specs.declared.kinds.Say.{Say}
use Rattle.redl_tree.proofs.Roles.Named.{by_names}
use Rattle.redl_tree.proofs.Roles.Fits.{Fits, AllFit}
use Rattle.redl_laws.proofs.Survival.Stories.{survival}
use Rattle.redl_tree.proofs.Decisions.StoryLaws.{stories-changed}

-- a search by a test that begins with a fact
find_fact : (b : Bool) (test : Pair → Bool) (xs : List Pair) → is_some (find (λ x. b && test x) xs) ≡ true → b ≡ true
find_fact true test xs e = refl
find_fact false test [] e = e
find_fact false test (x ∷ xs) e = find_fact false test xs e

kind_fits : (marked : Bool) (ancestors : List Tag) (tag : Tag) → tag.kind ≡ (if marked then Marker else role ancestors tag) →
    (marked ≡ true → (is_open ancestors ≡ true) × (is_range_edge tag ≡ true)) → Fits ancestors tag
kind_fits true ancestors tag k h = inr (record { kind = k; open_place = (h refl).0; edge = (h refl).1 })
kind_fits false ancestors tag k h = inl k

labelled_fits : (value : Value) (moves : List Pair) (so_far : Numbering) (ancestors : List Spot) (at : ℕ) (tag : Tag) (kids : Nodes) →
    labelled_tag value moves so_far (seen_one ancestors at tag kids) ≡ tag → Fits (tags_of ancestors) tag
labelled_fits value moves so_far ancestors at tag kids e =
    let has_id : (List ℕ → Bool) = λ tail. is_some (value tail (codes "id")) in
    kind_fits (is_some (move_of_marker value moves (seen_one ancestors at tag kids))) (tags_of ancestors) tag (sym (ap (λ t. t.kind) e))
    (λ m.
    let marks = find_fact (is_marker has_id (tags_of ancestors) tag) (is_of_pair at) moves m in
    and_parts (is_open (tags_of ancestors)) (is_range_edge tag)
    (and_parts (is_open (tags_of ancestors) && is_range_edge tag) (has_id tag.tail) marks).0)

pub fits_from : (value : Value) (moves : List Pair) (so_far : Numbering) (ancestors : List Spot) (at : ℕ) (nodes : Nodes) →
    labelled value moves ancestors at so_far nodes ≡ nodes → AllFit (tags_of ancestors) nodes
fits_from value moves so_far ancestors at no_nodes e = tt
fits_from value moves so_far ancestors at (bytes b rest) e = fits_from value moves so_far ancestors at rest cc
fits_from value moves so_far ancestors at (element tag kids rest) e = (
  labelled_fits value moves so_far ancestors at tag kids cc,
  fits_from value moves (counted (revision_of value moves (seen_one ancestors at tag kids)) so_far) (spot at tag kids ∷ ancestors) (at + 1) kids cc,
  fits_from value moves
      (numbering_after value moves (spot at tag kids ∷ ancestors) (at + 1) (counted (revision_of value moves (seen_one ancestors at tag kids)) so_far) kids)
      ancestors (at + 2 + tags kids) rest cc,
)

pub root_name : (ancestors : List Tag) (tag : Tag) → is_root ancestors tag ≡ true → is_story_root tag ≡ true
root_name ancestors tag e = (and_parts (is_data_level (level_of ancestors)) (is_story_root tag) e).1

pub root_loud : (ancestors : List Tag) (tag : Tag) → is_root ancestors tag ≡ true → is_quiet tag ≡ false
root_loud ancestors tag e =
    by_names (λ t. is_quiet t ≡ false) ("document" ∷ "hdr" ∷ "ftr" ∷ "footnotes" ∷ "endnotes" ∷ "comments" ∷ []) tag (root_name ancestors tag e) (refl, (refl, (refl, (refl, (refl, (refl, tt))))))

-- a story of an indexed package
pub record IsStory (story : Element) : Type 0 where
  pub root : is_story_root story.tag ≡ true
  pub loud : is_quiet story.tag ≡ false
  pub fits : AllFit (story.tag ∷ []) story.kids

-- each of these is a story of an indexed package
abbrev pub AreStories : List Element → Type 0
AreStories [] = Unit {0}
AreStories (story ∷ rest) = IsStory story × AreStories rest

AreStories-++ : (xs ys : List Element) → AreStories xs → AreStories ys → AreStories (xs ++ ys)
AreStories-++ [] ys h k = k
AreStories-++ (x ∷ xs) ys h k = (h.0, AreStories-++ xs ys h.1 k)

stories_are : (value : Value) (ancestors : List Tag) (next : ℕ) (nodes : Nodes) → changed_in (number_rule value) next ancestors nodes ≡ nodes → AreStories (stories_in ancestors nodes)
stories_are value ancestors next no_nodes e = tt
stories_are value ancestors next (bytes b rest) e = stories_are value ancestors next rest cc
stories_are value ancestors next (element tag kids rest) e =
    AreStories-++ (element_stories ancestors tag kids) (stories_in ancestors rest)
    (here (is_root ancestors tag) refl (cc) (stories_are value (tag ∷ ancestors) next kids))
    (stories_are value ancestors (left_after (number_rule value) next (element_stories ancestors tag kids)) rest cc)
  where
    here : (b : Bool) → is_root ancestors tag ≡ b → (if b then labelled_story value next tag kids else changed_in (number_rule value) next (tag ∷ ancestors) kids) ≡ kids →
        (changed_in (number_rule value) next (tag ∷ ancestors) kids ≡ kids → AreStories (stories_in (tag ∷ ancestors) kids)) →
        AreStories (if b then record { tag = tag; kids = kids } ∷ [] else stories_in (tag ∷ ancestors) kids)
    here true r e ih =
        (record { root = root_name ancestors tag r; loud = root_loud ancestors tag r; fits = fits_from value (moves_among value (seen tag kids)) (start_with next) (root_spots tag kids) 1 kids e }, tt)
    here false r e ih = ih e

-- the stories of an indexed package have story roots, and their elements have the kinds of their roles or are markers
pub indexed_stories : (value : Value) (nodes : Nodes) → IsIndexed value nodes → AreStories (stories nodes)
indexed_stories value nodes e = stories_are value [] 1 nodes e

-- the stories of a passed package are the passed stories
abbrev pub passed : List Say → Element → Element
passed says story = record { tag = story.tag; kids = pass says (story.tag ∷ []) story.kids }

passed_all : (says : List Say) (xs : List Element) → changed_stories pass_rule says xs ≡ map (passed says) xs
passed_all says [] = refl
passed_all says (x ∷ xs) = ap (λ ss. passed says x ∷ ss) (passed_all says xs)

-- the stories of a passed package are its stories, each passed
pub stories-pass : (says : List Say) (nodes : Nodes) → stories (pass_package says nodes) ≡ map (passed says) (stories nodes)
stories-pass says nodes = stories-changed pass_rule says [] nodes ∙ passed_all says (stories nodes)

-- the law of survival for a package: the text pieces of the passed stories are the survivors of the original ones
survival_of : (says : List Say) (xs : List Element) → AreStories xs → map text_pieces (map (passed says) xs) ≡ map (survivors says) xs
survival_of says [] h = refl
survival_of says (x ∷ xs) h =
    ap (λ t. t ∷ map text_pieces (map (passed says) xs)) (survival says x.tag x.kids h.0.loud h.0.fits)
    ∙ ap (λ ts. survivors says x ∷ ts) (survival_of says xs h.1)

-- the text pieces of the passed stories are the survivors of the original ones
pub survival-package : (value : Value) (says : List Say) (nodes : Nodes) → IsIndexed value nodes →
    map text_pieces (stories (pass_package says nodes)) ≡ map (survivors says) (stories nodes)
survival-package value says nodes is =
    ap (λ ss. map text_pieces ss) (stories-pass says nodes) ∙ survival_of says (stories nodes) (indexed_stories value nodes is)
