-- In an indexed story only leaves hold members and markers: a container has the number 0.
use Rattle.std.proofs.Common.{refl, ◌≡◌, ◌∙◌, sym, ap, ℕ, ◌+◌, List, [], ◌∷◌, ◌++◌, Bool, true, false, Option, if◌then◌else◌, ◌&&◌, ◌||◌}
use Rattle.redl_tree.specs.Model.Nodes.{Tag, Nodes, no_nodes, bytes, element}
use Rattle.redl_tree.specs.Model.View.{Element}
use Rattle.redl_tree.specs.Model.Seen.{Spot, spot, seen_one, root_spots, seen, tags}
use Rattle.redl_tree.specs.Roles.Places.{is_open}
use Rattle.redl_tree.specs.Model.Kids.{kids_of_all}
use Rattle.redl_tree.specs.Roles.Names.{is}
use Rattle.redl_tree.specs.Roles.Kinds.{is_row, is_cell, is_cut}
use Rattle.redl_tree.specs.Decisions.Fates.{fate_of}
use Rattle.redl_tree.specs.Decisions.Tables.{has_cut, row_is_cut, cell_is_cut}
use Rattle.redl_tree.specs.Leaves.Settings.{IsUnheld}
use Rattle.redl_tree.specs.Leaves.Living.{members_of, own_members, some_cuts, cut_at}
use Rattle.redl_tree.specs.declared.kinds.Say.{Say}
use Rattle.redl_tree.specs.Decisions.Packages.{is_root, stories_in, stories, element_stories, left_after, changed_in}
use Rattle.redl_tree.specs.Revisions.Moves.{Pair}
use Rattle.redl_tree.specs.Revisions.Markers.{Value, moves_among, move_of, whole_role}
use Rattle.redl_tree.specs.Revisions.Numbers.{Numbering, counted, revision_of, membership, number_for, numbering_after, labelled_tag, labelled, labelled_story, start_with, number_rule, IsIndexed}
use Rattle.redl_tree.specs.Leaves.Containers.{opens, opens_outer}
use Rattle.redl_tree.specs.Leaves.Slots.{Slots, no_slots, leaf_slot, container_slot, slots_in}
use Rattle.redl_tree.specs.declared.kinds.Kind.{Kind}
use Rattle.redl_tree.specs.declared.kinds.Kind.TheVariants.{Plain}
use Rattle.redl_tree.proofs.Roles.NameLaws.{is_frame, frame-quiet}
use Rattle.redl_tree.proofs.Roles.Fits.{AllFit, open_∷}
use Rattle.redl_laws.proofs.Survival.Indexed.{AreStories, indexed_stories}
use Rattle.redl_laws.proofs.Leaves.Rebuilt.{frame-plain}
use Rattle.redl_laws.proofs.Leaves.Openings.{opens-named, outer-frame}
use Rattle.redl_laws.proofs.Leaves.Containers.{AllContainers, Carries, all-containers}

-- each element without a role has the number 0
abbrev pub AreUnnumbered : Nodes → Type 0
AreUnnumbered no_nodes = Unit {0}
AreUnnumbered (bytes b rest) = AreUnnumbered rest
AreUnnumbered (element tag kids rest) = (tag.kind ≡ Plain → tag.rev ≡ 0) × AreUnnumbered kids × AreUnnumbered rest

plain-number : (kind : Kind) (move : Option Pair) (so_far : Numbering) → kind ≡ Plain → number_for (membership kind move) so_far ≡ 0
plain-number kind move so_far e = ap (λ k. number_for (membership k move) so_far) e

-- where nodes are labelled already
pub labelled-numbers : (value : Value) (moves : List Pair) (ancestors : List Spot) (at : ℕ) (so_far : Numbering) (nodes : Nodes) →
    labelled value moves ancestors at so_far nodes ≡ nodes → AreUnnumbered nodes
labelled-numbers value moves ancestors at so_far no_nodes e = tt
labelled-numbers value moves ancestors at so_far (bytes b rest) e = labelled-numbers value moves ancestors at so_far rest cc
labelled-numbers value moves ancestors at so_far (element tag kids rest) e =
    let seen = seen_one ancestors at tag kids in
    let same : labelled_tag value moves so_far seen ≡ tag = cc in (
      λ plain.
          sym (ap (λ t. t.rev) same)
          ∙ plain-number (whole_role value moves seen) (move_of value moves seen) so_far (ap (λ t. t.kind) same ∙ plain),
      labelled-numbers value moves (spot at tag kids ∷ ancestors) (at + 1) (counted (revision_of value moves seen) so_far) kids cc,
      labelled-numbers value moves ancestors (at + 2 + tags kids)
          (numbering_after value moves (spot at tag kids ∷ ancestors) (at + 1) (counted (revision_of value moves seen) so_far) kids) rest cc,
    )

-- in each of these stories
abbrev AreUnnumberedStories : List Element → Type 0
AreUnnumberedStories [] = Unit {0}
AreUnnumberedStories (story ∷ later) = AreUnnumbered story.kids × AreUnnumberedStories later

unnumbered-++ : (xs ys : List Element) → AreUnnumberedStories xs → AreUnnumberedStories ys → AreUnnumberedStories (xs ++ ys)
unnumbered-++ [] ys h k = k
unnumbered-++ (x ∷ xs) ys h k = (h.0, unnumbered-++ xs ys h.1 k)

stories_unnumbered : (value : Value) (ancestors : List Tag) (next : ℕ) (nodes : Nodes) → changed_in (number_rule value) next ancestors nodes ≡ nodes → AreUnnumberedStories (stories_in ancestors nodes)
stories_unnumbered value ancestors next no_nodes e = tt
stories_unnumbered value ancestors next (bytes b rest) e = stories_unnumbered value ancestors next rest cc
stories_unnumbered value ancestors next (element tag kids rest) e =
    unnumbered-++ (element_stories ancestors tag kids) (stories_in ancestors rest)
    (here (is_root ancestors tag) (cc) (stories_unnumbered value (tag ∷ ancestors) next kids))
    (stories_unnumbered value ancestors (left_after (number_rule value) next (element_stories ancestors tag kids)) rest cc)
  where
    here : (b : Bool) → (if b then labelled_story value next tag kids else changed_in (number_rule value) next (tag ∷ ancestors) kids) ≡ kids →
        (changed_in (number_rule value) next (tag ∷ ancestors) kids ≡ kids → AreUnnumberedStories (stories_in (tag ∷ ancestors) kids)) →
        AreUnnumberedStories (if b then record { tag = tag; kids = kids } ∷ [] else stories_in (tag ∷ ancestors) kids)
    here true e ih = (labelled-numbers value (moves_among value (seen tag kids)) (root_spots tag kids) 1 (start_with next) kids e, tt)
    here false e ih = ih e

-- ---- containers

abbrev IsUnset : (ℕ → Bool) → List Tag → Tag → Nodes → Slots → Type 0
IsUnset is_set ancestors tag kids inner = is_set tag.rev ≡ false

unset-unheld : (is_set : ℕ → Bool) (ancestors : List Tag) (slots : Slots) → AllContainers (IsUnset is_set) ancestors slots → IsUnheld is_set slots
unset-unheld is_set ancestors no_slots h = tt
unset-unheld is_set ancestors (leaf_slot leaf rest) h = unset-unheld is_set ancestors rest h
unset-unheld is_set ancestors (container_slot tag kids inner rest) h =
    (h.0, unset-unheld is_set (tag ∷ ancestors) inner h.1, unset-unheld is_set ancestors rest h.2)

record Members (ancestors : List Tag) (nodes : Nodes) : Type 0 where
  loud : is_open ancestors ≡ true
  fits : AllFit ancestors nodes
  numbers : AreUnnumbered nodes

-- in each of these stories no container is a member of a revision that is set
abbrev pub AreUnheld : (List Tag → Tag → Bool) → (ℕ → Bool) → List Element → Type 0
AreUnheld opens is_set [] = Unit {0}
AreUnheld opens is_set (story ∷ later) = IsUnheld is_set (slots_in opens (story.tag ∷ []) story.kids) × AreUnheld opens is_set later

module _ (opens : List Tag → Tag → Bool) (named : (ancestors : List Tag) (tag : Tag) → opens ancestors tag ≡ true → is_frame tag ≡ true)
    (is_set : ℕ → Bool) (none : is_set 0 ≡ false) where
  members-carry : Carries opens Members (IsUnset is_set)
  members-carry = record {
    after_bytes = λ ancestors b rest known. record { loud = known.loud; fits = known.fits; numbers = known.numbers };
    after_element = λ ancestors tag kids rest known. record { loud = known.loud; fits = known.fits.2; numbers = known.numbers.2 };
    below = λ ancestors tag kids rest known o. record {
      loud = open_∷ tag ancestors (frame-quiet tag (named ancestors tag o)) ∙ known.loud;
      fits = known.fits.1;
      numbers = known.numbers.1;
    };
    here = λ ancestors tag kids rest known o.
        ap is_set (known.numbers.0 (frame-plain ancestors tag known.loud known.fits.0 (named ancestors tag o))) ∙ none;
  }

  slots-unheld : (ancestors : List Tag) (nodes : Nodes) → is_open ancestors ≡ true → AllFit ancestors nodes → AreUnnumbered nodes
      → IsUnheld is_set (slots_in opens ancestors nodes)
  slots-unheld ancestors nodes loud fits numbers =
      unset-unheld is_set ancestors (slots_in opens ancestors nodes)
      (all-containers (IsUnset is_set) opens Members members-carry ancestors nodes (record { loud = loud; fits = fits; numbers = numbers }))

  stories-unheld : (xs : List Element) → AreStories xs → AreUnnumberedStories xs → AreUnheld opens is_set xs
  stories-unheld [] h k = tt
  stories-unheld (story ∷ later) h k = (
    slots-unheld (story.tag ∷ []) story.kids (open_∷ story.tag [] h.0.loud) h.0.fits k.0,
    stories-unheld later h.1 k.1,
  )

-- The law of members: in an indexed package no container is a member of a revision. Numbers begin with 1.
pub package-unheld : (value : Value) (nodes : Nodes) → IsIndexed value nodes → (is_set : ℕ → Bool) → is_set 0 ≡ false
    → AreUnheld opens is_set (stories nodes)
package-unheld value nodes indexed is_set none =
    stories-unheld opens (λ ancestors tag o. opens-named ancestors tag o) is_set none (stories nodes) (indexed_stories value nodes indexed) (stories_unnumbered value [] 1 nodes indexed)

-- the same where the outer containers alone are opened
pub package-unheld_outer : (value : Value) (nodes : Nodes) → IsIndexed value nodes → (is_set : ℕ → Bool) → is_set 0 ≡ false
    → AreUnheld opens_outer is_set (stories nodes)
package-unheld_outer value nodes indexed is_set none =
    stories-unheld opens_outer (λ ancestors tag o. outer-frame ancestors tag o) is_set none (stories nodes) (indexed_stories value nodes indexed) (stories_unnumbered value [] 1 nodes indexed)

-- ---- the members of a row or a cell

pub cut-members : (test : Kind → Bool) (says : List Say) (nodes : Nodes) → has_cut test says nodes ≡ some_cuts says (members_of test nodes)
cut-members test says no_nodes = refl
cut-members test says (bytes b rest) = cut-members test says rest
cut-members test says (element tag kids rest) = at (test tag.kind) (cut-members test says rest)
  where
    at : (b : Bool) → has_cut test says rest ≡ some_cuts says (members_of test rest)
        → (b && is_cut (fate_of says tag) || has_cut test says rest)
        ≡ some_cuts says (if b then record { kind = tag.kind; rev = tag.rev } ∷ members_of test rest else members_of test rest)
    at true more = ap (λ c. is_cut (fate_of says tag) || c) more
    at false more = more

-- a cell or a row is cut where one of its members cuts it, so code may keep the members in place of the properties
pub cut_at-members : (says : List Say) (tag : Tag) (kids : Nodes) → cut_at says tag kids ≡ some_cuts says (own_members tag kids)
cut_at-members says tag kids =
    at (is "tc" tag) (is "tr" tag) (cut-members is_cell says (kids_of_all "tcPr" kids)) (cut-members is_row says (kids_of_all "trPr" kids))
  where
    at : (c r : Bool) → cell_is_cut says kids ≡ some_cuts says (members_of is_cell (kids_of_all "tcPr" kids))
        → row_is_cut says kids ≡ some_cuts says (members_of is_row (kids_of_all "trPr" kids))
        → (if c then cell_is_cut says kids else if r then row_is_cut says kids else false)
        ≡ some_cuts says (if c then members_of is_cell (kids_of_all "tcPr" kids) else if r then members_of is_row (kids_of_all "trPr" kids) else [])
    at true r cell row = cell
    at false true cell row = row
    at false false cell row = refl
