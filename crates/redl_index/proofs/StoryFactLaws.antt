-- What is known of the stories of a package, a part at a time, and of the next story in the list.
use Rattle.std.proofs.Common.{◌≡◌, ◌∙◌, ◌<◌, ◌≤◌, ◌+◌, ◌++◌, ◌∷◌, [], ℕ, zero, suc, List, length, map, drop, slice_get, ap, sym, Some, None, option_to_list, append_assoc, arith}
use Rattle.std.proofs.lemmas.List.{map-append, append-nil}
use Rattle.redl_tree.specs.Decisions.Packages.{stories}
use Rattle.redl_tree.specs.Model.Nodes.{Nodes}
use Rattle.redl_opc.specs.Elements.{Element}
use Rattle.redl_opc.specs.Parts.{story}
use Rattle.redl_opc.specs.Shape.{parts_of, refusal}
use Rattle.redl_opc.specs.Stories.{stories_from}
use Rattle.redl_opc.proofs.WalkLaws.{stories_from-start, stories_from-part, stories_from-end}
use Rattle.redl_index.specs.declared.story_facts.StoryFacts.{StoryFacts}
use Rattle.redl_index.specs.StoryFacts.{Facts, facts_of, facts_in}

-- ---- a part at a time

-- this is known of the stories of the parts below this one
abbrev pub IsKnownBelow : ℕ → Nodes → List StoryFacts → Type 0
IsKnownBelow part pkg known = map facts_of known ++ map facts_in (stories_from part pkg) ≡ map facts_in (stories pkg)

-- before the first part
pub known-first : (pkg : Nodes) (known : List StoryFacts) → refusal pkg ≡ None → known ≡ [] → IsKnownBelow 0 pkg known
known-first pkg known shape is =
    ap (λ (ks : List StoryFacts). map facts_of ks ++ map facts_in (stories_from 0 pkg)) is ∙ ap (map facts_in) (stories_from-start pkg shape)

-- behind the last one
pub known-last : (pkg : Nodes) (part : ℕ) (known : List StoryFacts) → length (parts_of pkg) ≤ part → IsKnownBelow part pkg known → map facts_of known ≡ map facts_in (stories pkg)
known-last pkg part known past is =
    sym (append-nil (map facts_of known)) ∙ ap (λ ss. map facts_of known ++ map facts_in ss) (sym (stories_from-end pkg part past)) ∙ is

module _ (pkg : Nodes) (part : ℕ) (known : List StoryFacts) (within : part < length (parts_of pkg)) (is : IsKnownBelow part pkg known) where
  -- behind a part with this story
  pub known-story : (now : List StoryFacts) (one : StoryFacts) (root : Element) → story pkg part ≡ Some root → now ≡ known ++ one ∷ [] → facts_of one ≡ facts_in root →
      IsKnownBelow (part + 1) pkg now
  known-story now one root found added told =
      let later = stories_from (part + 1) pkg in
      let here : stories_from part pkg ≡ root ∷ later =
      stories_from-part pkg part within ∙ ap (λ o. option_to_list o ++ later) found in
      ap (λ (ks : List StoryFacts). map facts_of ks ++ map facts_in later) added
      ∙ ap (λ (ks : List Facts). ks ++ map facts_in later) (map-append facts_of known (one ∷ []) ∙ ap (λ (k : Facts). map facts_of known ++ k ∷ []) told)
      ∙ append_assoc (map facts_of known) (facts_in root ∷ []) (map facts_in later)
      ∙ ap (λ ss. map facts_of known ++ map facts_in ss) (sym here)
      ∙ is

  -- behind one that is no story
  pub known-other : story pkg part ≡ None → IsKnownBelow (part + 1) pkg known
  known-other found =
      let here : stories_from part pkg ≡ stories_from (part + 1) pkg =
      stories_from-part pkg part within ∙ ap (λ o. option_to_list o ++ stories_from (part + 1) pkg) found in
      ap (λ ss. map facts_of known ++ map facts_in ss) (sym here) ∙ is

-- ---- the next story, at a place in the list

-- this is known at a place, and that of the later ones
pub record IsKnownAt (known : List StoryFacts) (place : ℕ) (now : Facts) (more : List Facts) : Type 0 where
  pub within : place < length known
  pub here : (k : StoryFacts) → slice_get known place ≡ Some k → facts_of k ≡ now
  pub later : map facts_of (drop (place + 1) known) ≡ more

pub known-at : (known : List StoryFacts) (place : ℕ) (now : Facts) (more : List Facts) → map facts_of (drop place known) ≡ now ∷ more → IsKnownAt known place now more
known-at [] zero now more is = absurd (cc)
known-at [] (suc place) now more is = absurd (cc)
known-at (k ∷ known) zero now more is =
    let same : facts_of k ≡ now = cc in
    record { within = omega arith; here = λ other there. let it : k ≡ other = cc in ap facts_of (sym it) ∙ same; later = cc }
known-at (k ∷ known) (suc place) now more is =
    let rest = known-at known place now more is in
    let next : suc place + 1 ≡ suc (place + 1) = omega arith in
    record { within = omega (arith, rest.within); here = rest.here; later = ap (λ n. map facts_of (drop n (k ∷ known))) next ∙ rest.later }
