-- A walk over the parts of a package by number: what one part adds, and what bounds the walk.
use Rattle.std.proofs.Common.{◌≡◌, ◌<◌, ◌≤◌, ◌+◌, ℕ, zero, suc, List, [], ◌∷◌, ◌++◌, filter_map, drop, length, slice_get, Option, Some, None, option_and_then, option_to_list, Bool, true, false, if◌then◌else◌, codes, refl, sym, ap, ◌∙◌, arith, subst}
use Rattle.std.specs.List.{cons_option}
use Rattle.redl_tree.specs.Model.Nodes.{Nodes, no_nodes, bytes, element}
use Rattle.redl_tree.specs.Model.Count.{count}
use Rattle.redl_tree.specs.Decisions.Packages.{named_pkg, is_story_root, stories}
use Rattle.redl_opc.specs.Elements.{Element, elements_of, only_element}
use Rattle.redl_opc.specs.Parts.{story}
use Rattle.redl_opc.specs.Shape.{root_in, story_root, story_of, package_of, elements_in, parts_of, refusal}
use Rattle.redl_opc.specs.Stories.{stories_of_part, stories_from}
use Rattle.redl_tree.specs.Model.Tree.{HasUtf8Tails}
use Rattle.redl_opc.proofs.PartLaws.{count-first, tails-first, only_is, root_is}
use Rattle.redl_opc.proofs.StoryLaws.{stories-parts}

-- ---- the part with a number

-- a part with its number: it stands in front of the parts behind it, and its story is the one with the number
pub record IsPartAt (nodes : Nodes) (number : ℕ) (part : Element) : Type 0 where
  pub at : slice_get (parts_of nodes) number ≡ Some part
  pub front : drop number (parts_of nodes) ≡ part ∷ drop (number + 1) (parts_of nodes)
  pub root : story nodes number ≡ story_of part

get-there : (xs : List Element) (k : ℕ) → k < length xs → (x : Element) × (slice_get xs k ≡ Some x) × (drop k xs ≡ x ∷ drop (suc k) xs)
get-there [] k within = absurd (omega (arith, within))
get-there (x ∷ xs) zero within = (x, refl, refl)
get-there (x ∷ xs) (suc k) within = get-there xs k (omega (arith, within))

-- each number below the count of parts is that of a part
pub part-at : (nodes : Nodes) (number : ℕ) → number < length (parts_of nodes) → (part : Element) × IsPartAt nodes number part
part-at nodes number within =
    let there = get-there (parts_of nodes) number within in
    let next : suc number ≡ number + 1 = omega arith in (
      there.0,
      record {
        at = there.1;
        front = there.2 ∙ ap (λ k. there.0 ∷ drop k (parts_of nodes)) next;
        root = ap (option_and_then story_of) there.1;
      },
    )

-- ---- the stories

-- the story of a part comes before those of the parts behind it
pub stories_from-part : (nodes : Nodes) (number : ℕ) → number < length (parts_of nodes)
    → stories_from number nodes ≡ stories_of_part nodes number ++ stories_from (number + 1) nodes
stories_from-part nodes number within =
    let found = part-at nodes number within in
    let later = drop (number + 1) (parts_of nodes) in
    ap (filter_map story_of) found.1.front
    ∙ onto later (story_of found.0)
    ∙ ap (λ o. option_to_list o ++ stories_from (number + 1) nodes) (sym found.1.root)
  where
    onto : (later : List Element) (o : Option Element)
        → cons_option o (filter_map story_of later) ≡ option_to_list o ++ filter_map story_of later
    onto later None = refl
    onto later (Some root) = refl

drop-past : (xs : List Element) (k : ℕ) → length xs ≤ k → drop k xs ≡ []
drop-past [] zero past = refl
drop-past [] (suc k) past = refl
drop-past (x ∷ xs) zero past = absurd (omega (arith, past))
drop-past (x ∷ xs) (suc k) past = drop-past xs k (omega (arith, past))

-- there are no parts past the last one
pub parts-end : (nodes : Nodes) (number : ℕ) → length (parts_of nodes) ≤ number → drop number (parts_of nodes) ≡ []
parts-end nodes number past = drop-past (parts_of nodes) number past

-- no stories come behind the last part
pub stories_from-end : (nodes : Nodes) (number : ℕ) → length (parts_of nodes) ≤ number → stories_from number nodes ≡ []
stories_from-end nodes number past = ap (filter_map story_of) (parts-end nodes number past)

-- the stories from the first part on are all of them
pub stories_from-start : (nodes : Nodes) → refusal nodes ≡ None → stories_from 0 nodes ≡ stories nodes
stories_from-start nodes shape = stories-parts nodes shape

-- ---- the root of a story

chosen : (b : Bool) (e root : Element) → (if b then Some e else None) ≡ Some root → (b ≡ true) × (e ≡ root)
chosen true e root is = (refl, cc)
chosen false e root is = absurd (cc)

root-name : (o : Option Element) (root : Element) → story_root o ≡ Some root → (o ≡ Some root) × (is_story_root root.tag ≡ true)
root-name None root is = absurd (cc)
root-name (Some e) root is =
    let both = chosen (is_story_root e.tag) e root is in
    (ap Some both.1, ap (λ (r : Element). is_story_root r.tag) (sym both.1) ∙ both.0)

chosen-in : (b : Bool) (o : Option Element) (root : Element) → (if b then o else None) ≡ Some root → o ≡ Some root
chosen-in true o root is = is
chosen-in false o root is = absurd (cc)

root-held : (o : Option Element) (root : Element) → root_in o ≡ Some root → (held : Element) × (o ≡ Some held) × (only_element held.kids ≡ Some root)
root-held None root is = absurd (cc)
root-held (Some held) root is = (held, refl, chosen-in (named_pkg (codes "xmlData") held.tag) (only_element held.kids) root is)

-- the root of a part's story stands in the part's data, and has the name of a root
pub record IsRootIn (part root : Element) : Type 0 where
  pub named : is_story_root root.tag ≡ true
  pub fits : count root.kids ≤ count part.kids
  pub tails : HasUtf8Tails part.kids → HasUtf8Tails root.kids

pub root-in : (part root : Element) → story_of part ≡ Some root → IsRootIn part root
root-in part root is =
    let name = root-name (root_in (only_element part.kids)) root is in
    let held = root-held (only_element part.kids) root name.0 in
    let outer = only_is (elements_of part.kids) held.0 held.1 in
    let inner = only_is (elements_of held.0.kids) root held.2 in
    record {
      named = name.1;
      fits = omega (arith, count-first part.kids held.0 [] outer, count-first held.0.kids root [] inner);
      tails = λ tails. tails-first held.0.kids root [] inner (tails-first part.kids held.0 [] outer tails);
    }

-- ---- how many nodes there are

-- the nodes in these parts
abbrev pub parts_count : List Element → ℕ
parts_count [] = 0
parts_count (part ∷ parts) = count part.kids + parts_count parts

-- the nodes in the parts from this number on
abbrev pub count_from : ℕ → Nodes → ℕ
count_from number nodes = parts_count (drop number (parts_of nodes))

count-parts : (nodes : Nodes) → parts_count (elements_of nodes) ≤ count nodes
count-parts no_nodes = omega arith
count-parts (bytes b rest) = omega (arith, count-parts rest)
count-parts (element tag kids rest) = omega (arith, count-parts rest)

-- they are at most those of the package
pub count_from-start : (nodes : Nodes) → count_from 0 nodes ≤ count nodes
count_from-start nodes = by (package_of nodes) refl
  where
    by : (o : Option Element) → package_of nodes ≡ o → parts_count (elements_in o) ≤ count nodes
    by None is = omega arith
    by (Some root) is = omega (arith, count-parts root.kids, count-first nodes root [] (root_is nodes root is))

-- a part's nodes, and so those of its story, come off
pub count_from-part : (nodes : Nodes) (number : ℕ) → number < length (parts_of nodes) → count_from (number + 1) nodes ≤ count_from number nodes
count_from-part nodes number within =
    let found = part-at nodes number within in
    omega (arith, ap parts_count found.1.front)

-- a story has no more nodes than are counted off with its part
pub count_from-story : (nodes : Nodes) (number : ℕ) (root : Element) → number < length (parts_of nodes) → story nodes number ≡ Some root
    → count root.kids + count_from (number + 1) nodes ≤ count_from number nodes
count_from-story nodes number root within is =
    let found = part-at nodes number within in
    let inside = root-in found.0 root (sym found.1.root ∙ is) in
    omega (arith, ap parts_count found.1.front, inside.fits)

-- ---- UTF-8

tails-get : (nodes : Nodes) (k : ℕ) (e : Element) → slice_get (elements_of nodes) k ≡ Some e → HasUtf8Tails nodes → HasUtf8Tails e.kids
tails-get no_nodes k e at tails = absurd (cc)
tails-get (bytes b rest) k e at tails = tails-get rest k e at tails
tails-get (element tag kids rest) zero e at tails =
    let same : record { tag = tag; kids = kids } ≡ e = cc in
    let P : Element → Type 0 = λ x. HasUtf8Tails x.kids in
    subst P same tails.1
tails-get (element tag kids rest) (suc k) e at tails = tails-get rest k e at tails.2

pub tails-story : (nodes : Nodes) (number : ℕ) (root : Element) → story nodes number ≡ Some root → HasUtf8Tails nodes → HasUtf8Tails root.kids
tails-story nodes number root is tails = by (package_of nodes) refl is
  where
    in_part : (o : Option Element) → option_and_then story_of o ≡ Some root → (part : Element) × (o ≡ Some part) × (story_of part ≡ Some root)
    in_part None h = absurd (cc)
    in_part (Some part) h = (part, refl, h)

    by : (o : Option Element) → package_of nodes ≡ o → option_and_then story_of (slice_get (elements_in o) number) ≡ Some root → HasUtf8Tails root.kids
    by None at h = absurd (cc)
    by (Some top) at h =
        let part = in_part (slice_get (elements_of top.kids) number) h in
        (root-in part.0 root part.2).tails (tails-get top.kids number part.0 part.1 (tails-first nodes top [] (root_is nodes top at) tails))

-- the root of a story has the name of one
pub name-story : (nodes : Nodes) (number : ℕ) (root : Element) → story nodes number ≡ Some root → is_story_root root.tag ≡ true
name-story nodes number root is = in_part (slice_get (parts_of nodes) number) is
  where
    in_part : (o : Option Element) → option_and_then story_of o ≡ Some root → is_story_root root.tag ≡ true
    in_part None h = absurd (cc)
    in_part (Some part) h = (root-in part root h).named
