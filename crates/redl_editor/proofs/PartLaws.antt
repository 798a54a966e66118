-- Stories are numbered in the order of the parts.
use Rattle.std.proofs.Common.{◌≡◌, ◌∙◌, ◌+◌, ◌<◌, ◌≤◌, ◌↔◌, ℕ, zero, suc, List, [], ◌∷◌, ◌++◌, filter_map, length, get_or, slice_get, take, nat_lt, Bool, true, false, true≢false, Option, Some, None, Result, Ok, Err, IfSome, is_some, unwrap_or, option_map, option_and_then, if◌then◌else◌, refl, sym, ap, subst, arith}
use Rattle.std.proofs.lemmas.Bool.{lt-ltb, le-ltb, ltb-true, ltb-false}
use Rattle.std.proofs.lemmas.List.Sorted.{searched}
use Rattle.std.proofs.lemmas.Option.{get_or_from_slice_get, slice_get-get_or, slice_get_within}
use Rattle.std.specs.List.{cons_option}
use Rattle.std.specs.List.Sorted.{IsBinarySearchResult}
use Rattle.std.specs.Ordering.{nat_cmp}
use Rattle.std.specs.Result.{result_ok}
use Rattle.redl_opc.proofs.StoryLaws.{stories-parts}
use Rattle.redl_opc.specs.Elements.{Element}
use Rattle.redl_opc.specs.Parts.{story}
use Rattle.redl_opc.specs.Shape.{parts_of, refusal, story_of}
use Rattle.redl_reading.specs.Steps.{Gives}
use Rattle.redl_tree.specs.Decisions.Packages.{stories}
use Rattle.redl_tree.specs.Model.Nodes.{Nodes}
use Rattle.redl_editor.specs.Documents.{Document, count_at, leaf_of, present_at}
use Rattle.redl_editor.specs.Kept.{count_of}
use Rattle.redl_editor.specs.Parts.{stories_before, story_number, numbers_from, story_parts}

-- the story of a part with this number
abbrev part_story : List Element → ℕ → Option Element
part_story parts part = option_and_then story_of (slice_get parts part)

-- what a call found says whether the part is a story
pub found-story : {X : Type 0} (view : X → Element) (found : Option X) (read : Option Element) (b : Bool) → Gives view found read → b ≡ is_some found → is_some read ≡ b
found-story view None read b gives is = ap is_some gives ∙ sym is
found-story view (Some x) read b gives is = ap is_some gives ∙ sym is

-- ---- the list of the parts that are stories

-- a number, where the part is a story
abbrev one_if : Bool → ℕ → List ℕ
one_if b number = if b then number ∷ [] else []

-- one part more
numbers-more : (number : ℕ) (parts : List Element) (part : ℕ)
    → numbers_from number (take (suc part) parts) ≡ numbers_from number (take part parts) ++ one_if (is_some (part_story parts part)) (number + part)
numbers-more number [] zero = refl
numbers-more number [] (suc part) = refl
numbers-more number (first ∷ later) zero = at (story_of first)
  where
    at : (o : Option Element) → (if is_some o then number ∷ [] else []) ≡ one_if (is_some o) (number + 0)
    at None = refl
    at (Some root) = let same : number ≡ number + 0 = omega arith in ap (λ n. n ∷ []) same
numbers-more number (first ∷ later) (suc part) =
    let same : suc number + part ≡ number + suc part = omega arith in
    at (numbers-more (suc number) later part ∙ ap (λ n. numbers_from (suc number) (take part later) ++ one_if (is_some (part_story later part)) n) same) (story_of first)
  where
    more : ℕ → List ℕ
    more = one_if (is_some (part_story later part))

    at : numbers_from (suc number) (take (suc part) later) ≡ numbers_from (suc number) (take part later) ++ more (number + suc part)
        → (o : Option Element) → (if is_some o then number ∷ numbers_from (suc number) (take (suc part) later) else numbers_from (suc number) (take (suc part) later))
        ≡ (if is_some o then number ∷ numbers_from (suc number) (take part later) else numbers_from (suc number) (take part later)) ++ more (number + suc part)
    at here None = here
    at here (Some root) = ap (λ xs. number ∷ xs) here

pub parts-more : (nodes : Nodes) (part next : ℕ) (b : Bool) → next ≡ part + 1 → is_some (story nodes part) ≡ b
    → numbers_from 0 (take next (parts_of nodes)) ≡ numbers_from 0 (take part (parts_of nodes)) ++ one_if b part
parts-more nodes part next b is found =
    let here : next ≡ suc part = omega (arith, is) in
    let same : 0 + part ≡ part = omega arith in
    ap (λ n. numbers_from 0 (take n (parts_of nodes))) here ∙ numbers-more 0 (parts_of nodes) part
    ∙ ap (λ n. numbers_from 0 (take part (parts_of nodes)) ++ one_if (is_some (story nodes part)) n) same
    ∙ ap (λ (is_story : Bool). numbers_from 0 (take part (parts_of nodes)) ++ one_if is_story part) found

-- there are as many as stories
numbers-length : (number : ℕ) (parts : List Element) → length (numbers_from number parts) ≡ length (filter_map story_of parts)
numbers-length number [] = refl
numbers-length number (first ∷ later) = at (story_of first) (numbers-length (suc number) later)
  where
    at : (o : Option Element) → length (numbers_from (suc number) later) ≡ length (filter_map story_of later)
        → length (if is_some o then number ∷ numbers_from (suc number) later else numbers_from (suc number) later) ≡ length (cons_option o (filter_map story_of later))
    at None same = same
    at (Some root) same = ap suc same

parts-length : (nodes : Nodes) → refusal nodes ≡ None → length (story_parts nodes) ≡ length (stories nodes)
parts-length nodes shape = numbers-length 0 (parts_of nodes) ∙ ap (λ (s : List Element). length s) (stories-parts nodes shape)

is_some-there : (xs : List ℕ) (place : ℕ) → is_some (slice_get xs place) ≡ nat_lt place (length xs)
is_some-there [] place = sym (le-ltb place 0 (omega arith))
is_some-there (x ∷ xs) zero = sym (lt-ltb 0 (length (x ∷ xs)) (omega arith))
is_some-there (x ∷ xs) (suc place) = is_some-there xs place ∙ at (nat_lt place (length xs)) refl
  where
    at : (b : Bool) → nat_lt place (length xs) ≡ b → nat_lt place (length xs) ≡ nat_lt (suc place) (length (x ∷ xs))
    at true is = is ∙ sym (lt-ltb (suc place) (length (x ∷ xs)) (omega (arith, ltb-true place (length xs) is)))
    at false is = is ∙ sym (le-ltb (suc place) (length (x ∷ xs)) (omega (arith, ltb-false place (length xs) is)))

pub part-there-if : (nodes : Nodes) (place : ℕ) → refusal nodes ≡ None → is_some (slice_get (story_parts nodes) place) ≡ nat_lt place (length (stories nodes))
part-there-if nodes place shape = is_some-there (story_parts nodes) place ∙ ap (nat_lt place) (parts-length nodes shape)

-- they rise
numbers-above : (number : ℕ) (parts : List Element) (j : ℕ) → j < length (numbers_from number parts) → number ≤ get_or (numbers_from number parts) j 0
numbers-above number [] j lt = absurd (omega (arith, lt))
numbers-above number (first ∷ later) j lt = at (λ k below. numbers-above (suc number) later k below) (story_of first) j lt
  where
    at : ((k : ℕ) → k < length (numbers_from (suc number) later) → suc number ≤ get_or (numbers_from (suc number) later) k 0)
        → (o : Option Element) (j : ℕ) → j < length (if is_some o then number ∷ numbers_from (suc number) later else numbers_from (suc number) later)
        → number ≤ get_or (if is_some o then number ∷ numbers_from (suc number) later else numbers_from (suc number) later) j 0
    at more None j lt = omega (arith, more j lt)
    at more (Some root) zero lt = omega arith
    at more (Some root) (suc j) lt = omega (arith, more j (omega (arith, lt)))

numbers-rise : (number : ℕ) (parts : List Element) (i j : ℕ) → i ≤ j → j < length (numbers_from number parts)
    → get_or (numbers_from number parts) i 0 ≤ get_or (numbers_from number parts) j 0
numbers-rise number [] i j le lt = absurd (omega (arith, lt))
numbers-rise number (first ∷ later) i j le lt = at (λ k l up below. numbers-rise (suc number) later k l up below) (story_of first) i j le lt
  where
    at : ((k l : ℕ) → k ≤ l → l < length (numbers_from (suc number) later) → get_or (numbers_from (suc number) later) k 0 ≤ get_or (numbers_from (suc number) later) l 0)
        → (o : Option Element) (i j : ℕ) → i ≤ j → j < length (if is_some o then number ∷ numbers_from (suc number) later else numbers_from (suc number) later)
        → get_or (if is_some o then number ∷ numbers_from (suc number) later else numbers_from (suc number) later) i 0
        ≤ get_or (if is_some o then number ∷ numbers_from (suc number) later else numbers_from (suc number) later) j 0
    at more None i j le lt = more i j le lt
    at more (Some root) zero zero le lt = omega arith
    at more (Some root) zero (suc j) le lt = omega (arith, numbers-above (suc number) later j (omega (arith, lt)))
    at more (Some root) (suc i) zero le lt = absurd (omega (arith, le))
    at more (Some root) (suc i) (suc j) le lt = more i j (omega (arith, le)) (omega (arith, lt))

-- ---- from a part to its place among the stories, and back

part-there : (number : ℕ) (parts : List Element) (part : ℕ) → is_some (part_story parts part) ≡ true
    → slice_get (numbers_from number parts) (stories_before parts part) ≡ Some (number + part)
part-there number [] part found = absurd (true≢false (sym found))
part-there number (first ∷ later) zero found = at (story_of first) found
  where
    at : (o : Option Element) → is_some o ≡ true → slice_get (if is_some o then number ∷ numbers_from (suc number) later else numbers_from (suc number) later) 0 ≡ Some (number + 0)
    at None is = absurd (true≢false (sym is))
    at (Some root) is = let same : number ≡ number + 0 = omega arith in ap (λ n. Some n) same
part-there number (first ∷ later) (suc part) found = at (story_of first) (part-there (suc number) later part found)
  where
    same : suc number + part ≡ number + suc part
    same = omega arith

    at : (o : Option Element) → slice_get (numbers_from (suc number) later) (stories_before later part) ≡ Some (suc number + part)
        → slice_get (if is_some o then number ∷ numbers_from (suc number) later else numbers_from (suc number) later)
        (length (cons_option o (filter_map story_of (take part later)))) ≡ Some (number + suc part)
    at None there = there ∙ ap (λ n. Some n) same
    at (Some root) there = there ∙ ap (λ n. Some n) same

-- the part whose number stands at a place: it is a story, and so many come before it
record PartAt (number : ℕ) (parts : List Element) (place found : ℕ) : Type 0 where
  part : ℕ
  is : found ≡ number + part
  is_story : is_some (part_story parts part) ≡ true
  before : stories_before parts part ≡ place

part-at : (number : ℕ) (parts : List Element) (place found : ℕ) → slice_get (numbers_from number parts) place ≡ Some found → PartAt number parts place found
part-at number [] place found is = absurd (cc)
part-at number (first ∷ later) place found is = at (λ k there. part-at (suc number) later k found there) (story_of first) refl place is
  where
    at : ((k : ℕ) → slice_get (numbers_from (suc number) later) k ≡ Some found → PartAt (suc number) later k found)
        → (o : Option Element) → story_of first ≡ o → (place : ℕ)
        → slice_get (if is_some o then number ∷ numbers_from (suc number) later else numbers_from (suc number) later) place ≡ Some found
        → PartAt number (first ∷ later) place found
    at more None none place is =
        let there = more place is in record {
          part = suc there.part;
          is = omega (arith, there.is);
          is_story = there.is_story;
          before = ap (λ o. length (cons_option o (filter_map story_of (take there.part later)))) none ∙ there.before;
        }
    at more (Some root) some zero is =
        let here : number ≡ found = ap (λ o. unwrap_or o 0) is in record {
          part = 0;
          is = omega (arith, here);
          is_story = ap is_some some;
          before = refl;
        }
    at more (Some root) some (suc place) is =
        let there = more place is in record {
          part = suc there.part;
          is = omega (arith, there.is);
          is_story = there.is_story;
          before = ap (λ o. length (cons_option o (filter_map story_of (take there.part later)))) some ∙ ap suc there.before;
        }

-- the number of a story that is there
number-known : (o : Option Element) (before place : ℕ) → is_some o ≡ true → before ≡ place → option_map (λ _. before) o ≡ Some place
number-known None before place is same = absurd (true≢false (sym is))
number-known (Some root) before place is same = ap (λ n. Some n) same

known-number : (o : Option Element) (before place : ℕ) → option_map (λ _. before) o ≡ Some place → (is_some o ≡ true) × (before ≡ place)
known-number None before place is = absurd (cc)
known-number (Some root) before place is = (refl, ap (λ o. unwrap_or o 0) is)

part-numbered : (nodes : Nodes) (part place : ℕ) → slice_get (story_parts nodes) place ≡ Some part → story_number nodes part ≡ Some place
part-numbered nodes part place is =
    let there = part-at 0 (parts_of nodes) place part is in
    let same : there.part ≡ part = omega (arith, there.is) in
    number-known (story nodes part) (stories_before (parts_of nodes) part) place
    (ap (λ n. is_some (story nodes n)) (sym same) ∙ there.is_story)
    (ap (stories_before (parts_of nodes)) (sym same) ∙ there.before)

listed-part : (nodes : Nodes) (part : ℕ) → is_some (story nodes part) ≡ true → slice_get (story_parts nodes) (stories_before (parts_of nodes) part) ≡ Some part
listed-part nodes part found =
    let same : 0 + part ≡ part = omega arith in
    part-there 0 (parts_of nodes) part found ∙ ap (λ n. Some n) same

numbered-part : (nodes : Nodes) (part place : ℕ) → story_number nodes part ≡ Some place → slice_get (story_parts nodes) place ≡ Some part
numbered-part nodes part place is =
    let known = known-number (story nodes part) (stories_before (parts_of nodes) part) place is in
    ap (slice_get (story_parts nodes)) (sym known.1) ∙ listed-part nodes part known.0

pub parts-tied : (nodes : Nodes) (place part : ℕ) → (slice_get (story_parts nodes) place ≡ Some part) ↔ (story_number nodes part ≡ Some place)
parts-tied nodes place part = (part-numbered nodes part place, numbered-part nodes part place)

-- a number that is above those before a gap and below those after it stands nowhere
missed-place : (xs : List ℕ) (x gap : ℕ) → ((k : ℕ) → k < gap → get_or xs k 0 < x) → ((k : ℕ) → gap ≤ k → k < length xs → x < get_or xs k 0)
    → (place : ℕ) → slice_get xs place ≡ Some x → ⊥
missed-place xs x gap below above place is =
    split (get_or_from_slice_get xs place x 0 is) (slice_get_within xs place x is) (nat_lt place gap) refl
  where
    split : get_or xs place 0 ≡ x → place < length xs → (b : Bool) → nat_lt place gap ≡ b → ⊥
    split here within true is = omega (arith, here, below place (ltb-true place gap is))
    split here within false is = omega (arith, here, above place (ltb-false place gap is) within)

-- what a search finds
pub part-searched : (nodes : Nodes) (parts : List ℕ) (part : ℕ) (r : Result ℕ ℕ) → parts ≡ story_parts nodes → IsBinarySearchResult (λ y. nat_cmp y part) parts r
    → result_ok r ≡ story_number nodes part
part-searched nodes parts part (Ok place) are answer =
    let all = subst (λ (xs : List ℕ). IsBinarySearchResult (λ y. nat_cmp y part) xs (Ok place)) are answer in
    let found = searched (story_parts nodes) part (Ok place) all (numbers-rise 0 (parts_of nodes)) in
    sym (part-numbered nodes part place (slice_get-get_or (story_parts nodes) place 0 found.0 ∙ ap (λ n. Some n) found.1))
part-searched nodes parts part (Err gap) are answer =
    let all = subst (λ (xs : List ℕ). IsBinarySearchResult (λ y. nat_cmp y part) xs (Err gap)) are answer in
    let missed = searched (story_parts nodes) part (Err gap) all (numbers-rise 0 (parts_of nodes)) in
    none (missed-place (story_parts nodes) part gap missed.1 missed.2) (story nodes part) refl
  where
    none : ((place : ℕ) → slice_get (story_parts nodes) place ≡ Some part → ⊥) → (o : Option Element) → story nodes part ≡ o
        → None ≡ option_map (λ _. stories_before (parts_of nodes) part) o
    none nowhere None is = refl
    none nowhere (Some root) is = absurd (nowhere (stories_before (parts_of nodes) part) (listed-part nodes part (ap is_some is)))

-- the story of a part is the one after those of the parts before it
at-number : (parts : List Element) (part : ℕ) (root : Element) → part_story parts part ≡ Some root
    → slice_get (filter_map story_of parts) (stories_before parts part) ≡ Some root
at-number [] part root found = absurd (cc)
at-number (first ∷ later) zero root found = at (story_of first) found
  where
    at : (o : Option Element) → o ≡ Some root → slice_get (cons_option o (filter_map story_of later)) 0 ≡ Some root
    at None is = absurd (cc)
    at (Some one) is = is
at-number (first ∷ later) (suc part) root found = at (story_of first) (at-number later part root found)
  where
    at : (o : Option Element) → slice_get (filter_map story_of later) (stories_before later part) ≡ Some root
        → slice_get (cons_option o (filter_map story_of later)) (length (cons_option o (filter_map story_of (take part later)))) ≡ Some root
    at None there = there
    at (Some one) there = there

story-numbered : (nodes : Nodes) (part place : ℕ) → refusal nodes ≡ None → story_number nodes part ≡ Some place → slice_get (stories nodes) place ≡ story nodes part
story-numbered nodes part place shape is = at (known-number (story nodes part) (stories_before (parts_of nodes) part) place is) (story nodes part) refl
  where
    at : (is_some (story nodes part) ≡ true) × (stories_before (parts_of nodes) part ≡ place) → (o : Option Element) → story nodes part ≡ o
        → slice_get (stories nodes) place ≡ story nodes part
    at known None none = absurd (true≢false (sym known.0 ∙ ap is_some none))
    at known (Some root) found =
        ap (slice_get (stories nodes)) (sym known.1)
        ∙ ap (λ (s : List Element). slice_get s (stories_before (parts_of nodes) part)) (sym (stories-parts nodes shape))
        ∙ at-number (parts_of nodes) part root found ∙ sym found

-- the leaves of a story are those of its part
pub part-counts : (document : Document) (part : ℕ) (found : Option ℕ) → refusal document.nodes ≡ None → found ≡ story_number document.nodes part
    → IfSome found (λ place. count_at document place ≡ count_of (story document.nodes part))
part-counts document part None shape is = tt
part-counts document part (Some place) shape is = ap count_of (story-numbered document.nodes part place shape (sym is))

pub part-leaves : (document : Document) (part : ℕ) (found : Option ℕ) → refusal document.nodes ≡ None → found ≡ story_number document.nodes part
    → IfSome found (λ place. (leaf : ℕ) → present_at document place leaf ≡ leaf_of document.says (story document.nodes part) leaf)
part-leaves document part None shape is = tt
part-leaves document part (Some place) shape is = λ leaf.
    ap (λ (found : Option Element). leaf_of document.says found leaf) (story-numbered document.nodes part place shape (sym is))
