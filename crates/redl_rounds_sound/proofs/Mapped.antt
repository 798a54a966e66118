-- The entries of a second sitting, mapped back to the first package: each is on one of its revisions.
use Rattle.std.proofs.Common.{◌≡◌, ℕ, zero, suc, ◌<◌, ◌≤◌, List, [], ◌∷◌, ◌++◌, map, Bool, true, false, Option, None, Some, slice_get, refl, arith, option_map, filter_map, ◌==◌, codes, if◌then◌else◌}
use Rattle.std.specs.List.{AllByRecursion, cons_option, range_with_len}
use Rattle.redl_journal.specs.declared.entry.Entry.{Entry}
use Rattle.redl_journal_sound.specs.Writable.{IsWritableEntry}
use Rattle.redl_opc.specs.Elements.{elements_of, only, only_element}
use Rattle.redl_opc.specs.Shape.{elements_in, package_in, parts_of, root_in, story_of, story_root}
use Rattle.redl_rounds_sound.proofs.Bounds.{AreBelow}
use Rattle.redl_sittings.specs.JoinedBooks.{first_number, mapped_back, numbered_at}
use Rattle.redl_sittings.specs.SecondNumbers.{beside, first_beside, first_numbers, numbers_along, numbers_below, part_numbers, parts_beside}
use Rattle.redl_tree.specs.Decisions.Packages.{is_story_root, named_pkg}
use Rattle.redl_tree.specs.Model.Nodes.{Nodes, no_nodes, bytes, element}
use Rattle.redl_tree.specs.Model.View.{Element}

-- ---- numbers along a package

-- each of these numbers is below this one
abbrev pub EachBelow : ℕ → List ℕ → Type 0
EachBelow n numbers = AllByRecursion (λ k. k < n) numbers

each-append : {X : Type 0} (P : X → Type 0) (xs ys : List X) → AllByRecursion P xs → AllByRecursion P ys → AllByRecursion P (xs ++ ys)
each-append P [] ys h g = g
each-append P (x ∷ xs) ys h g = (h.0, each-append P xs ys h.1 g)

along-below : (n : ℕ) (nodes : Nodes) → AreBelow n nodes → EachBelow n (numbers_along nodes)
along-below n no_nodes h = tt
along-below n (bytes b rest) h = along-below n rest h
along-below n (element tag kids rest) h =
    (h.0, each-append (λ k. k < n) (numbers_along kids) (numbers_along rest) (along-below n kids h.1) (along-below n rest h.2))

-- what an element holds has such numbers
abbrev HoldsBelow : ℕ → Element → Type 0
HoldsBelow n e = AreBelow n e.kids

abbrev IfThere : ℕ → Option Element → Type 0
IfThere n None = Unit {0}
IfThere n (Some e) = HoldsBelow n e

elements-below : (n : ℕ) (nodes : Nodes) → AreBelow n nodes → AllByRecursion (HoldsBelow n) (elements_of nodes)
elements-below n no_nodes h = tt
elements-below n (bytes b rest) h = elements-below n rest h
elements-below n (element tag kids rest) h = (h.1, elements-below n rest h.2)

only-below : (n : ℕ) (es : List Element) → AllByRecursion (HoldsBelow n) es → IfThere n (only es)
only-below n [] h = tt
only-below n (e ∷ []) h = h.0
only-below n (e ∷ f ∷ more) h = tt

one-below : (n : ℕ) (nodes : Nodes) → AreBelow n nodes → IfThere n (only_element nodes)
one-below n nodes h = only-below n (elements_of nodes) (elements-below n nodes h)

if-below : (n : ℕ) (b : Bool) (o : Option Element) → IfThere n o → IfThere n (if b then o else None)
if-below n true o h = h
if-below n false o h = tt

parts-below : (n : ℕ) (nodes : Nodes) → AreBelow n nodes → AllByRecursion (HoldsBelow n) (parts_of nodes)
parts-below n nodes h = at (only_element nodes) (one-below n nodes h)
  where
    in_root : (o : Option Element) → IfThere n o → AllByRecursion (HoldsBelow n) (elements_in o)
    in_root None g = tt
    in_root (Some root) g = elements-below n root.kids g

    at : (o : Option Element) → IfThere n o → AllByRecursion (HoldsBelow n) (elements_in (package_in o))
    at None g = tt
    at (Some root) g = in_root (if named_pkg (codes "package") root.tag then Some root else None) (if-below n (named_pkg (codes "package") root.tag) (Some root) g)

story-below : (n : ℕ) (part : Element) → HoldsBelow n part → IfThere n (story_of part)
story-below n part h = at (only_element part.kids) (one-below n part.kids h)
  where
    in_data : (o : Option Element) → IfThere n o → IfThere n (story_root o)
    in_data None g = tt
    in_data (Some root) g = if-below n (is_story_root root.tag) (Some root) g

    at : (o : Option Element) → IfThere n o → IfThere n (story_root (root_in o))
    at None g = tt
    at (Some e) g = in_data (if named_pkg (codes "xmlData") e.tag then only_element e.kids else None) (if-below n (named_pkg (codes "xmlData") e.tag) (only_element e.kids) (one-below n e.kids g))

below-there : (n : ℕ) (o : Option Element) → IfThere n o → EachBelow n (numbers_below o)
below-there n None h = tt
below-there n (Some root) h = along-below n root.kids h

listed-below : (n : ℕ) (parts : List Element) → AllByRecursion (HoldsBelow n) parts → AllByRecursion (EachBelow n) (map (λ part. numbers_below (story_of part)) parts)
listed-below n [] h = tt
listed-below n (part ∷ parts) h = (below-there n (story_of part) (story-below n part h.0), listed-below n parts h.1)

-- ---- numbers side by side

-- the second of each pair is below this number
abbrev PairsBelow : ℕ → List (ℕ × ℕ) → Type 0
PairsBelow n pairs = AllByRecursion (λ pair. pair.1 < n) pairs

beside-below : (n : ℕ) (seconds firsts : List ℕ) → 0 < n → EachBelow n firsts → PairsBelow n (beside seconds firsts)
beside-below n [] firsts some h = tt
beside-below n (second ∷ seconds) [] some h = (some, beside-below n seconds [] some tt)
beside-below n (second ∷ seconds) (first ∷ firsts) some h = (h.0, beside-below n seconds firsts some h.1)

parts_beside-below : (n : ℕ) (seconds firsts : List (List ℕ)) → 0 < n → AllByRecursion (EachBelow n) firsts → PairsBelow n (parts_beside seconds firsts)
parts_beside-below n [] firsts some h = tt
parts_beside-below n (second ∷ seconds) [] some h =
    each-append (λ (pair : ℕ × ℕ). pair.1 < n) (beside second []) (parts_beside seconds []) (beside-below n second [] some tt) (parts_beside-below n seconds [] some tt)
parts_beside-below n (second ∷ seconds) (first ∷ firsts) some h =
    each-append (λ (pair : ℕ × ℕ). pair.1 < n) (beside second first) (parts_beside seconds firsts) (beside-below n second first some h.0) (parts_beside-below n seconds firsts some h.1)

first-below : (n number : ℕ) (pairs : List (ℕ × ℕ)) → 0 < n → PairsBelow n pairs → first_beside number pairs < n
first-below n number [] some h = some
first-below n number (pair ∷ pairs) some h = at (pair.0 == number) (first-below n number pairs some h.1)
  where
    at : (b : Bool) → first_beside number pairs < n → (if b then pair.1 else first_beside number pairs) < n
    at true later = h.0
    at false later = later

back-below : (n : ℕ) (pairs : List (ℕ × ℕ)) (numbers : List ℕ) → 0 < n → PairsBelow n pairs → EachBelow n (map (λ number. first_beside number pairs) numbers)
back-below n pairs [] some h = tt
back-below n pairs (number ∷ numbers) some h = (first-below n number pairs some h, back-below n pairs numbers some h)

-- the first numbers of a second package are those of the first one
pub firsts-below : (n : ℕ) (passed second : Nodes) (count : ℕ) → 0 < n → AreBelow n passed → EachBelow n (first_numbers passed second count)
firsts-below n passed second count some h =
    back-below n (parts_beside (part_numbers second) (part_numbers passed)) (range_with_len 1 count) some
    (parts_beside-below n (part_numbers second) (part_numbers passed) some (listed-below n (parts_of passed) (parts-below n passed h)))

-- ---- entries

-- an entry that can be written, on a revision with a number below this one
pub record IsOn (n : ℕ) (entry : Entry) : Type 0 where
  pub writable : IsWritableEntry entry
  pub some : 0 < entry.rev
  pub below : entry.rev < n

got-below : (n : ℕ) (numbers : List ℕ) (place number : ℕ) → EachBelow n numbers → slice_get numbers place ≡ Some number → number < n
got-below n [] place number h e = absurd (cc e)
got-below n (first ∷ numbers) zero number h e = let same : first ≡ number = cc e in let here = h.0 in omega (arith, here, same)
got-below n (first ∷ numbers) (suc place) number h e = got-below n numbers place number h.1 e

numbered-at : (n : ℕ) (back : List ℕ) (place number : ℕ) → EachBelow n back → numbered_at back place ≡ Some number → number < n
numbered-at n back zero number h e = absurd (cc e)
numbered-at n back (suc place) number h e = got-below n back place number h e

-- the entries of a second sitting, mapped back
pub mapped-on : (n : ℕ) (back : List ℕ) (seconds : List Entry) → n ≤ 4294967296 → EachBelow n back → AllByRecursion IsWritableEntry seconds
    → AllByRecursion (IsOn n) (filter_map (mapped_back back) seconds)
mapped-on n back [] small h all = tt
mapped-on n back (entry ∷ seconds) small h all = at (numbered_at back entry.rev) refl (mapped-on n back seconds small h all.1)
  where
    at : (o : Option ℕ) → numbered_at back entry.rev ≡ o → AllByRecursion (IsOn n) (filter_map (mapped_back back) seconds)
        → AllByRecursion (IsOn n) (cons_option (option_map (λ number. record entry { rev = number }) (first_number o)) (filter_map (mapped_back back) seconds))
    at None is later = later
    at (Some zero) is later = later
    at (Some (suc number)) is later =
        let below = numbered-at n back entry.rev (suc number) h is in (
          record {
            writable = record {
              allowed = record { reviewer = all.0.allowed.reviewer; seq = all.0.allowed.seq; rank = all.0.allowed.rank };
              seq = all.0.seq;
              rev = omega (arith, below, small);
            };
            some = omega arith;
            below = below;
          },
          later,
        )
