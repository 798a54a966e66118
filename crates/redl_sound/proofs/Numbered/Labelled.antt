-- The elements of a story that is labelled already: each has the kind and the number that the walk over them gives it.
use Rattle.std.proofs.Common.{◌≡◌, ap, sym, subst, ℕ, ◌+◌, ◌≤◌, ◌<◌, List, [], ◌∷◌, ◌++◌, arith}
use Rattle.redl_tree.specs.Model.Nodes.{Nodes, no_nodes, bytes, element}
use Rattle.redl_tree.specs.Model.Seen.{Spot, spot, Seen, seen_one, seen_from, tags}
use Rattle.redl_tree.specs.Revisions.Markers.{whole_role}
use Rattle.redl_tree.specs.Revisions.Moves.{Pair}
use Rattle.redl_tree.specs.Revisions.Numbers.{Numbering, counted, number_for, revision_of, numbering_after, labelled}
use Rattle.redl_stamp.specs.Attribute.{attribute_value}
use Rattle.redl_index.proofs.LabelLaws.{counted_all, numbering-fold}

-- the element has its kind, and its number after so many
pub record HasLabel (moves : List Pair) (so_far : Numbering) (x : Seen) : Type 0 where
  pub kind : x.own.tag.kind ≡ whole_role attribute_value moves x
  pub number : x.own.tag.rev ≡ number_for (revision_of attribute_value moves x) so_far

-- the state after an element
abbrev pub after_one : List Pair → Numbering → Seen → Numbering
after_one moves so_far x = counted (revision_of attribute_value moves x) so_far

abbrev pub HaveLabels : List Pair → Numbering → List Seen → Type 0
HaveLabels moves so_far [] = Unit {0}
HaveLabels moves so_far (x ∷ xs) = HasLabel moves so_far x × HaveLabels moves (after_one moves so_far x) xs

module _ (moves : List Pair) where
  both-labelled : (s : Numbering) (xs ys : List Seen) → HaveLabels moves s xs → HaveLabels moves (counted_all moves s xs) ys → HaveLabels moves s (xs ++ ys)
  both-labelled s [] ys here later = later
  both-labelled s (x ∷ xs) ys here later = (here.0, both-labelled (after_one moves s x) xs ys here.1 later)

  pub have-labels : (ancestors : List Spot) (at : ℕ) (s : Numbering) (nodes : Nodes) → labelled attribute_value moves ancestors at s nodes ≡ nodes →
      HaveLabels moves s (seen_from ancestors at nodes)
  have-labels ancestors at s no_nodes e = tt
  have-labels ancestors at s (bytes b rest) e = have-labels ancestors at s rest cc
  have-labels ancestors at s (element tag kids rest) e =
      let x = seen_one ancestors at tag kids in
      let one = after_one moves s x in
      let inner = seen_from (spot at tag kids ∷ ancestors) (at + 1) kids in
      let outer = seen_from ancestors (at + 2 + tags kids) rest in
      let own : record tag { kind = whole_role attribute_value moves x; rev = number_for (revision_of attribute_value moves x) s } ≡ tag = cc in
      let later = have-labels ancestors (at + 2 + tags kids) (numbering_after attribute_value moves (spot at tag kids ∷ ancestors) (at + 1) one kids) rest cc in
      let P : Numbering → Type 0 = λ n. HaveLabels moves n outer in (
        record { kind = sym (ap (λ t. t.kind) own); number = sym (ap (λ t. t.rev) own) },
        both-labelled one inner outer (have-labels (spot at tag kids ∷ ancestors) (at + 1) one kids cc)
            (subst P (numbering-fold moves (spot at tag kids ∷ ancestors) (at + 1) one kids) later),
      )

-- ---- positions

-- the positions of the start tags rise along the list, from this one on
abbrev pub Rise : ℕ → List Seen → Type 0
Rise at [] = Unit {0}
Rise at (x ∷ xs) = (at ≤ x.own.start) × Rise (x.own.start + 1) xs

-- and all are below that one
abbrev Within : ℕ → ℕ → List Seen → Type 0
Within lo hi [] = Unit {0}
Within lo hi (x ∷ xs) = (lo ≤ x.own.start) × (x.own.start < hi) × Within (x.own.start + 1) hi xs

lower : (less lo hi : ℕ) (xs : List Seen) → less ≤ lo → Within lo hi xs → Within less hi xs
lower less lo hi [] h b = tt
lower less lo hi (x ∷ xs) h b = (omega (arith, h, b.0), b.1, b.2)

joined : (lo mid hi : ℕ) (xs ys : List Seen) → lo ≤ mid → mid ≤ hi → Within lo mid xs → Within mid hi ys → Within lo hi (xs ++ ys)
joined lo mid hi [] ys l h b c = lower lo mid hi ys l c
joined lo mid hi (x ∷ xs) ys l h b c = (b.0, omega (arith, h, b.1), joined (x.own.start + 1) mid hi xs ys (omega (arith, b.1)) h b.2 c)

higher : (lo hi more : ℕ) (xs : List Seen) → hi ≤ more → Within lo hi xs → Within lo more xs
higher lo hi more [] h b = tt
higher lo hi more (x ∷ xs) h b = (b.0, omega (arith, h, b.1), higher (x.own.start + 1) hi more xs h b.2)

seen-within : (ancestors : List Spot) (at : ℕ) (nodes : Nodes) → Within at (at + tags nodes) (seen_from ancestors at nodes)
seen-within ancestors at no_nodes = tt
seen-within ancestors at (bytes b rest) = seen-within ancestors at rest
seen-within ancestors at (element tag kids rest) =
    let inner = seen_from (spot at tag kids ∷ ancestors) (at + 1) kids in
    let outer = seen_from ancestors (at + 2 + tags kids) rest in
    let hi = at + (2 + tags kids + tags rest) in
    let below = higher (at + 1) (at + 1 + tags kids) (at + 2 + tags kids) inner (omega arith) (seen-within (spot at tag kids ∷ ancestors) (at + 1) kids) in
    let later = higher (at + 2 + tags kids) (at + 2 + tags kids + tags rest) hi outer (omega arith) (seen-within ancestors (at + 2 + tags kids) rest) in
    (omega arith, omega arith, joined (at + 1) (at + 2 + tags kids) hi inner outer (omega arith) (omega arith) below later)

rises : (lo hi : ℕ) (xs : List Seen) → Within lo hi xs → Rise lo xs
rises lo hi [] b = tt
rises lo hi (x ∷ xs) b = (b.0, rises (x.own.start + 1) hi xs b.2)

-- the positions of the elements, in the order of the document, rise
pub seen-rise : (ancestors : List Spot) (at : ℕ) (nodes : Nodes) → Rise at (seen_from ancestors at nodes)
seen-rise ancestors at nodes = rises at (at + tags nodes) (seen_from ancestors at nodes) (seen-within ancestors at nodes)
