-- The positions of the markers of a story rise, and there are no more markers than tags.
use Rattle.std.proofs.Common.{◌≡◌, refl, ap, sym, subst, ℕ, ◌+◌, ◌≤◌, ◌<◌, List, [], ◌∷◌, ◌++◌, Bool, true, false, length, Option, Some, None, option_map, option_and_then, filter_map, codes, arith, if◌then◌else◌}
use Rattle.std.specs.List.{cons_option}
use Rattle.std.proofs.lemmas.List.Elements.{filter_map-append}
use Rattle.redl_tree.specs.Model.Nodes.{Nodes, no_nodes, bytes, element}
use Rattle.redl_tree.specs.Roles.Places.{is_open}
use Rattle.redl_tree.specs.Model.Seen.{Spot, spot, Seen, seen_one, seen_from, tags, tags_of}
use Rattle.redl_tree.specs.Revisions.Moves.{Edge, Marking}
use Rattle.redl_tree.specs.Revisions.Markers.{Value, edge_of, marking, marker_of}
use Rattle.redl_moves.specs.Marks.{RisesFrom}

-- the positions rise, from this one on, and all are below that one
abbrev pub Between : ℕ → ℕ → List Marking → Type 0
Between lo hi [] = Unit {0}
Between lo hi (m ∷ ms) = (lo ≤ m.at) × (m.at < hi) × Between (m.at + 1) hi ms

lower : (less lo hi : ℕ) (ms : List Marking) → less ≤ lo → Between lo hi ms → Between less hi ms
lower less lo hi [] h b = tt
lower less lo hi (m ∷ ms) h b = (omega (arith, h, b.0), b.1, b.2)

higher : (lo hi more : ℕ) (ms : List Marking) → hi ≤ more → Between lo hi ms → Between lo more ms
higher lo hi more [] h b = tt
higher lo hi more (m ∷ ms) h b = (b.0, omega (arith, h, b.1), higher (m.at + 1) hi more ms h b.2)

joined : (lo mid hi : ℕ) (xs ys : List Marking) → lo ≤ mid → mid ≤ hi → Between lo mid xs → Between mid hi ys → Between lo hi (xs ++ ys)
joined lo mid hi [] ys l h b c = lower lo mid hi ys l c
joined lo mid hi (m ∷ xs) ys l h b c = (b.0, omega (arith, h, b.1), joined (m.at + 1) mid hi xs ys (omega (arith, b.1)) h b.2 c)

-- a marker stands where its element starts
pub marker-at : (value : Value) (seen : Seen) (m : Marking) → marker_of value seen ≡ Some m → m.at ≡ seen.own.start
marker-at value seen m e = by (is_open (tags_of seen.ancestors)) (edge_of seen.own.tag) (value seen.own.tag.tail (codes "id")) e
  where
    by : (b : Bool) (edge : Option Edge) (id : Option (List ℕ)) →
        (if b then option_and_then (λ edge. option_map (marking value seen edge) id) edge else None) ≡ Some m → m.at ≡ seen.own.start
    by false edge id e = absurd (cc)
    by true None id e = absurd (cc)
    by true (Some edge) None e = absurd (cc)
    by true (Some edge) (Some id) e = let is : marking value seen edge id ≡ m = cc in ap (λ (x : Marking). x.at) (sym is)

first : (at hi : ℕ) (o : Option Marking) (ms : List Marking) → ((m : Marking) → o ≡ Some m → m.at ≡ at) → at < hi → Between (at + 1) hi ms → Between at hi (cons_option o ms)
first at hi None ms own h b = lower at (at + 1) hi ms (omega arith) b
first at hi (Some m) ms own h b =
    let is = own m refl in (omega (arith, is), omega (arith, is, h), lower (m.at + 1) (at + 1) hi ms (omega (arith, is)) b)

pub markers-between : (value : Value) (ancestors : List Spot) (at : ℕ) (nodes : Nodes) →
    Between at (at + tags nodes) (filter_map (marker_of value) (seen_from ancestors at nodes))
markers-between value ancestors at no_nodes = tt
markers-between value ancestors at (bytes b rest) = markers-between value ancestors at rest
markers-between value ancestors at (element tag kids rest) =
    let inner = seen_from (spot at tag kids ∷ ancestors) (at + 1) kids in
    let outer = seen_from ancestors (at + 2 + tags kids) rest in
    let find = filter_map (marker_of value) in
    let hi = at + (2 + tags kids + tags rest) in
    let below = higher (at + 1) (at + 1 + tags kids) (at + 2 + tags kids) (find inner) (omega arith) (markers-between value (spot at tag kids ∷ ancestors) (at + 1) kids) in
    let later = higher (at + 2 + tags kids) (at + 2 + tags kids + tags rest) hi (find outer) (omega arith) (markers-between value ancestors (at + 2 + tags kids) rest) in
    let both = joined (at + 1) (at + 2 + tags kids) hi (find inner) (find outer) (omega arith) (omega arith) below later in
    let P : List Marking → Type 0 = Between (at + 1) hi in
    first at hi (marker_of value (seen_one ancestors at tag kids)) (find (inner ++ outer)) (marker-at value (seen_one ancestors at tag kids)) (omega arith)
    (subst P (sym (filter_map-append (marker_of value) inner outer)) both)

-- markers that rise from one position to another rise from the first
pub between-rises : (lo hi : ℕ) (ms : List Marking) → Between lo hi ms → RisesFrom lo ms
between-rises lo hi [] b = tt
between-rises lo hi (m ∷ ms) b = (b.0, between-rises (m.at + 1) hi ms b.2)

pub between-few : (lo hi : ℕ) (ms : List Marking) → lo ≤ hi → Between lo hi ms → lo + length ms ≤ hi
between-few lo hi [] h b = omega (arith, h)
between-few lo hi (m ∷ ms) h b = omega (arith, b.0, b.1, between-few (m.at + 1) hi ms (omega (arith, b.1)) b.2)

-- the markers of a story rise within the positions of the story
pub story-between : (value : Value) (ancestors : List Spot) (nodes : Nodes) → Between 0 (1 + tags nodes) (filter_map (marker_of value) (seen_from ancestors 1 nodes))
story-between value ancestors nodes = lower 0 1 (1 + tags nodes) (filter_map (marker_of value) (seen_from ancestors 1 nodes)) (omega arith) (markers-between value ancestors 1 nodes)
