-- How much a story has of what is found, by the number of its nodes.
use Rattle.std.proofs.Common.{ℕ, ◌+◌, ◌≤◌, List, [], ◌∷◌, Option, Some, None, filter_map, length, length-append, arith}
use Rattle.std.specs.List.{cons_option}
use Rattle.redl_tree.specs.Model.Nodes.{Nodes, no_nodes, bytes, element}
use Rattle.redl_tree.specs.Model.Count.{count}
use Rattle.redl_tree.specs.Model.Seen.{Spot, spot, Seen, seen_from, tags}

-- an element has two tags
pub tags-count : (nodes : Nodes) → tags nodes ≤ count nodes + count nodes
tags-count no_nodes = omega arith
tags-count (bytes b rest) = omega (arith, tags-count rest)
tags-count (element tag kids rest) = omega (arith, tags-count kids, tags-count rest)

-- each element is a node
pub seen-count : (ancestors : List Spot) (at : ℕ) (nodes : Nodes) → length (seen_from ancestors at nodes) ≤ count nodes
seen-count ancestors at no_nodes = omega arith
seen-count ancestors at (bytes b rest) = omega (arith, seen-count ancestors at rest)
seen-count ancestors at (element tag kids rest) =
    let inner = seen_from (spot at tag kids ∷ ancestors) (at + 1) kids in
    let outer = seen_from ancestors (at + 2 + tags kids) rest in
    omega (arith, length-append inner outer, seen-count (spot at tag kids ∷ ancestors) (at + 1) kids, seen-count ancestors (at + 2 + tags kids) rest)

found-few : {X Y : Type 0} (find : X → Option Y) (xs : List X) → length (filter_map find xs) ≤ length xs
found-few find [] = omega arith
found-few {Y = Y} find (x ∷ xs) = by (find x) (found-few find xs)
  where
    by : (o : Option Y) → length (filter_map find xs) ≤ length xs → length (cons_option o (filter_map find xs)) ≤ length (x ∷ xs)
    by None h = omega (arith, h)
    by (Some y) h = omega (arith, h)

-- what is found among nodes is at most as much as the nodes
pub few-found : {X : Type 0} (find : Seen → Option X) (ancestors : List Spot) (at : ℕ) (nodes : Nodes) → length (filter_map find (seen_from ancestors at nodes)) ≤ count nodes
few-found find ancestors at nodes = omega (arith, found-few find (seen_from ancestors at nodes), seen-count ancestors at nodes)
