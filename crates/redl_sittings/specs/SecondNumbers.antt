-- Which revision of a first package a revision of a second one was (our own rule), where the second one is what a sitting left
-- of the first. Both have their elements in the same order, so the numbers are compared element by element.
use Rattle.std.specs.Prelude.{ℕ, ◌==◌, List, [], ◌∷◌, ◌++◌, map, Option, None, Some, if◌then◌else◌}
use Rattle.std.specs.List.{range_with_len}
use Rattle.redl_tree.specs.Model.Nodes.{Nodes, no_nodes, bytes, element}
use Rattle.redl_opc.specs.Elements.{Element}
use Rattle.redl_opc.specs.Shape.{parts_of, story_of}

-- the revision of each element, in the order of their start tags; 0 for one that is in none
abbrev pub numbers_along : Nodes → List ℕ
numbers_along no_nodes = []
numbers_along (bytes b rest) = numbers_along rest
numbers_along (element tag kids rest) = tag.rev ∷ (numbers_along kids ++ numbers_along rest)

-- the same of the elements below the root of a story; none where there is no story
abbrev pub numbers_below : Option Element → List ℕ
numbers_below None = []
numbers_below (Some root) = numbers_along root.kids

-- the same of each part of a package, in the order of the parts
abbrev pub part_numbers : Nodes → List (List ℕ)
part_numbers nodes = map (λ part. numbers_below (story_of part)) (parts_of nodes)

-- each second number beside the first number of the same element; beside 0 where the first story has no such element
abbrev pub beside : List ℕ → List ℕ → List (ℕ × ℕ)
beside [] firsts = []
beside (second ∷ seconds) [] = (second, 0) ∷ beside seconds []
beside (second ∷ seconds) (first ∷ firsts) = (second, first) ∷ beside seconds firsts

-- the same part by part
abbrev pub parts_beside : List (List ℕ) → List (List ℕ) → List (ℕ × ℕ)
parts_beside [] firsts = []
parts_beside (second ∷ seconds) [] = beside second [] ++ parts_beside seconds []
parts_beside (second ∷ seconds) (first ∷ firsts) = beside second first ++ parts_beside seconds firsts

-- the first number beside this second number where that comes first, or 0
abbrev pub first_beside : ℕ → List (ℕ × ℕ) → ℕ
first_beside number [] = 0
first_beside number (pair ∷ pairs) = if pair.0 == number then pair.1 else first_beside number pairs

-- the first numbers of the second numbers 1 to count
abbrev pub numbers_beside : List (ℕ × ℕ) → ℕ → List ℕ
numbers_beside pairs count = map (λ number. first_beside number pairs) (range_with_len 1 count)

-- the first number of each of so many second numbers; `passed` is what the first sitting left of the first package
abbrev pub first_numbers : Nodes → Nodes → ℕ → List ℕ
first_numbers passed second count = numbers_beside (parts_beside (part_numbers second) (part_numbers passed)) count
