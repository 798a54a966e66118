-- How deep an element goes and how many nodes it has, counted up to one above a limit.
use Rattle.std.specs.Prelude.{ℕ, ◌+◌, max, min, nat_le, List, Option, if◌then◌else◌}
use Rattle.std.specs.Option.{option_map}
use Rattle.redl_tree.specs.Model.Nodes.{Nodes}
use Rattle.redl_tree.specs.Model.Count.{count}
use Rattle.redl_grammar.specs.Pieces.{Piece, start_tag, empty_tag, end_tag, stretch}
use Rattle.redl_xml.specs.Shapes.{depth_of}
use Rattle.redl_xml.specs.Inside.Elements.{element_at}

-- a count, up to one above the limit
abbrev pub capped : ℕ → ℕ → ℕ
capped limit n = min n (limit + 1)

-- the depth of nodes, and their count
abbrev pub sizes_of : ℕ → Nodes → ℕ × ℕ
sizes_of limit nodes = (depth_of nodes, capped limit (count nodes))

abbrev pub found_sizes : ℕ → Nodes × List ℕ → (ℕ × ℕ) × List ℕ
found_sizes limit found = (sizes_of limit found.0, found.1)

-- depth and count of the leading element, and what follows it
abbrev pub element_sizes : ℕ → List ℕ → Option ((ℕ × ℕ) × List ℕ)
element_sizes limit bs = option_map (found_sizes limit) (element_at bs)

-- ---- one more piece

-- such a count with one more
abbrev pub one_more : ℕ → ℕ → ℕ
one_more limit n = if nat_le n limit then n + 1 else n

-- the greatest depth with one more piece, if an element that begins with it is at this depth
abbrev pub deepest_with : Piece → ℕ → ℕ → ℕ
deepest_with (start_tag name tail) depth deepest = max deepest depth
deepest_with (empty_tag name tail) depth deepest = max deepest depth
deepest_with (stretch b) depth deepest = deepest
deepest_with (end_tag name space) depth deepest = deepest

-- the nodes with one more piece
abbrev pub nodes_with : ℕ → Piece → ℕ → ℕ
nodes_with limit (start_tag name tail) n = one_more limit n
nodes_with limit (empty_tag name tail) n = one_more limit n
nodes_with limit (stretch b) n = one_more limit n
nodes_with limit (end_tag name space) n = n
