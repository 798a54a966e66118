-- Names of elements: a local name in the namespace of WordprocessingML (W) or of mathematics (M).
use Prim.Native.String.{String}
use Rattle.std.specs.Prelude.{ℕ, List, [], Bool, true, false, ◌&&◌, codes, bytes_eq}
use Rattle.std.specs.List.{list_any}
use Rattle.redl_tree.specs.Model.Lists.{Tag, Empty}
use Rattle.redl_tree.specs.declared.kinds.Space.{Space}
use Rattle.redl_tree.specs.declared.kinds.Space.TheVariants.{W, M}
use Rattle.redl_tree.specs.declared.kinds.Kind.TheVariants.{Plain}

-- the namespace of WordprocessingML
abbrev pub is_w : Space → Bool
is_w W = true
is_w _ = false

-- the namespace of mathematics
abbrev pub is_m : Space → Bool
is_m M = true
is_m _ = false

-- an element of W with this local name, given by its bytes
abbrev pub named : List ℕ → Tag → Bool
named name tag = is_w tag.space && bytes_eq tag.local name

-- an element of M with this local name, given by its bytes
abbrev pub named_math : List ℕ → Tag → Bool
named_math name tag = is_m tag.space && bytes_eq tag.local name

-- an element of W with this local name
abbrev pub is : String → Tag → Bool
is name tag = named (codes name) tag

-- an element of M with this local name
abbrev pub is_math : String → Tag → Bool
is_math name tag = named_math (codes name) tag

-- an element of W with one of these local names
abbrev pub is_any : List String → Tag → Bool
is_any names tag = list_any (λ name. is name tag) names

-- an element of W with this local name, of which no more is told
abbrev pub of_w : List ℕ → Tag
of_w name = record { prefix = []; local = name; space = W; tail = []; close = Empty; kind = Plain; rev = 0 }
