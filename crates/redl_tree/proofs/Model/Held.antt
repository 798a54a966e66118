-- The equations of the model of what an element holds.
use Rattle.std.proofs.Common.{◌≡◌, [], refl, sym, ap, ◌∙◌, rules, Vec, Box, Global}
use Rattle.redl_tree.specs.Model.Nodes.{no_nodes, Empty, End}
use Rattle.redl_tree.specs.Model.View.{Held, nodes_of, held_of, spaced_of, tag_of, kids_of}
use Rattle.redl_tree.specs.declared.node.Body.{Body, out-Body, roll-Body, roll-out-Body, the_lemmas}
use Rattle.redl_tree.specs.declared.node.Body as body
use Rattle.redl_tree.specs.declared.node.Body.TheOpen.{Body-F, Spaced-F}
use Rattle.redl_tree.specs.declared.node.Node.{Node}
use Rattle.redl_tree.specs.declared.node.Elem.{Elem}
use Rattle.redl_tree.specs.declared.node.Spaced.{Spaced, roll-Spaced}

-- an empty element holds nothing
pub held_of-Empty : held_of body.Empty ≡ record { kids = no_nodes; close = Empty }
held_of-Empty = search (rules, the_lemmas)

-- an element with kids holds them
pub held_of-Kids : (v : Vec Node Global) → held_of (body.Kids v) ≡ record { kids = nodes_of v.items; close = End [] }
held_of-Kids v = search (rules, the_lemmas)

-- one whose end tag has white space holds what its box says
pub held_of-Spaced : (b : Box Spaced Global) → held_of (body.Spaced b) ≡ spaced_of b.value
held_of-Spaced b = search (rules, the_lemmas)

pub spaced_of-made : (s : Spaced-F Body Node Elem Spaced) → spaced_of (roll-Spaced s) ≡ record { kids = nodes_of s.kids.items; close = End s.white.now }
spaced_of-made s = search (rules, the_lemmas)

-- the same by the fields of the box
pub spaced_of-fields : (s : Spaced) → spaced_of s ≡ record { kids = nodes_of s.kids.items; close = End s.white.now }
spaced_of-fields s = search (rules, the_lemmas)

-- what a body holds, by one look at it
made_held : Body-F Body Node Elem Spaced → Held
made_held Body-F.Empty = record { kids = no_nodes; close = Empty }
made_held (Body-F.Kids v) = record { kids = nodes_of v.items; close = End [] }
made_held (Body-F.Spaced b) = spaced_of b.value

held_of-made : (x : Body-F Body Node Elem Spaced) → held_of (roll-Body x) ≡ made_held x
unfolding made_held
held_of-made Body-F.Empty = search (rules, the_lemmas)
held_of-made (Body-F.Kids v) = search (rules, the_lemmas)
held_of-made (Body-F.Spaced b) = search (rules, the_lemmas)

bare_when_closed : (x : Body-F Body Node Elem Spaced) → (made_held x).close ≡ Empty → (made_held x).kids ≡ no_nodes
unfolding made_held
bare_when_closed Body-F.Empty closed = refl
bare_when_closed (Body-F.Kids v) closed = absurd cc
bare_when_closed (Body-F.Spaced b) closed =
    let ended : (spaced_of b.value).close ≡ End b.value.white.now = ap (λ (h : Held). h.close) (spaced_of-fields b.value) in
    absurd cc

-- an element that is closed in its start tag has no kids
pub closed_is_bare : (e : Elem) → (tag_of e).close ≡ Empty → kids_of e ≡ no_nodes
closed_is_bare e closed =
    let is : held_of e.body ≡ made_held (out-Body e.body) = ap held_of (sym (roll-out-Body e.body)) ∙ held_of-made (out-Body e.body) in
    ap (λ (h : Held). h.kids) is ∙ bare_when_closed (out-Body e.body) (sym (ap (λ (h : Held). h.close) is) ∙ closed)
