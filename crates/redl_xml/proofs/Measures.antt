-- The sizes that are counted piece by piece are those of the nodes.
use Rattle.std.proofs.Common.{◌≡◌, ℕ, ◌<◌, ◌≤◌, ◌+◌, max, Bool, true, false, cond, List, [], ◌∷◌, length, drop, Some, ap, subst, ◌∙◌, arith, inl, inr}
use Rattle.std.specs.Prelude.{nat_le}
use Rattle.std.proofs.lemmas.Bool.Decides.{nat_tests}
use Rattle.std.proofs.lemmas.Option.{same_Some, cond_some}
use Rattle.redl_tree.specs.Model.Nodes.{Nodes, no_nodes, bytes, element, ◌⊕◌}
use Rattle.redl_tree.specs.Model.Count.{count}
use Rattle.redl_tree.specs.Model.Nodes.{Empty, End}
use Rattle.redl_tree.specs.declared.kinds.Space.{Space}
use Rattle.redl_grammar.specs.Names.{Name, name_eq}
use Rattle.redl_grammar.specs.Pieces.{Piece, start_tag, empty_tag, end_tag, stretch}
use Rattle.redl_reading.proofs.Steps.{bind_some}
use Rattle.std.proofs.lemmas.Bool.{cases_Bool}
use Rattle.redl_xml.specs.Shapes.{depth_of}
use Rattle.redl_xml.specs.Scopes.{Scope}
use Rattle.redl_xml.specs.Inside.Elements.{entered, Frame, State, one_element, added, opened, closed, stretched, placed}
use Rattle.redl_xml.specs.Inside.Sizes.{capped, one_more, deepest_with, nodes_with}
use Rattle.redl_xml.specs.declared.sizes.Sizes.{Sizes}

-- ---- depth and count of nodes

pub depth-⊕ : (x y : Nodes) → depth_of (x ⊕ y) ≡ max (depth_of x) (depth_of y)
depth-⊕ no_nodes y = omega arith
depth-⊕ (bytes b rest) y = depth-⊕ rest y
depth-⊕ (element tag kids rest) y = omega (arith, depth-⊕ rest y)

pub count-⊕ : (x y : Nodes) → count (x ⊕ y) ≡ count x + count y
count-⊕ no_nodes y = omega arith
count-⊕ (bytes b rest) y = omega (arith, count-⊕ rest y)
count-⊕ (element tag kids rest) y = omega (arith, count-⊕ rest y)

-- the deepest element among the open ones and those before them
abbrev open_depth : List Frame → ℕ
open_depth [] = 0
open_depth (f ∷ fs) = max (open_depth fs) (length fs + depth_of f.before)

abbrev pub state_depth : State → ℕ
state_depth s = max (open_depth s.open_elements) (length s.open_elements + depth_of s.kids)

abbrev open_count : List Frame → ℕ
open_count [] = 0
open_count (f ∷ fs) = (open_count fs + count f.before) + 1

abbrev pub state_count : State → ℕ
state_count s = open_count s.open_elements + count s.kids

-- ---- counts up to one above a limit

pub one_more-capped : (limit n : ℕ) → one_more limit (capped limit n) ≡ capped limit (n + 1)
one_more-capped limit n =
    elim (cases_Bool (nat_le (capped limit n) limit)) [
      | inl fits ↦ rw fits (let le : capped limit n ≤ limit = grind (arith, nat_tests) in omega (arith, le))
      | inr full ↦ rw full (let lt : limit < capped limit n = grind (arith, nat_tests) in omega (arith, lt))
    ]

pub one_more_grows : (limit n : ℕ) → n ≤ one_more limit n
one_more_grows limit n = of (nat_le n limit) where
  of : (t : Bool) → n ≤ cond t (n + 1) n
  of true = omega arith
  of false = omega arith

pub deepest_grows : (p : Piece) (depth deepest : ℕ) → deepest ≤ deepest_with p depth deepest
deepest_grows (start_tag name tail) depth deepest = omega arith
deepest_grows (empty_tag name tail) depth deepest = omega arith
deepest_grows (stretch b) depth deepest = omega arith
deepest_grows (end_tag name space) depth deepest = omega arith

pub nodes_grow : (limit : ℕ) (p : Piece) (n : ℕ) → n ≤ nodes_with limit p n
nodes_grow limit (start_tag name tail) n = one_more_grows limit n
nodes_grow limit (empty_tag name tail) n = one_more_grows limit n
nodes_grow limit (stretch b) n = one_more_grows limit n
nodes_grow limit (end_tag name space) n = omega arith

-- ---- one piece

-- a state has this depth and this count
abbrev IsSized : ℕ → ℕ → State → Type 0
IsSized deepest nodes s = (deepest ≡ state_depth s) × (nodes ≡ state_count s)

opened_sizes : (s : State) (name : Name) (tail : List ℕ) (x : Space × Scope) → IsSized (max (state_depth s) (length s.open_elements + 1)) (state_count s + 1) (opened name tail s x)
opened_sizes s name tail x = (omega arith, omega arith)

empty_sizes : (s : State) (name : Name) (tail : List ℕ) (x : Space × Scope) → IsSized (max (state_depth s) (length s.open_elements + 1)) (state_count s + 1) (added s (one_element name x.0 tail Empty no_nodes))
empty_sizes s name tail x =
    let one : Nodes = one_element name x.0 tail Empty no_nodes in
    (omega (arith, depth-⊕ s.kids one), omega (arith, count-⊕ s.kids one))

stretched_sizes : (fs : List Frame) (s s' : State) (b : List ℕ) → stretched fs s b ≡ Some s' → IsSized (state_depth s) (state_count s + 1) s'
stretched_sizes [] s s' b e = absurd cc
stretched_sizes (f ∷ fs) s s' b e =
    let one : Nodes = bytes b no_nodes in
    let P : State → Type 0 = IsSized (state_depth s) (state_count s + 1) in
    subst P (same_Some (added s one) s' e) (omega (arith, depth-⊕ s.kids one), omega (arith, count-⊕ s.kids one))

closed_sizes : (fs : List Frame) (kids : Nodes) (scope : Scope) (name : Name) (space : List ℕ) (s' : State) → closed fs kids scope name space ≡ Some s' → IsSized (max (open_depth fs) (length fs + depth_of kids)) (open_count fs + count kids) s'
closed_sizes [] kids scope name space s' e = absurd cc
closed_sizes (f ∷ fs) kids scope name space s' e =
    let one : Nodes = one_element f.name f.space f.tail (End space) kids in
    let now : State = record { open_elements = fs; kids = f.before ⊕ one; scope = drop f.declared scope } in
    let P : State → Type 0 = IsSized (max (open_depth (f ∷ fs)) (length (f ∷ fs) + depth_of kids)) (open_count (f ∷ fs) + count kids) in
    subst P (cond_some (name_eq f.name name) now s' e).1 (omega (arith, depth-⊕ f.before one), omega (arith, count-⊕ f.before one))

-- the sizes are those of a state, its count up to one above the limit
pub record Measures (limit : ℕ) (s : State) (sizes : Sizes) : Type 0 where
  pub deepest : sizes.deepest ≡ state_depth s
  pub nodes : sizes.nodes ≡ capped limit (state_count s)

-- the sizes with one more piece
pub record Adds (limit : ℕ) (p : Piece) (depth : ℕ) (old new : Sizes) : Type 0 where
  pub deepest : new.deepest ≡ deepest_with p depth old.deepest
  pub nodes : new.nodes ≡ nodes_with limit p old.nodes

placed_depth : (p : Piece) (s s' : State) → placed p s ≡ Some s' → deepest_with p (length s.open_elements + 1) (state_depth s) ≡ state_depth s'
placed_depth (start_tag name tail) s s' e =
    let r = bind_some (entered s.scope name tail) _ s' e in
    (opened_sizes s name tail r.0).0 ∙ ap state_depth (same_Some (opened name tail s r.0) s' r.2)
placed_depth (empty_tag name tail) s s' e =
    let r = bind_some (entered s.scope name tail) _ s' e in
    (empty_sizes s name tail r.0).0 ∙ ap state_depth (same_Some (added s (one_element name r.0.0 tail Empty no_nodes)) s' r.2)
placed_depth (stretch b) s s' e = (stretched_sizes s.open_elements s s' b e).0
placed_depth (end_tag name space) s s' e = (closed_sizes s.open_elements s.kids s.scope name space s' e).0

placed_count : (limit : ℕ) (p : Piece) (s s' : State) → placed p s ≡ Some s' → nodes_with limit p (capped limit (state_count s)) ≡ capped limit (state_count s')
placed_count limit (start_tag name tail) s s' e =
    let r = bind_some (entered s.scope name tail) _ s' e in
    one_more-capped limit (state_count s) ∙ ap (capped limit) ((opened_sizes s name tail r.0).1 ∙ ap state_count (same_Some (opened name tail s r.0) s' r.2))
placed_count limit (empty_tag name tail) s s' e =
    let r = bind_some (entered s.scope name tail) _ s' e in
    one_more-capped limit (state_count s) ∙ ap (capped limit) ((empty_sizes s name tail r.0).1 ∙ ap state_count (same_Some (added s (one_element name r.0.0 tail Empty no_nodes)) s' r.2))
placed_count limit (stretch b) s s' e = one_more-capped limit (state_count s) ∙ ap (capped limit) (stretched_sizes s.open_elements s s' b e).1
placed_count limit (end_tag name space) s s' e = ap (capped limit) (closed_sizes s.open_elements s.kids s.scope name space s' e).1

-- with one more piece in both, the sizes are still those of the state
pub measures_more : (limit : ℕ) (p : Piece) (s s' : State) (old new : Sizes) → placed p s ≡ Some s' → Measures limit s old → Adds limit p (length s.open_elements + 1) old new → Measures limit s' new
measures_more limit p s s' old new e m a = record {
  deepest = a.deepest ∙ ap (deepest_with p (length s.open_elements + 1)) m.deepest ∙ placed_depth p s s' e;
  nodes = a.nodes ∙ ap (nodes_with limit p) m.nodes ∙ placed_count limit p s s' e;
}

-- the sizes of a state in which no element is open
pub closed_depth : (fs : List Frame) (kids : Nodes) (scope : Scope) → length fs ≡ 0 → state_depth (record { open_elements = fs; kids = kids; scope = scope }) ≡ depth_of kids
closed_depth [] kids scope e = omega arith
closed_depth (f ∷ fs) kids scope e = absurd cc

pub closed_count : (fs : List Frame) (kids : Nodes) (scope : Scope) → length fs ≡ 0 → state_count (record { open_elements = fs; kids = kids; scope = scope }) ≡ count kids
closed_count [] kids scope e = omega arith
closed_count (f ∷ fs) kids scope e = absurd cc
