-- The state after a visit of nodes, and what a visitor needs there.
use Rattle.std.proofs.Common.{◌≡◌, refl, ap, sym, ◌∙◌, ℕ, ◌+◌, ◌<◌, List, length, get_or, drop, map, Bool, true, false, true≢false, Some, None, is_some, if◌then◌else◌}
use Rattle.std.proofs.lemmas.List.{drop_more}
use Rattle.redl_tree.specs.Model.Nodes.{Tag, Nodes, no_nodes, bytes, element, Item, bytes_item, element_item, idle_item, in_front, from_items, ◌⊕◌}
use Rattle.redl_tree.specs.Model.IdleTexts.{idle_nodes}
use Rattle.redl_tree.specs.Model.Kids.{has_element}
use Rattle.redl_visit.specs.Elements.{NoElement, NoText}
use Rattle.redl_visit.specs.Stops.{VisitStops, before, below, after, behind, StopsIn, StopsItem}
use Rattle.redl_visit.specs.Visits.{VisitRule, VisitNeeds, inner_of, visited, visited_element, visited_item, no_needs, Needs, NeedsItem}

-- ---- a node in front of others

module _ {H O S : Type 0} (inside : Tag → H → H) (rule : VisitRule H O S) (here : H) (own : O) where
  pub visited-⊕ : (xs ys : Nodes) (s : S) → visited inside rule here own (xs ⊕ ys) s ≡ visited inside rule here own ys (visited inside rule here own xs s)
  visited-⊕ no_nodes ys s = refl
  visited-⊕ (bytes b rest) ys s = visited-⊕ rest ys s
  visited-⊕ (element tag kids rest) ys s = visited-⊕ rest ys (visited_element inside rule here own tag kids s)

  needs-⊕ : (needs : VisitNeeds H O S) (xs ys : Nodes) (s : S) → Needs inside rule needs here own (xs ⊕ ys) s
      → Needs inside rule needs here own xs s × Needs inside rule needs here own ys (visited inside rule here own xs s)
  needs-⊕ needs no_nodes ys s h = (tt, h)
  needs-⊕ needs (bytes b rest) ys s h = needs-⊕ needs rest ys s h
  needs-⊕ needs (element tag kids rest) ys s h =
      let later = needs-⊕ needs rest ys (visited_element inside rule here own tag kids s) h.3 in
      ((h.0, h.1, h.2, later.0), later.1)

  stops-⊕ : {X : Type 0} (stops : VisitStops H O S X) (xs ys : Nodes) (s t : S) (x : X) → StopsIn inside rule stops here own ys (visited inside rule here own xs s) t x → StopsIn inside rule stops here own (xs ⊕ ys) s t x
  stops-⊕ stops no_nodes ys s t x h = h
  stops-⊕ stops (bytes b rest) ys s t x h = stops-⊕ stops rest ys s t x h
  stops-⊕ stops (element tag kids rest) ys s t x h = behind (stops-⊕ stops rest ys (visited_element inside rule here own tag kids s) t x h)

  pub visited-in_front : (x : Item) (rest : Nodes) (s : S) → visited inside rule here own (in_front x rest) s ≡ visited inside rule here own rest (visited_item inside rule here own x s)
  visited-in_front (bytes_item b) rest s = refl
  visited-in_front (element_item tag kids) rest s = refl
  visited-in_front (idle_item t) rest s = visited-⊕ (idle_nodes t) rest s

  pub needs-in_front : (needs : VisitNeeds H O S) (x : Item) (rest : Nodes) (s : S) → Needs inside rule needs here own (in_front x rest) s
      → NeedsItem inside rule needs here own x s × Needs inside rule needs here own rest (visited_item inside rule here own x s)
  needs-in_front needs (bytes_item b) rest s h = (tt, h)
  needs-in_front needs (element_item tag kids) rest s h = ((h.0, h.1, h.2), h.3)
  needs-in_front needs (idle_item t) rest s h = needs-⊕ needs (idle_nodes t) rest s h

  -- a visit stops at a node, or behind it
  pub stops-in_front : {X : Type 0} (stops : VisitStops H O S X) (item : Item) (rest : Nodes) (s t : S) (x : X) → StopsItem inside rule stops here own item s t x → StopsIn inside rule stops here own (in_front item rest) s t x
  stops-in_front stops (bytes_item b) rest s t x h = absurd h
  stops-in_front stops (element_item tag kids) rest s t x (before h) = before h
  stops-in_front stops (element_item tag kids) rest s t x (below h) = below h
  stops-in_front stops (element_item tag kids) rest s t x (after h) = after h
  stops-in_front stops (element_item tag kids) rest s t x (behind h) = absurd h
  stops-in_front stops (idle_item text) rest s t x h = absurd h

  pub stops-behind : {X : Type 0} (stops : VisitStops H O S X) (item : Item) (rest : Nodes) (s t : S) (x : X) → StopsIn inside rule stops here own rest (visited_item inside rule here own item s) t x → StopsIn inside rule stops here own (in_front item rest) s t x
  stops-behind stops (bytes_item b) rest s t x h = h
  stops-behind stops (element_item tag kids) rest s t x h = behind h
  stops-behind stops (idle_item text) rest s t x h = stops-⊕ stops (idle_nodes text) rest s t x h

  -- where a node is neither an element nor idle elements, it changes nothing
  pub no_item : (item : Item) (s : S) → NoElement item → NoText item → visited_item inside rule here own item s ≡ s
  no_item (bytes_item b) s no_element no_text = refl
  no_item (element_item tag kids) s no_element no_text = absurd no_element
  no_item (idle_item t) s no_element no_text = absurd no_text

-- the nodes from the index i on, where x stands at i
pub items_here : {N : Type 0} (item : N → Item) (xs : List N) (i : ℕ) (x : N) → i < length xs → x ≡ get_or xs i x
    → from_items (map item (drop i xs)) ≡ in_front (item x) (from_items (map item (drop (i + 1) xs)))
items_here item xs i x within is =
    ap (λ ys. from_items (map item ys)) (drop_more xs i x within)
    ∙ ap (λ y. in_front (item y) (from_items (map item (drop (i + 1) xs)))) (sym is)

-- ---- the summary for the kids of an element

module _ {H : Type 0} (inside : Tag → H → H) (tag : Tag) (kids : Nodes) (here : H) where
  -- there is one exactly where an element is among the kids
  pub is_inner : is_some (inner_of inside tag kids here) ≡ has_element kids
  is_inner = by (has_element kids)
    where
      by : (b : Bool) → is_some (if b then Some (inside tag here) else None) ≡ b
      by true = refl
      by false = refl

  pub has_inner : (inner : H) → Some inner ≡ inner_of inside tag kids here → has_element kids ≡ true
  has_inner inner is = sym is_inner ∙ ap is_some (sym is)

  pub no_inner : None ≡ inner_of inside tag kids here → has_element kids ≡ false
  no_inner is = sym is_inner ∙ ap is_some (sym is)

  -- a summary that is handed down is that of the element and its ancestors
  pub some_inner : (inner : H) → Some inner ≡ inner_of inside tag kids here → inner ≡ inside tag here
  some_inner inner is = by (has_element kids) is
    where
      by : (b : Bool) → Some inner ≡ (if b then Some (inside tag here) else None) → inner ≡ inside tag here
      by true e = cc
      by false e = cc

-- ---- nodes among which no element is

-- they change nothing
pub visited-none : {H O S : Type 0} (inside : Tag → H → H) (rule : VisitRule H O S) (here : H) (own : O) (nodes : Nodes) (s : S) → has_element nodes ≡ false →
    visited inside rule here own nodes s ≡ s
visited-none inside rule here own no_nodes s none = refl
visited-none inside rule here own (bytes b rest) s none = visited-none inside rule here own rest s none
visited-none inside rule here own (element tag kids rest) s none = absurd (true≢false none)

-- where they are the kids of an element
pub none_inner : {H O S : Type 0} (inside : Tag → H → H) (rule : VisitRule H O S) (tag : Tag) (kids : Nodes) (here : H) (own : O) (s : S) → None ≡ inner_of inside tag kids here
    → visited inside rule (inside tag here) own kids s ≡ s
none_inner inside rule tag kids here own s is = visited-none inside rule (inside tag here) own kids s (no_inner inside tag kids here is)

-- so it matters nothing what is handed down to them
pub visited-choice : {H O S : Type 0} (inside : Tag → H → H) (rule : VisitRule H O S) (here : H) (own : Bool → O) (nodes : Nodes) (s : S) →
    visited inside rule here (own (has_element nodes)) nodes s ≡ visited inside rule here (own true) nodes s
visited-choice inside rule here own nodes s = by (has_element nodes) refl
  where
    by : (b : Bool) → has_element nodes ≡ b → visited inside rule here (own b) nodes s ≡ visited inside rule here (own true) nodes s
    by true is = refl
    by false is = visited-none inside rule here (own false) nodes s is ∙ sym (visited-none inside rule here (own true) nodes s is)

-- ---- a visitor that needs nothing has what it needs

-- a visit to no nodes needs nothing
pub needs-nothing : {H O S : Type 0} (inside : Tag → H → H) (rule : VisitRule H O S) (here : H) (own : O) (nodes : Nodes) (s : S) → Needs inside rule no_needs here own nodes s
needs-nothing inside rule here own no_nodes s = tt
needs-nothing inside rule here own (bytes b rest) s = needs-nothing inside rule here own rest s
needs-nothing inside rule here own (element tag kids rest) s = (
  tt,
  needs-nothing inside rule (inside tag here) (rule.below here own tag kids s) kids (rule.enter here own tag kids s),
  tt,
  needs-nothing inside rule here own rest (visited_element inside rule here own tag kids s),
)
