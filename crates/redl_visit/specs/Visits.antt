-- A visit of nodes: a visitor looks at each element before its kids and after them, and its state goes on.
use Rattle.std.specs.Prelude.{Option, Some, None, if◌then◌else◌}
use Rattle.redl_tree.specs.Model.Kids.{has_element}
use Rattle.redl_tree.specs.Model.Nodes.{Tag, Nodes, no_nodes, bytes, element, Item, bytes_item, element_item, idle_item}
use Rattle.redl_tree.specs.Model.IdleTexts.{idle_nodes}

-- How a visitor goes on at an element: what it hands down to the kids, its state before them, and its state after them. `H` sums up the
-- ancestors of the element, `O` is what it hands down beside that, and `S` is its state. `leave` is given what was handed down to the kids.
pub record VisitRule (H O S : Type 0) : Type 0 where
  pub below : H → O → Tag → Nodes → S → O
  pub enter : H → O → Tag → Nodes → S → S
  pub leave : H → O → Tag → Nodes → S → S

-- the summary of the ancestors for the kids of an element, where an element is among them
abbrev pub inner_of : {H : Type 0} → (Tag → H → H) → Tag → Nodes → H → Option H
inner_of inside tag kids here = if has_element kids then Some (inside tag here) else None

-- the state after these nodes
abbrev pub visited : {H O S : Type 0} → (Tag → H → H) → VisitRule H O S → H → O → Nodes → S → S
visited inside rule here own no_nodes s = s
visited inside rule here own (bytes b rest) s = visited inside rule here own rest s
visited inside rule here own (element tag kids rest) s =
    visited inside rule here own rest
    (rule.leave here (rule.below here own tag kids s) tag kids
    (visited inside rule (inside tag here) (rule.below here own tag kids s) kids (rule.enter here own tag kids s)))

-- the state after one element, and after one node
abbrev pub visited_element : {H O S : Type 0} → (Tag → H → H) → VisitRule H O S → H → O → Tag → Nodes → S → S
visited_element inside rule here own tag kids s =
    rule.leave here (rule.below here own tag kids s) tag kids
    (visited inside rule (inside tag here) (rule.below here own tag kids s) kids (rule.enter here own tag kids s))

abbrev pub visited_item : {H O S : Type 0} → (Tag → H → H) → VisitRule H O S → H → O → Item → S → S
visited_item inside rule here own (bytes_item b) s = s
visited_item inside rule here own (element_item tag kids) s = visited_element inside rule here own tag kids s
visited_item inside rule here own (idle_item t) s = visited inside rule here own (idle_nodes t) s

-- what a visitor needs before an element, and after its kids
pub record VisitNeeds (H O S : Type 0) : Type 1 where
  pub Enter : H → O → Tag → Nodes → S → Type 0
  pub Leave : H → O → Tag → Nodes → S → Type 0

-- it needs nothing
abbrev pub no_needs : {H O S : Type 0} → VisitNeeds H O S
no_needs = record {
  Enter = λ here own tag kids s. Unit {0};
  Leave = λ here below tag kids s. Unit {0};
}

-- what it needs is so at each of these nodes
abbrev pub Needs : {H O S : Type 0} → (Tag → H → H) → VisitRule H O S → VisitNeeds H O S → H → O → Nodes → S → Type 0
Needs inside rule needs here own no_nodes s = Unit {0}
Needs inside rule needs here own (bytes b rest) s = Needs inside rule needs here own rest s
Needs inside rule needs here own (element tag kids rest) s =
    needs.Enter here own tag kids s
    × Needs inside rule needs (inside tag here) (rule.below here own tag kids s) kids (rule.enter here own tag kids s)
    × needs.Leave here (rule.below here own tag kids s) tag kids
    (visited inside rule (inside tag here) (rule.below here own tag kids s) kids (rule.enter here own tag kids s))
    × Needs inside rule needs here own rest (visited_element inside rule here own tag kids s)

-- at an element and all below it, and at a node
abbrev pub NeedsElement : {H O S : Type 0} → (Tag → H → H) → VisitRule H O S → VisitNeeds H O S → H → O → Tag → Nodes → S → Type 0
NeedsElement inside rule needs here own tag kids s =
    needs.Enter here own tag kids s
    × Needs inside rule needs (inside tag here) (rule.below here own tag kids s) kids (rule.enter here own tag kids s)
    × needs.Leave here (rule.below here own tag kids s) tag kids
    (visited inside rule (inside tag here) (rule.below here own tag kids s) kids (rule.enter here own tag kids s))

abbrev pub NeedsItem : {H O S : Type 0} → (Tag → H → H) → VisitRule H O S → VisitNeeds H O S → H → O → Item → S → Type 0
NeedsItem inside rule needs here own (bytes_item b) s = Unit {0}
NeedsItem inside rule needs here own (element_item tag kids) s = NeedsElement inside rule needs here own tag kids s
NeedsItem inside rule needs here own (idle_item t) s = Needs inside rule needs here own (idle_nodes t) s
