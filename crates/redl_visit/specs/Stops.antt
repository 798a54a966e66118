-- Where a visitor stops, and what is so then.
use Rattle.redl_tree.specs.Model.Nodes.{Tag, Nodes, no_nodes, bytes, element, Item, bytes_item, element_item, idle_item}
use Rattle.redl_visit.specs.Visits.{VisitRule, visited, visited_element}

-- what is so where a visitor stops with an error before an element, or after its kids: of its state before that call, and after it
pub record VisitStops (H O S X : Type 0) : Type 1 where
  pub Enter : H → O → Tag → Nodes → S → S → X → Type 0
  pub Leave : H → O → Tag → Nodes → S → S → X → Type 0

-- before an element, below it, after its kids, or behind it
pub data OneOf (A B C D : Type 0) : Type 0 where
  before : A → OneOf A B C D
  below : B → OneOf A B C D
  after : C → OneOf A B C D
  behind : D → OneOf A B C D

-- it stops at one of these nodes, where the state before them is `s`, and then `t`
abbrev pub StopsIn : {H O S X : Type 0} → (Tag → H → H) → VisitRule H O S → VisitStops H O S X → H → O → Nodes → S → S → X → Type 0
StopsIn inside rule stops here own no_nodes s t x = ⊥
StopsIn inside rule stops here own (bytes b rest) s t x = StopsIn inside rule stops here own rest s t x
StopsIn inside rule stops here own (element tag kids rest) s t x =
    OneOf (stops.Enter here own tag kids s t x)
    (StopsIn inside rule stops (inside tag here) (rule.below here own tag kids s) kids (rule.enter here own tag kids s) t x)
    (stops.Leave here (rule.below here own tag kids s) tag kids
    (visited inside rule (inside tag here) (rule.below here own tag kids s) kids (rule.enter here own tag kids s)) t x)
    (StopsIn inside rule stops here own rest (visited_element inside rule here own tag kids s) t x)

-- at an element or below it, and at a node; it does not stop in idle elements
abbrev pub StopsElement : {H O S X : Type 0} → (Tag → H → H) → VisitRule H O S → VisitStops H O S X → H → O → Tag → Nodes → S → S → X → Type 0
StopsElement inside rule stops here own tag kids s t x = StopsIn inside rule stops here own (element tag kids no_nodes) s t x

abbrev pub StopsItem : {H O S X : Type 0} → (Tag → H → H) → VisitRule H O S → VisitStops H O S X → H → O → Item → S → S → X → Type 0
StopsItem inside rule stops here own (bytes_item b) s t x = ⊥
StopsItem inside rule stops here own (element_item tag kids) s t x = StopsElement inside rule stops here own tag kids s t x
StopsItem inside rule stops here own (idle_item text) s t x = ⊥

-- nothing is said of a visitor that stopped
abbrev pub any_stops : {H O S X : Type 0} → VisitStops H O S X
any_stops = record {
  Enter = λ here own tag kids s t x. Unit {0};
  Leave = λ here below tag kids s t x. Unit {0};
}
