-- A visit of nodes that gives each element a label.
use Rattle.std.specs.Prelude.{◌≡◌, Bool, true}
use Rattle.redl_tree.specs.Model.Nodes.{Tag, Nodes, no_nodes, bytes, element, Item, bytes_item, element_item, idle_item}
use Rattle.redl_tree.specs.Roles.Idle.{is_idle_tag}
use Rattle.redl_visit.specs.declared.labels.Label.{Label}
use Rattle.redl_visit.specs.Visits.{VisitRule, VisitNeeds, visited_element}

-- how a visitor goes on at an element, as `VisitRule` says, and the label that it gives the element
pub record LabelRule (H O S : Type 0) : Type 0 where
  pub below : H → O → Tag → Nodes → S → O
  pub enter : H → O → Tag → Nodes → S → S
  pub leave : S → S
  pub label : H → O → Tag → Nodes → S → Label

-- what it needs before an element, and after its kids
pub record LabelNeeds (H O S : Type 0) : Type 1 where
  pub Enter : H → O → Tag → Nodes → S → Type 0
  pub Leave : S → Type 0

-- how its state goes on, and what it needs, as of a visitor that gives no labels
abbrev pub visit_of : {H O S : Type 0} → LabelRule H O S → VisitRule H O S
visit_of rule = record { below = rule.below; enter = rule.enter; leave = λ here below tag kids s. rule.leave s }

-- the needs of a visitor that gives labels, as of one that gives none
abbrev pub needs_of : {H O S : Type 0} → LabelNeeds H O S → VisitNeeds H O S
needs_of needs = record { Enter = needs.Enter; Leave = λ here below tag kids s. needs.Leave s }

-- the tag with this label
abbrev pub with_label : Label → Tag → Tag
with_label label tag = record tag { kind = label.kind; rev = label.rev }

-- it leaves idle elements as they are, which are in no revision
abbrev pub LeavesIdle : {H O S : Type 0} → LabelRule H O S → Type 0
LeavesIdle {H} {O} {S} rule = (here : H) (own : O) (in_run : Bool) (tag : Tag) (kids : Nodes) (s : S) → is_idle_tag in_run tag ≡ true → with_label (rule.label here own tag kids s) tag ≡ tag

-- these nodes with their labels
abbrev pub relabelled : {H O S : Type 0} → (Tag → H → H) → LabelRule H O S → H → O → Nodes → S → Nodes
relabelled inside rule here own no_nodes s = no_nodes
relabelled inside rule here own (bytes b rest) s = bytes b (relabelled inside rule here own rest s)
relabelled inside rule here own (element tag kids rest) s =
    element (with_label (rule.label here own tag kids s) tag)
    (relabelled inside rule (inside tag here) (rule.below here own tag kids s) kids (rule.enter here own tag kids s))
    (relabelled inside rule here own rest (visited_element inside (visit_of rule) here own tag kids s))

-- the kids of an element with their labels, and a node with its own
abbrev pub relabelled_kids : {H O S : Type 0} → (Tag → H → H) → LabelRule H O S → H → O → Tag → Nodes → S → Nodes
relabelled_kids inside rule here own tag kids s =
    relabelled inside rule (inside tag here) (rule.below here own tag kids s) kids (rule.enter here own tag kids s)

abbrev pub relabelled_item : {H O S : Type 0} → (Tag → H → H) → LabelRule H O S → H → O → Item → S → Item
relabelled_item inside rule here own (bytes_item b) s = bytes_item b
relabelled_item inside rule here own (idle_item t) s = idle_item t
relabelled_item inside rule here own (element_item tag kids) s =
    element_item (with_label (rule.label here own tag kids s) tag) (relabelled_kids inside rule here own tag kids s)
