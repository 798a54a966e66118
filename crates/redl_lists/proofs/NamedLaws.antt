-- Elements by their names among nodes one after the other.
use Rattle.std.proofs.Common.{◌≡◌, ◌∙◌, refl, sym, ap, ℕ, List, ◌++◌, append_assoc, Option, Some, None, Bool, true, false, if◌then◌else◌}
use Rattle.redl_reading.specs.Steps.{or_else}
use Rattle.redl_tree.specs.Model.Nodes.{Tag, Nodes, no_nodes, bytes, element, Item, bytes_item, element_item, idle_item, in_front, ◌⊕◌}
use Rattle.redl_tree.specs.Model.IdleTexts.{idle_nodes}
use Rattle.redl_tree.specs.Model.View.{Element}
use Rattle.redl_tree.specs.Roles.Names.{named}
use Rattle.redl_lists.specs.Named.{if_named, list_if_named, first_named, all_named, first_within}
use Rattle.redl_lists.specs.Parts.{item_first, item_all}
use Rattle.redl_lists.specs.Inside.Items.{item_within}

pub or_else-assoc : {A : Type 0} (x y z : Option A) → or_else (or_else x y) z ≡ or_else x (or_else y z)
or_else-assoc None y z = refl
or_else-assoc (Some x) y z = refl

pub or_else-none : {A : Type 0} (x : Option A) → or_else x None ≡ x
or_else-none None = refl
or_else-none (Some x) = refl

-- ---- nodes one after the other

first_named-⊕ : (name : List ℕ) (x y : Nodes) → first_named name (x ⊕ y) ≡ or_else (first_named name x) (first_named name y)
first_named-⊕ name no_nodes y = refl
first_named-⊕ name (bytes b rest) y = first_named-⊕ name rest y
first_named-⊕ name (element tag kids rest) y =
    ap (or_else (if_named name tag kids)) (first_named-⊕ name rest y)
    ∙ sym (or_else-assoc (if_named name tag kids) (first_named name rest) (first_named name y))

all_named-⊕ : (name : List ℕ) (x y : Nodes) → all_named name (x ⊕ y) ≡ all_named name x ++ all_named name y
all_named-⊕ name no_nodes y = refl
all_named-⊕ name (bytes b rest) y = all_named-⊕ name rest y
all_named-⊕ name (element tag kids rest) y =
    ap (λ (es : List Element). list_if_named name tag kids ++ es) (all_named-⊕ name rest y)
    ∙ sym (append_assoc (list_if_named name tag kids) (all_named name rest) (all_named name y))

first_within-⊕ : (name : List ℕ) (x y : Nodes) → first_within name (x ⊕ y) ≡ or_else (first_within name x) (first_within name y)
first_within-⊕ name no_nodes y = refl
first_within-⊕ name (bytes b rest) y = first_within-⊕ name rest y
first_within-⊕ name (element tag kids rest) y =
    ap (or_else (or_else (if_named name tag kids) (first_within name kids))) (first_within-⊕ name rest y)
    ∙ sym (or_else-assoc (or_else (if_named name tag kids) (first_within name kids)) (first_within name rest) (first_within name y))

-- ---- the nodes behind one node

pub first_named-in_front : (name : List ℕ) (x : Item) (rest : Nodes) → first_named name (in_front x rest) ≡ or_else (item_first name x) (first_named name rest)
first_named-in_front name (bytes_item b) rest = refl
first_named-in_front name (element_item tag kids) rest = refl
first_named-in_front name (idle_item t) rest = first_named-⊕ name (idle_nodes t) rest

pub all_named-in_front : (name : List ℕ) (x : Item) (rest : Nodes) → all_named name (in_front x rest) ≡ item_all name x ++ all_named name rest
all_named-in_front name (bytes_item b) rest = refl
all_named-in_front name (element_item tag kids) rest = refl
all_named-in_front name (idle_item t) rest = all_named-⊕ name (idle_nodes t) rest

pub first_within-in_front : (name : List ℕ) (x : Item) (rest : Nodes) → first_within name (in_front x rest) ≡ or_else (item_within name x) (first_within name rest)
first_within-in_front name (bytes_item b) rest = refl
first_within-in_front name (element_item tag kids) rest = refl
first_within-in_front name (idle_item t) rest = first_within-⊕ name (idle_nodes t) rest

-- ---- the first node has such an element, or has none

pub named-here : (name : List ℕ) (nodes : Nodes) (x : Item) (rest : Nodes) (e : Element) → nodes ≡ in_front x rest → item_first name x ≡ Some e → first_named name nodes ≡ Some e
named-here name nodes x rest e is here = ap (first_named name) is ∙ first_named-in_front name x rest ∙ ap (λ o. or_else o (first_named name rest)) here

pub named-later : (name : List ℕ) (nodes : Nodes) (x : Item) (rest : Nodes) → nodes ≡ in_front x rest → item_first name x ≡ None → first_named name rest ≡ first_named name nodes
named-later name nodes x rest is none = sym (ap (first_named name) is ∙ first_named-in_front name x rest ∙ ap (λ o. or_else o (first_named name rest)) none)

pub within-here : (name : List ℕ) (nodes : Nodes) (x : Item) (rest : Nodes) (e : Element) → nodes ≡ in_front x rest → item_within name x ≡ Some e → first_within name nodes ≡ Some e
within-here name nodes x rest e is here = ap (first_within name) is ∙ first_within-in_front name x rest ∙ ap (λ o. or_else o (first_within name rest)) here

pub within-later : (name : List ℕ) (nodes : Nodes) (x : Item) (rest : Nodes) → nodes ≡ in_front x rest → item_within name x ≡ None → first_within name rest ≡ first_within name nodes
within-later name nodes x rest is none = sym (ap (first_within name) is ∙ first_within-in_front name x rest ∙ ap (λ o. or_else o (first_within name rest)) none)

-- ---- an element has the name, or has not

pub yes-named : (name : List ℕ) (tag : Tag) (kids : Nodes) → named name tag ≡ true → if_named name tag kids ≡ Some (record { tag = tag; kids = kids })
yes-named name tag kids h = ap (λ (b : Bool). if b then Some (record { tag = tag; kids = kids }) else None) h

pub not-named : (name : List ℕ) (tag : Tag) (kids : Nodes) → named name tag ≡ false → if_named name tag kids ≡ None
not-named name tag kids h = ap (λ (b : Bool). if b then Some (record { tag = tag; kids = kids }) else None) h
