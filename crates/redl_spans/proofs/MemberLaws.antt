-- Members among nodes one after the other, and that no idle element is one.
use Rattle.std.proofs.Common.{◌≡◌, ◌∙◌, refl, sym, ap, List, [], ◌∷◌, ◌++◌, append_assoc, Bool, true, false, if◌then◌else◌}
use Rattle.redl_tree.specs.Model.IdleTexts.{idle_nodes}
use Rattle.redl_tree.specs.Model.Nodes.{Tag, Nodes, no_nodes, bytes, element, Item, bytes_item, element_item, idle_item, in_front, ◌⊕◌}
use Rattle.redl_tree.specs.Roles.Idle.{is_idle_in, is_plain_kind}
use Rattle.redl_tree.specs.Roles.Names.{is}
use Rattle.redl_tree.specs.Roles.Places.{is_quiet}
use Rattle.redl_tree.proofs.Idle.Items.{nodes_are_idle}
use Rattle.redl_tree.proofs.Idle.Tags.{idle_parts}
use Rattle.redl_spans.specs.Inside.Items.{item_members, item_property_members}
use Rattle.redl_spans.specs.Members.{members, own_member, property_members}
use Rattle.redl_spans.specs.declared.member.Member.{Member}

-- ---- at every depth

members-⊕ : (x y : Nodes) → members (x ⊕ y) ≡ members x ++ members y
members-⊕ no_nodes y = refl
members-⊕ (bytes b rest) y = members-⊕ rest y
members-⊕ (element tag kids rest) y =
    let own = own_member tag ++ members kids in
    ap (λ (ms : List Member). own ++ ms) (members-⊕ rest y) ∙ sym (append_assoc own (members rest) (members y))

pub idle_members : (in_run : Bool) (x : Nodes) → is_idle_in in_run x ≡ true → members x ≡ []
idle_members in_run no_nodes h = refl
idle_members in_run (bytes b rest) h = idle_members in_run rest h
idle_members in_run (element tag kids rest) h =
    let p = idle_parts in_run tag kids rest h in
    ap (λ k. ((if is_plain_kind k then [] else record { kind = k; revision = tag.rev } ∷ []) ++ members kids) ++ members rest) p.own.kind
    ∙ ap (λ (ms : List Member). ms ++ members rest) (idle_members (is "r" tag) kids p.below)
    ∙ idle_members in_run rest p.later

pub members-in_front : (x : Item) (rest : Nodes) → members (in_front x rest) ≡ item_members x ++ members rest
members-in_front (bytes_item b) rest = refl
members-in_front (element_item tag kids) rest = refl
members-in_front (idle_item t) rest =
    members-⊕ (idle_nodes t) rest ∙ ap (λ (ms : List Member). ms ++ members rest) (idle_members false (idle_nodes t) (nodes_are_idle t))

-- ---- in properties

abbrev in_properties : Tag → Nodes → List Member
in_properties tag kids = if is_quiet tag then members kids else []

property-⊕ : (x y : Nodes) → property_members (x ⊕ y) ≡ property_members x ++ property_members y
property-⊕ no_nodes y = refl
property-⊕ (bytes b rest) y = property-⊕ rest y
property-⊕ (element tag kids rest) y =
    ap (λ (ms : List Member). in_properties tag kids ++ ms) (property-⊕ rest y)
    ∙ sym (append_assoc (in_properties tag kids) (property_members rest) (property_members y))

none_either : (b : Bool) → (let none : List Member = [] in (if b then none else none) ≡ none)
none_either true = refl
none_either false = refl

pub idle_property_members : (in_run : Bool) (x : Nodes) → is_idle_in in_run x ≡ true → property_members x ≡ []
idle_property_members in_run no_nodes h = refl
idle_property_members in_run (bytes b rest) h = idle_property_members in_run rest h
idle_property_members in_run (element tag kids rest) h =
    let p = idle_parts in_run tag kids rest h in
    ap (λ (ms : List Member). (if is_quiet tag then ms else []) ++ property_members rest) (idle_members (is "r" tag) kids p.below)
    ∙ ap (λ (ms : List Member). ms ++ property_members rest) (none_either (is_quiet tag))
    ∙ idle_property_members in_run rest p.later

pub property-in_front : (x : Item) (rest : Nodes) → property_members (in_front x rest) ≡ item_property_members x ++ property_members rest
property-in_front (bytes_item b) rest = refl
property-in_front (element_item tag kids) rest = refl
property-in_front (idle_item t) rest =
    property-⊕ (idle_nodes t) rest ∙ ap (λ (ms : List Member). ms ++ property_members rest) (idle_property_members false (idle_nodes t) (nodes_are_idle t))
