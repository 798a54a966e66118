-- References among nodes one after the other, and among idle elements, which are kept as text.
use Rattle.std.proofs.Common.{◌≡◌, ◌∙◌, refl, sym, ap, ℕ, List, [], ◌++◌, append_assoc, append-nil, Bool, true, false, if◌then◌else◌}
use Rattle.redl_tree.specs.Model.Nodes.{Tag, Nodes, no_nodes, bytes, element, Item, bytes_item, element_item, idle_item, in_front, ◌⊕◌}
use Rattle.redl_tree.specs.Model.IdleTexts.{idle_nodes}
use Rattle.redl_tree.specs.Roles.Names.{is}
use Rattle.redl_tree.specs.Roles.Idle.{is_idle_in}
use Rattle.redl_tree.proofs.Idle.Tags.{Idle, idle_parts}
use Rattle.redl_tree.proofs.Idle.Items.{nodes_are_idle}
use Rattle.redl_idle.specs.Shows.{shows}
use Rattle.redl_order.specs.References.{named_by, named_of, references}
use Rattle.redl_order.specs.declared.find.Anywhere.{Anywhere}
use Rattle.redl_order.specs.declared.reference.Reference.{Reference}
use Rattle.redl_order.specs.Inside.Encoded.{encoded, encoded-append, idle_rule}
use Rattle.redl_order.specs.Inside.Items.{item_references}

-- ---- nodes one after the other

references-⊕ : (x y : Nodes) → references (x ⊕ y) ≡ references x ++ references y
references-⊕ no_nodes y = refl
references-⊕ (bytes b rest) y = references-⊕ rest y
references-⊕ (element tag kids rest) y =
    ap (λ (rs : List Reference). (named_of tag ++ references kids) ++ rs) (references-⊕ rest y)
    ∙ sym (append_assoc (named_of tag ++ references kids) (references rest) (references y))

pub references-in_front : (x : Item) (rest : Nodes) → references (in_front x rest) ≡ item_references x ++ references rest
references-in_front (bytes_item b) rest = refl
references-in_front (element_item tag kids) rest = refl
references-in_front (idle_item t) rest = references-⊕ (idle_nodes t) rest

-- ---- idle elements

named_idle : (in_run : Bool) (tag : Tag) → Idle in_run tag → named_of tag ≡ named_by tag.local tag.tail
named_idle in_run tag i = ap (λ w. if w then named_by tag.local tag.tail else []) i.space

shown_by : (below : Anywhere) (in_run : Bool) (x : Nodes) → is_idle_in in_run x ≡ true → shows idle_rule below x ≡ encoded (references x)
shown_by below in_run no_nodes h = refl
shown_by below in_run (bytes b rest) h = shown_by below in_run rest h
shown_by below in_run (element tag kids rest) h =
    let p = idle_parts in_run tag kids rest h in
    let own = named_by tag.local tag.tail in
    ap (λ (s : List ℕ). (encoded own ++ (s ++ [])) ++ shows idle_rule below rest) (shown_by below (is "r" tag) kids p.below)
    ∙ ap (λ (s : List ℕ). (encoded own ++ s) ++ shows idle_rule below rest) (append-nil (encoded (references kids)))
    ∙ ap (λ (s : List ℕ). (encoded own ++ encoded (references kids)) ++ s) (shown_by below in_run rest p.later)
    ∙ ap (λ (s : List ℕ). s ++ encoded (references rest)) (sym (encoded-append own (references kids)))
    ∙ sym (encoded-append (own ++ references kids) (references rest))
    ∙ ap (λ (rs : List Reference). encoded ((rs ++ references kids) ++ references rest)) (sym (named_idle in_run tag p.own))

-- the walk over a kept text shows the references of its nodes
pub shown_idle : (below : Anywhere) (t : List ℕ) → shows idle_rule below (idle_nodes t) ≡ encoded (references (idle_nodes t))
shown_idle below t = shown_by below false (idle_nodes t) (nodes_are_idle t)
