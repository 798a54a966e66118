-- The leaves of nodes are those of the first node, and those of the nodes behind it.
use Rattle.std.proofs.Common.{◌≡◌, ℕ, List, [], ◌∷◌, ◌++◌, Option, refl, sym, ap, ◌∙◌, append_assoc}
use Rattle.redl_properties.specs.declared.attribute.Leaf.{Leaf}
use Rattle.redl_tree.specs.Model.IdleTexts.{idle_nodes}
use Rattle.redl_tree.specs.Model.Nodes.{Nodes, no_nodes, bytes, element, Item, bytes_item, element_item, idle_item, in_front, ◌⊕◌}
use Rattle.redl_tree.specs.declared.kinds.Prop.{Prop}
use Rattle.redl_changed.specs.Kept.{KeptLeaves, kept_after, with_leaf}
use Rattle.redl_changed.specs.Leaves.{element_leaves, item_leaves, leaves_in}

pub leaves-⊕ : (what : Prop) (path : List ℕ) (x y : Nodes) → leaves_in what path (x ⊕ y) ≡ leaves_in what path x ++ leaves_in what path y
leaves-⊕ what path no_nodes y = refl
leaves-⊕ what path (bytes b rest) y = leaves-⊕ what path rest y
leaves-⊕ what path (element tag kids rest) y =
    ap (λ (later : List (Option Leaf)). element_leaves what path tag kids ++ later) (leaves-⊕ what path rest y)
    ∙ sym (append_assoc (element_leaves what path tag kids) (leaves_in what path rest) (leaves_in what path y))

pub leaves-in_front : (what : Prop) (path : List ℕ) (item : Item) (rest : Nodes)
    → leaves_in what path (in_front item rest) ≡ item_leaves what path item ++ leaves_in what path rest
leaves-in_front what path (bytes_item b) rest = refl
leaves-in_front what path (element_item tag kids) rest = refl
leaves-in_front what path (idle_item t) rest = leaves-⊕ what path (idle_nodes t) rest

-- leaves are kept one after the other
pub kept-append : (kept : KeptLeaves) (first rest : List (Option Leaf)) → kept_after kept (first ++ rest) ≡ kept_after (kept_after kept first) rest
kept-append kept [] rest = refl
kept-append kept (leaf ∷ first) rest = kept-append (with_leaf kept leaf) first rest

-- the leaves of one node more are kept, and those of the nodes behind it are left
pub one_more : (what : Prop) (path : List ℕ) (old new whole : KeptLeaves) (item : Item) (left rest : Nodes) → left ≡ in_front item rest
    → new ≡ kept_after old (item_leaves what path item) → kept_after old (leaves_in what path left) ≡ whole → kept_after new (leaves_in what path rest) ≡ whole
one_more what path old new whole item left rest front grown so_far =
    ap (λ (kept : KeptLeaves). kept_after kept (leaves_in what path rest)) grown
    ∙ sym (kept-append old (item_leaves what path item) (leaves_in what path rest))
    ∙ ap (kept_after old) (sym (leaves-in_front what path item rest) ∙ ap (leaves_in what path) (sym front))
    ∙ so_far
