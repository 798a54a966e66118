-- Members and markers among nodes, a node at a time.
use Rattle.std.proofs.Common.{◌≡◌, ◌∙◌, ℕ, List, Bool, false, refl, sym, ap, ◌||◌}
use Rattle.std.proofs.Math.Bool.{or_assoc}
use Rattle.redl_tree.specs.Leaves.Settings.{has_member}
use Rattle.redl_tree.specs.Model.IdleTexts.{idle_nodes}
use Rattle.redl_tree.specs.Model.Nodes.{Nodes, no_nodes, bytes, element, Item, bytes_item, element_item, idle_item, in_front, ◌⊕◌}
use Rattle.redl_tree.proofs.Idle.Items.{nodes_are_idle}
use Rattle.redl_tree.proofs.Idle.Lists.{no_member}
use Rattle.redl_leaves.specs.Members.{item_member}

member-⊕ : (is_set : ℕ → Bool) (xs ys : Nodes) → has_member is_set (xs ⊕ ys) ≡ (has_member is_set xs || has_member is_set ys)
member-⊕ is_set no_nodes ys = refl
member-⊕ is_set (bytes b rest) ys = member-⊕ is_set rest ys
member-⊕ is_set (element tag kids rest) ys =
    ap (λ b. is_set tag.rev || has_member is_set kids || b) (member-⊕ is_set rest ys)
    ∙ sym (or_assoc (is_set tag.rev || has_member is_set kids) (has_member is_set rest) (has_member is_set ys))

-- a revision is in nodes that begin with this item if it is in the item or in the rest
pub member-in_front : (is_set : ℕ → Bool) (x : Item) (ys : Nodes) → has_member is_set (in_front x ys) ≡ (item_member is_set x || has_member is_set ys)
member-in_front is_set (bytes_item b) ys = refl
member-in_front is_set (element_item tag kids) ys = refl
member-in_front is_set (idle_item t) ys = member-⊕ is_set (idle_nodes t) ys

-- numbers of revisions begin with 1, and idle elements are in none
pub no_idle_member : (is_set : ℕ → Bool) → is_set 0 ≡ false → (t : List ℕ) → item_member is_set (idle_item t) ≡ false
no_idle_member is_set none t = no_member is_set none false (idle_nodes t) (nodes_are_idle t)
