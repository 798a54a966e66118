-- The walk over nodes one after the other.
use Rattle.std.proofs.Common.{◌≡◌, refl, Bool}
use Rattle.redl_tree.specs.Model.IdleTexts.{idle_nodes}
use Rattle.redl_tree.specs.Model.Nodes.{Nodes, no_nodes, bytes, element, Item, bytes_item, element_item, idle_item, in_front, ◌⊕◌}
use Rattle.redl_spans.specs.Inside.Items.{item_walked}
use Rattle.redl_spans.specs.Units.{text_steps}
use Rattle.redl_spans.specs.Walks.{Walk, element_walked, stepped, walked}

walked-⊕ : (in_text : Bool) (x y : Nodes) (w : Walk) → walked in_text (x ⊕ y) w ≡ walked in_text y (walked in_text x w)
walked-⊕ in_text no_nodes y w = refl
walked-⊕ in_text (bytes b rest) y w = walked-⊕ in_text rest y (stepped (text_steps in_text b) w)
walked-⊕ in_text (element tag kids rest) y w = walked-⊕ in_text rest y (element_walked tag kids w)

pub walked-in_front : (in_text : Bool) (x : Item) (rest : Nodes) (w : Walk) → walked in_text (in_front x rest) w ≡ walked in_text rest (item_walked in_text x w)
walked-in_front in_text (bytes_item b) rest w = refl
walked-in_front in_text (element_item tag kids) rest w = refl
walked-in_front in_text (idle_item t) rest w = walked-⊕ in_text (idle_nodes t) rest w
