-- Signs in one node, and those that the walk over kept text shows: one byte for each.
use Rattle.std.specs.Prelude.{ℕ, ◌&&◌, ◌||◌, not, Bool, false, List, [], ◌∷◌, if◌then◌else◌}
use Rattle.redl_tree.specs.Model.IdleTexts.{idle_nodes}
use Rattle.redl_tree.specs.Model.Nodes.{Tag, Nodes, Item, bytes_item, element_item, idle_item}
use Rattle.redl_tree.specs.Roles.Names.{is, of_w}
use Rattle.redl_tree.specs.Roles.Places.{is_quiet}
use Rattle.redl_idle.specs.Shows.{ShowRule}
use Rattle.redl_clauses.specs.Signs.{has_sign, is_sign, is_sign_name}
use Rattle.redl_clauses.specs.declared.signs.Below.{Below}

abbrev pub element_has_sign : Tag → Nodes → Bool
element_has_sign tag kids = not (is_quiet tag) && (is_sign tag || has_sign kids)

abbrev pub item_has_sign : Item → Bool
item_has_sign (bytes_item b) = false
item_has_sign (element_item tag kids) = element_has_sign tag kids
item_has_sign (idle_item t) = has_sign (idle_nodes t)

-- an idle element holds properties only as those of a run
abbrev pub inside_idle : Below → List ℕ → Below
inside_idle below local = record { quiet = below.quiet || is "rPr" (of_w local) }

abbrev pub sign_shown : Bool → List ℕ
sign_shown sign = if sign then 32 ∷ [] else []

abbrev pub sign_rule : ShowRule Below
sign_rule = record {
  bytes = λ below b. [];
  start = λ below local tail kids. sign_shown (not (inside_idle below local).quiet && is_sign_name local);
  inside = λ below local tail kids. inside_idle below local;
  end = λ below. [];
}
