-- One node after another.
use Rattle.std.proofs.Common.{◌≡◌, ◌||◌, true, false, sym, ap, ◌∙◌}
use Rattle.redl_laid.specs.Firsts.{first_item}
use Rattle.redl_tree.specs.Model.Folds.{nodes_in}
use Rattle.redl_tree.specs.Model.Kids.{has_element}
use Rattle.redl_tree.specs.Model.Nodes.{in_front, no_nodes}
use Rattle.redl_tree.specs.declared.kinds.Space.TheVariants.{W}
use Rattle.redl_tree.proofs.Model.KeptLaws.{has-in_front}
use Rattle.redl_changed.proofs.laid.has_elements_in.Goals as goal

pub loop-first-preserved : goal.loop-first-preserved
loop-first-preserved c =
    let x = first_item c.in-Some.first in
    let rest = nodes_in W c.in-Some.rest in
    let e : has_element (in_front x no_nodes) ≡ false = sym c.is_element.ensures ∙ c.if-is_element.false in
    sym (ap has_element c.in-Some.ensures.some ∙ has-in_front x rest ∙ ap (λ b. b || has_element rest) e) ∙ c.loop-first.invariant

pub returns-then-is_element : goal.returns-then-is_element
returns-then-is_element c =
    let x = first_item c.in-Some.first in
    let rest = nodes_in W c.in-Some.rest in
    let e : has_element (in_front x no_nodes) ≡ true = sym c.is_element.ensures ∙ c.if-is_element.true in
    sym (ap has_element c.in-Some.ensures.some ∙ has-in_front x rest ∙ ap (λ b. b || has_element rest) e) ∙ c.loop-first.invariant
