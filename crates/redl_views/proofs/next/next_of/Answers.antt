use denote.Enum.Bare.{sameb, same_true}
use Rattle.std.proofs.Common.{rules, ◌≡◌, ◌∙◌, ◌+◌, Bool, true, false, not, refl, drop, ap, sym, arith}
use Rattle.redl_tree.specs.Model.View.{nodes_of, item_of}
use Rattle.redl_tree.proofs.Model.Laws.{nodes_here}
use Rattle.redl_views.specs.contracts.next.Next.{the_type}
use Rattle.redl_views.specs.declared.next.Next.TheVariants.{Nothing}
use Rattle.redl_views.specs.Walks.{next_of, or_next}
use Rattle.redl_views.proofs.WalkLaws.{next-in_front}
use Rattle.redl_views.proofs.next.next_of.Goals as goal

both : (b : Bool) → false ≡ not b → b ≡ true
both true e = refl
both false e = absurd cc

pub loop-node-preserved : goal.loop-node-preserved
loop-node-preserved c =
    let nodes = c.args.nodes.now in
    let i = c.loop-node.node-index in
    let x = c.node-item.result in
    let rest = nodes_of (drop (i + 1) nodes) in
    let here = nodes_here nodes i x (omega arith) c.node-item.is in
    let none : c.next_node-next.result ≡ Nothing = same_true the_type (search rules) _ _ (both (sameb the_type c.next_node-next.result Nothing) c.if-ne.ensures) in
    sym (ap (λ n. or_next n (next_of c.args.says.now c.args.above rest)) (sym c.next_node-next.ensures ∙ none))
    ∙ sym (next-in_front c.args.says.now c.args.above (item_of x) rest) ∙ ap (next_of c.args.says.now c.args.above) (sym here) ∙ c.loop-node.invariant
