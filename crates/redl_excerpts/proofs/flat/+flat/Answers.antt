-- Nodes are flat where the first one is, and those after it are.
use Rattle.std.proofs.Common.{◌≡◌, ◌<◌, ◌∙◌, ◌+◌, ◌&&◌, ℕ, List, Option, length, get_or, drop, Bool, arith, sym, ap}
use Rattle.redl_tree.specs.Model.View.{item_of, nodes_of}
use Rattle.redl_tree.specs.declared.node.Node.{Node}
use Rattle.redl_tree.proofs.Model.Laws.{nodes_here}
use Rattle.redl_excerpts.specs.declared.excerpt.Excerpt.{Excerpt}
use Rattle.redl_excerpts.specs.Inside.Flat.{are_flat, is_flat}
use Rattle.redl_excerpts.proofs.FlatLaws.{flat-in_front}
use Rattle.redl_excerpts.proofs.flat.+flat.Goals as goal

step : (excerpts : List (Option Excerpt)) (nodes : List Node) (i : ℕ) (x : Node) (b : Bool) → i < length nodes → x ≡ get_or nodes i x → b ≡ is_flat excerpts (item_of x)
    → are_flat excerpts (nodes_of (drop i nodes)) ≡ (b && are_flat excerpts (nodes_of (drop (i + 1) nodes)))
step excerpts nodes i x b within is flat =
    ap (are_flat excerpts) (nodes_here nodes i x within is) ∙ flat-in_front excerpts (item_of x) (nodes_of (drop (i + 1) nodes))
    ∙ ap (λ own. own && are_flat excerpts (nodes_of (drop (i + 1) nodes))) (sym flat)

pub are_flat-loop-node-preserved : goal.are_flat-loop-node-preserved
are_flat-loop-node-preserved t c =
    let excerpts = c.args.excerpts.now in
    let nodes = c.args.nodes.now in
    let i = c.loop-node.node-index in
    sym (step excerpts nodes i c.node-item.result c.is_flat.result (omega arith) c.node-item.is c.is_flat.ensures
    ∙ ap (λ own. own && are_flat excerpts (nodes_of (drop (i + 1) nodes))) c.if-not-is_flat.false)
    ∙ c.loop-node.invariant

pub are_flat-returns-then-not-is_flat : goal.are_flat-returns-then-not-is_flat
are_flat-returns-then-not-is_flat t c =
    let excerpts = c.args.excerpts.now in
    let nodes = c.args.nodes.now in
    let i = c.loop-node.node-index in
    sym (step excerpts nodes i c.node-item.result c.is_flat.result (omega arith) c.node-item.is c.is_flat.ensures
    ∙ ap (λ own. own && are_flat excerpts (nodes_of (drop (i + 1) nodes))) c.if-not-is_flat.true)
    ∙ c.loop-node.invariant
