use Rattle.std.proofs.Common.{◌≡◌, ◌-◌, [], ◌∷◌, nat_lt, sym, ap, ◌∙◌, arith}
use Rattle.std.proofs.lemmas.List.{nil_from_length}
use Rattle.std.specs.Vec.Iter.{into_iter_items}
use Rattle.redl_paras.proofs.ChainLaws.{grouped-more}
use Rattle.redl_paras.proofs.EndLaws.{grouped-end, grouped-left}
use Rattle.redl_paras.specs.Pieces.{pieces_of, held_nodes, is_other, paras_of}
use Rattle.redl_tree.proofs.Decisions.GroupLaws.{beside-grouped}
use Rattle.redl_tree.proofs.Model.Laws.{⊕-no_nodes, built_more}
use Rattle.redl_tree.specs.Decisions.Beside.{bytes_beside}
use Rattle.redl_tree.specs.Decisions.Groups.{grouped_from}
use Rattle.redl_tree.specs.Model.Kids.{some_element}
use Rattle.redl_tree.specs.Roles.Names.{is}
use Rattle.redl_tree.specs.Model.Nodes.{◌⊕◌}
use Rattle.redl_tree.specs.Rules.CellEnds.{end_of}
use Rattle.redl_tree.specs.Model.View.{nodes_of}
use Rattle.redl_tree.specs.declared.lists.Reach.TheVariants.{Direct}
use Rattle.redl_paras.proofs.grouping.group.Goals as goal

pub loop-piece-preserved : goal.loop-piece-preserved
loop-piece-preserved c =
    let piece = c.in-Some.piece in
    let rest = into_iter_items c.next.new.self in
    let here : into_iter_items c.loop-piece.piece-iterator ≡ piece ∷ rest = c.in-Some.ensures.steps.0 in
    let followed = is_other c.args.next in
    let held = held_nodes c.loop-piece.held in
    let later = c.loop-piece.left - c.paras_in-left.result in
    let left : later ≡ paras_of rest = omega (arith, c.loop-piece.invariant.left, ap paras_of here, c.paras_in-left.ensures) in
    record {
      left = left;
      made = ap (λ h. nodes_of c.add.new.made.items ⊕ grouped_from followed h (pieces_of rest)) c.in_ok-held.ensures.held
          ∙ built_more _ _ _ c.in_ok-held.ensures.made
          (ap (λ ps. grouped_from followed held (pieces_of ps)) here ∙ grouped-more followed held piece rest (nat_lt 0 later) (ap (λ n. nat_lt 0 n) left))
          c.loop-piece.invariant.made;
    }

pub returns-clause-whole : goal.returns-clause-whole
returns-clause-whole c =
    let none : into_iter_items c.loop-piece.piece-iterator ≡ [] = nil_from_length _ (sym c.loop-piece.piece-iterator.rest.ok.0 ∙ c.in-None.ensures.steps.0) in
    let made = nodes_of c.loop-piece.made.items in
    sym (⊕-no_nodes made) ∙ ap (λ ps. made ⊕ grouped_from (is_other c.args.next) (held_nodes c.loop-piece.held) (pieces_of ps)) (sym none)
    ∙ c.loop-piece.invariant.made

pub returns-clause-bytes : goal.returns-clause-bytes
returns-clause-bytes c = λ named. ap bytes_beside (returns-clause-whole c) ∙ beside-grouped (is_other c.args.next) (pieces_of c.args.chain.items) named

pub returns-clause-left : goal.returns-clause-left
returns-clause-left c = λ chain keeps. ap (some_element (is "p")) (returns-clause-whole c) ∙ grouped-left (is_other c.args.next) (pieces_of c.args.chain.items) chain keeps

pub returns-clause-end : goal.returns-clause-end
returns-clause-end c = λ chain left.
    let whole = returns-clause-whole c in
    ap (end_of Direct) whole ∙ grouped-end (is_other c.args.next) (pieces_of c.args.chain.items) chain (sym (ap (some_element (is "p")) whole) ∙ left)
