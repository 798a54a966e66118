-- What a walk of a kept text shows is the fold over its nodes. It is long because each step can end, fail, or meet a tag or a text.
use Rattle.std.proofs.Common.{◌≡◌, ◌∙◌, ◌++◌, [], length, append-nil, arith, sym, ap, subst, refl, Some, Ok}
use Rattle.redl_idle.specs.Takes.{Takes}
use Rattle.redl_idle.proofs.TakeLaws.{takes_then, takes_fails, takes_as}
use Rattle.redl_idle.specs.Shows.{shows}
use Rattle.redl_grammar.specs.declared.section.Section.TheVariants.{InElement}
use Rattle.redl_markup.specs.declared.bare.BarePiece as bare
use Rattle.redl_markup.specs.PieceViews.{bare_view}
use Rattle.redl_grammar.specs.ScanPieces.{piece_at}
use Rattle.redl_grammar.proofs.Pieces.{piece_shorter}
use Rattle.redl_tree.specs.Model.Nodes.{no_nodes}
use Rattle.redl_idle.specs.Ahead.{IsNode, node_shows}
use Rattle.redl_idle.proofs.AheadLaws.{first_there, after_short, there_gives, gives_this, some_bytes, no_bytes}
use Rattle.redl_idle.proofs.ShowLaws.{element-inside, by_tag, all_left, node_here, one_more, node_stops, shown_to_tag, shown_to_end}
use Rattle.redl_idle.proofs.walk.+show.Goals as goal

pub show_elem-returns-in_err-inside-clause-puts : goal.show_elem-returns-in_err-inside-clause-puts
show_elem-returns-in_err-inside-clause-puts g t c = λ kids.
    let inside = (g.S.Shows.rule).inside c.args.below.now c.args.local.now c.args.tail.now kids.nodes in
    takes_fails g.S.Shows.taking (shows g.S.Shows.rule inside kids.nodes ++ (g.S.Shows.rule).end inside) refl c.from_residual.ensures.1 (c.in_err-inside.ensures.puts kids)

pub show_elem-returns-in_err-after-clause-puts : goal.show_elem-returns-in_err-after-clause-puts
show_elem-returns-in_err-after-clause-puts g t c = λ kids.
    takes_then g.S.Shows.taking (element-inside g.S.Shows.taking g.S.Shows.rule c.args.below.now c.args.local.now c.args.tail.now kids.nodes c.in_ok-inside.inside (c.in_ok-inside.ensures.inside kids))
    (c.in_ok-inside.ensures.puts kids)
    (takes_fails g.S.Shows.taking ((g.S.Shows.rule).end c.in_ok-inside.inside) refl c.from_residual-in_err-after.ensures.1 (c.in_err-after.ensures.puts kids))

pub show_elem-returns-in_err-leave-clause-puts : goal.show_elem-returns-in_err-leave-clause-puts
show_elem-returns-in_err-leave-clause-puts g t c = λ kids.
    takes_then g.S.Shows.taking (element-inside g.S.Shows.taking g.S.Shows.rule c.args.below.now c.args.local.now c.args.tail.now kids.nodes c.in_ok-inside.inside (c.in_ok-inside.ensures.inside kids))
    (c.in_ok-inside.ensures.puts kids)
    (takes_then g.S.Shows.taking refl (c.in_ok-after.ensures.puts kids) (takes_fails g.S.Shows.taking [] (sym (append-nil _)) c.from_residual-in_err-leave.ensures.1 c.in_err-leave.ensures))

pub show_elem-returns-clause-puts : goal.show_elem-returns-clause-puts
show_elem-returns-clause-puts g t c = λ kids.
    takes_then g.S.Shows.taking (element-inside g.S.Shows.taking g.S.Shows.rule c.args.below.now c.args.local.now c.args.tail.now kids.nodes c.in_ok-inside.inside (c.in_ok-inside.ensures.inside kids))
    (c.in_ok-inside.ensures.puts kids)
    (takes_then g.S.Shows.taking refl (c.in_ok-after.ensures.puts kids) (takes_as g.S.Shows.taking c.in_ok-leave.ensures))

pub show_nodes-loop-left-init : goal.show_nodes-loop-left-init
show_nodes-loop-left-init g t c = record {
  short = omega arith;
  begins = λ begin. all_left g.S.Shows.taking g.S.Shows.rule c.args.below.now c.args.out.now c.args.text.now begin;
}

pub show_nodes-known_piece-requires : goal.show_nodes-known_piece-requires
show_nodes-known_piece-requires g t c =
    let left = c.loop-left.left.now in
    first_there left (c.loop-left.invariant.begins c.requires).begins (some_bytes c.is_empty.result left c.is_empty.ensures c.loop-left-test.true)

pub show_nodes-unwrap-piece-requires : goal.show_nodes-unwrap-piece-requires
show_nodes-unwrap-piece-requires g t c =
    let left = c.loop-left.left.now in
    there_gives (λ x. (bare_view x.0, x.1.now)) c.known_piece.result (piece_at InElement left) c.known_piece.ensures
    (first_there left (c.loop-left.invariant.begins c.requires).begins (some_bytes c.is_empty.result left c.is_empty.ensures c.loop-left-test.true))

pub show_nodes-returns-then-is_end-clause-puts : goal.show_nodes-returns-then-is_end-clause-puts
show_nodes-returns-then-is_end-clause-puts g t c = λ begin.
    let left = c.loop-left.left.now in
    let x = c.unwrap-piece.result in
    let read : piece_at InElement left ≡ Some (bare_view x.0, x.1.now) = gives_this (λ y. (bare_view y.0, y.1.now)) c.known_piece.result (piece_at InElement left) x c.known_piece.ensures c.unwrap-piece.ensures in
    let ends = sym c.is_end.ensures ∙ c.if-is_end.true in
    (shown_to_tag g.S.Shows.taking g.S.Shows.rule c.args.below.now c.args.out.now c.loop-left.out c.args.text.now left begin (c.loop-left.invariant.begins begin) (bare_view x.0) x.1.now read ends x.1).puts

pub show_nodes-returns-then-is_end-clause-behind : goal.show_nodes-returns-then-is_end-clause-behind
show_nodes-returns-then-is_end-clause-behind g t c = λ begin.
    let left = c.loop-left.left.now in
    let x = c.unwrap-piece.result in
    let read : piece_at InElement left ≡ Some (bare_view x.0, x.1.now) = gives_this (λ y. (bare_view y.0, y.1.now)) c.known_piece.result (piece_at InElement left) x c.known_piece.ensures c.unwrap-piece.ensures in
    let ends = sym c.is_end.ensures ∙ c.if-is_end.true in
    (shown_to_tag g.S.Shows.taking g.S.Shows.rule c.args.below.now c.args.out.now c.loop-left.out c.args.text.now left begin (c.loop-left.invariant.begins begin) (bare_view x.0) x.1.now read ends x.1).left

pub show_nodes-show_node-requires : goal.show_nodes-show_node-requires
show_nodes-show_node-requires g t c κs within =
    let left = c.loop-left.left.now in
    let x = c.unwrap-piece.result in
    let read : piece_at InElement left ≡ Some (bare_view x.0, x.1.now) = gives_this (λ y. (bare_view y.0, y.1.now)) c.known_piece.result (piece_at InElement left) x c.known_piece.ensures c.unwrap-piece.ensures in
    let goes = sym c.is_end.ensures ∙ c.if-is_end.false in
    let shorter = piece_shorter InElement left (bare_view x.0, x.1.now) read in
    let node = node_here g.S.Shows.taking g.S.Shows.rule c.args.below.now c.args.out.now c.loop-left.out c.args.text.now left c.requires (c.loop-left.invariant.begins c.requires) (bare_view x.0) x.1.now read goes in
    (omega (arith, c.decreases, shorter, c.loop-left.invariant.short), (within.0, (within.1.0, (within.1.1, node))))

pub show_nodes-returns-in_err-left-clause-puts : goal.show_nodes-returns-in_err-left-clause-puts
show_nodes-returns-in_err-left-clause-puts g t c = λ begin.
    let left = c.loop-left.left.now in
    let x = c.unwrap-piece.result in
    let read : piece_at InElement left ≡ Some (bare_view x.0, x.1.now) = gives_this (λ y. (bare_view y.0, y.1.now)) c.known_piece.result (piece_at InElement left) x c.known_piece.ensures c.unwrap-piece.ensures in
    let goes = sym c.is_end.ensures ∙ c.if-is_end.false in
    node_stops g.S.Shows.taking g.S.Shows.rule c.args.below.now c.args.out.now c.loop-left.out c.show_node.new.out c.args.text.now left begin (c.loop-left.invariant.begins begin) (bare_view x.0) x.1.now read goes _ c.from_residual.result c.from_residual.ensures.1 c.in_err-left.ensures.puts

pub show_nodes-loop-left-smaller : goal.show_nodes-loop-left-smaller
show_nodes-loop-left-smaller g t c =
    let left = c.loop-left.left.now in
    let x = c.unwrap-piece.result in
    let read : piece_at InElement left ≡ Some (bare_view x.0, x.1.now) = gives_this (λ y. (bare_view y.0, y.1.now)) c.known_piece.result (piece_at InElement left) x c.known_piece.ensures c.unwrap-piece.ensures in
    let goes = sym c.is_end.ensures ∙ c.if-is_end.false in
    let shorter = piece_shorter InElement left (bare_view x.0, x.1.now) read in
    let node = node_here g.S.Shows.taking g.S.Shows.rule c.args.below.now c.args.out.now c.loop-left.out c.args.text.now left c.requires (c.loop-left.invariant.begins c.requires) (bare_view x.0) x.1.now read goes in
    omega (arith, shorter, after_short (bare_view x.0) x.1.now node, ap length (c.in_ok-left.ensures.after node))

pub show_nodes-loop-left-preserved : goal.show_nodes-loop-left-preserved
show_nodes-loop-left-preserved g t c =
    let left = c.loop-left.left.now in
    let x = c.unwrap-piece.result in
    let read : piece_at InElement left ≡ Some (bare_view x.0, x.1.now) = gives_this (λ y. (bare_view y.0, y.1.now)) c.known_piece.result (piece_at InElement left) x c.known_piece.ensures c.unwrap-piece.ensures in
    let goes = sym c.is_end.ensures ∙ c.if-is_end.false in
    let shorter = piece_shorter InElement left (bare_view x.0, x.1.now) read in
    let node = node_here g.S.Shows.taking g.S.Shows.rule c.args.below.now c.args.out.now c.loop-left.out c.args.text.now left c.requires (c.loop-left.invariant.begins c.requires) (bare_view x.0) x.1.now read goes in
    record {
      short = omega (arith, shorter, after_short (bare_view x.0) x.1.now node, ap length (c.in_ok-left.ensures.after node), c.loop-left.invariant.short);
      begins = λ begin. one_more g.S.Shows.taking g.S.Shows.rule c.args.below.now c.args.out.now c.loop-left.out c.show_node.new.out c.args.text.now left begin (c.loop-left.invariant.begins begin) (bare_view x.0) x.1.now read goes c.in_ok-left.left.now c.in_ok-left.left c.in_ok-left.ensures.puts c.in_ok-left.ensures.after;
    }

pub show_nodes-returns-clause-puts : goal.show_nodes-returns-clause-puts
show_nodes-returns-clause-puts g t c = λ begin.
    let none = no_bytes c.is_empty.result c.loop-left.left.now c.is_empty.ensures c.loop-left-test.false in
    (shown_to_end g.S.Shows.taking g.S.Shows.rule c.args.below.now c.args.out.now c.loop-left.out c.args.text.now c.loop-left.left.now begin (c.loop-left.invariant.begins begin) none c.loop-left.left).puts

pub show_nodes-returns-clause-behind : goal.show_nodes-returns-clause-behind
show_nodes-returns-clause-behind g t c = λ begin.
    let none = no_bytes c.is_empty.result c.loop-left.left.now c.is_empty.ensures c.loop-left-test.false in
    (shown_to_end g.S.Shows.taking g.S.Shows.rule c.args.below.now c.args.out.now c.loop-left.out c.args.text.now c.loop-left.left.now begin (c.loop-left.invariant.begins begin) none c.loop-left.left).left

pub show_node-returns-in-Start-clause-puts : goal.show_node-returns-in-Start-clause-puts
show_node-returns-in-Start-clause-puts g t c =
    let tag = c.in-Start.tag in
    let P = λ (p : bare.BarePiece). (node : IsNode (bare_view p) c.args.rest.now) → Takes g.S.Shows.taking c.args.out.now c.show_elem.new.out (node_shows g.S.Shows.rule c.args.below.now (bare_view p) c.args.rest.now node) c.show_elem.result in
    subst P (sym c.in-Start.is) (λ node. by_tag g.S.Shows.taking g.S.Shows.rule c.args.below.now c.args.out.now c.show_elem.new.out c.name.result.local.now tag.name.local c.tail.result.now tag.tail node.nodes c.show_elem.result (ap (λ n. n.local) c.name.ensures) c.tail.ensures (c.show_elem.ensures.puts node))

pub show_node-returns-in_err-show_empty-in-Empty-clause-puts : goal.show_node-returns-in_err-show_empty-in-Empty-clause-puts
show_node-returns-in_err-show_empty-in-Empty-clause-puts g t c =
    let tag = c.in-Empty.tag in
    let P = λ (p : bare.BarePiece). (node : IsNode (bare_view p) c.args.rest.now) → Takes g.S.Shows.taking c.args.out.now c.show_empty.new.out (node_shows g.S.Shows.rule c.args.below.now (bare_view p) c.args.rest.now node) c.from_residual.result in
    subst P (sym c.in-Empty.is) (λ node. by_tag g.S.Shows.taking g.S.Shows.rule c.args.below.now c.args.out.now c.show_empty.new.out c.name-in-Empty.result.local.now tag.name.local c.tail-in-Empty.result.now tag.tail no_nodes c.from_residual.result (ap (λ n. n.local) c.name-in-Empty.ensures) c.tail-in-Empty.ensures
    (takes_fails g.S.Shows.taking [] (sym (append-nil _)) c.from_residual.ensures.1 c.in_err-show_empty-in-Empty.ensures))

pub show_node-returns-in_ok-show_empty-in-Empty-clause-puts : goal.show_node-returns-in_ok-show_empty-in-Empty-clause-puts
show_node-returns-in_ok-show_empty-in-Empty-clause-puts g t c =
    let tag = c.in-Empty.tag in
    let P = λ (p : bare.BarePiece). (node : IsNode (bare_view p) c.args.rest.now) → Takes g.S.Shows.taking c.args.out.now c.show_empty.new.out (node_shows g.S.Shows.rule c.args.below.now (bare_view p) c.args.rest.now node) (Ok c.args.rest) in
    subst P (sym c.in-Empty.is) (λ node. by_tag g.S.Shows.taking g.S.Shows.rule c.args.below.now c.args.out.now c.show_empty.new.out c.name-in-Empty.result.local.now tag.name.local c.tail-in-Empty.result.now tag.tail no_nodes (Ok c.args.rest) (ap (λ n. n.local) c.name-in-Empty.ensures) c.tail-in-Empty.ensures
    (takes_as g.S.Shows.taking c.in_ok-show_empty-in-Empty.ensures))

pub show_node-returns-in_err-put_bytes-in-Stretch-clause-puts : goal.show_node-returns-in_err-put_bytes-in-Stretch-clause-puts
show_node-returns-in_err-put_bytes-in-Stretch-clause-puts g t c =
    let P = λ (p : bare.BarePiece). (node : IsNode (bare_view p) c.args.rest.now) → Takes g.S.Shows.taking c.args.out.now c.put_bytes.new.out (node_shows g.S.Shows.rule c.args.below.now (bare_view p) c.args.rest.now node) c.from_residual-in_err-put_bytes-in-Stretch.result in
    subst P (sym c.in-Stretch.is) (λ node. takes_fails g.S.Shows.taking [] (sym (append-nil _)) c.from_residual-in_err-put_bytes-in-Stretch.ensures.1 c.in_err-put_bytes-in-Stretch.ensures)

pub show_node-returns-in_ok-put_bytes-in-Stretch-clause-puts : goal.show_node-returns-in_ok-put_bytes-in-Stretch-clause-puts
show_node-returns-in_ok-put_bytes-in-Stretch-clause-puts g t c =
    let P = λ (p : bare.BarePiece). (node : IsNode (bare_view p) c.args.rest.now) → Takes g.S.Shows.taking c.args.out.now c.put_bytes.new.out (node_shows g.S.Shows.rule c.args.below.now (bare_view p) c.args.rest.now node) (Ok c.args.rest) in
    subst P (sym c.in-Stretch.is) (λ node. takes_as g.S.Shows.taking c.in_ok-put_bytes-in-Stretch.ensures)
