use Rattle.std.proofs.Common.{◌≡◌, ◌∙◌, ap, sym, true≢false, arith, None}
use Rattle.redl_grammar.specs.declared.section.Section.TheVariants.{InElement}
use Rattle.redl_markup.specs.PieceViews.{bare_view}
use Rattle.redl_grammar.specs.References.{is_there}
use Rattle.redl_grammar.proofs.Pieces.{piece_shorter}
use Rattle.redl_tree.specs.declared.kinds.Space.TheVariants.{W}
use Rattle.redl_laid.specs.Inside.Fronts.{last_white}
use Rattle.redl_laid.proofs.FrontLaws.{inside_begins, inside_goes, inside_ends, ends_parted, piece_there}
use Rattle.redl_laid.proofs.laid.end_of_kids.Goals as goal

pub loop-piece-init : goal.loop-piece-init
loop-piece-init c = λ kids. inside_begins W c.args.bytes.now kids

pub known_piece-requires : goal.known_piece-requires
known_piece-requires c = piece_there W c.args.bytes.now c.requires c.loop-piece.depth c.loop-piece.rest.now (c.loop-piece.invariant c.requires)

pub returns-in_err-piece : goal.returns-in_err-piece
returns-in_err-piece c = λ kids.
    absurd (true≢false (sym (piece_there W c.args.bytes.now c.requires c.loop-piece.depth c.loop-piece.rest.now (c.loop-piece.invariant c.requires)) ∙ ap is_there c.in_err-piece.ensures))

pub returns-in-Some : goal.returns-in-Some
returns-in-Some c = λ kids.
    let ends = inside_ends W c.args.bytes.now kids c.loop-piece.depth c.loop-piece.rest.now (bare_view c.in_ok-piece.piece) c.in-Some.white.now c.in_ok-piece.behind.now (c.loop-piece.invariant kids) c.in_ok-piece.ensures c.in-Some.ensures in
    rw c.before-in-Some.ensures (ends_parted kids c.loop-piece.rest.now c.in-Some.white.now c.in_ok-piece.behind.now ends)

pub depth_after-depth-requires : goal.depth_after-depth-requires
depth_after-depth-requires c =
    let now = c.loop-piece.invariant c.requires in
    let less = piece_shorter InElement c.loop-piece.rest.now (bare_view c.in_ok-piece.piece, c.in_ok-piece.behind.now) c.in_ok-piece.ensures in
    omega (arith, now.few, less)

pub loop-piece-smaller : goal.loop-piece-smaller
loop-piece-smaller c = piece_shorter InElement c.loop-piece.rest.now (bare_view c.in_ok-piece.piece, c.in_ok-piece.behind.now) c.in_ok-piece.ensures

pub loop-piece-preserved : goal.loop-piece-preserved
loop-piece-preserved c = λ kids.
    let none : last_white (bare_view c.in_ok-piece.piece) c.loop-piece.depth ≡ None = c.in_default.ensures in
    rw c.depth_after-depth.ensures (inside_goes W c.args.bytes.now kids c.loop-piece.depth c.loop-piece.rest.now (bare_view c.in_ok-piece.piece) c.in_ok-piece.behind.now (c.loop-piece.invariant kids) c.in_ok-piece.ensures none)
