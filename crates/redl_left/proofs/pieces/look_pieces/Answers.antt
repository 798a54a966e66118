-- Piece by piece.
use Rattle.std.proofs.Common.{◌∙◌, refl, sym, arith}
use Rattle.redl_left.specs.Search.{table_of}
use Rattle.redl_left.specs.Seen.{tables_of}
use Rattle.redl_left.proofs.PieceLaws.{empty, goes_on, none_ahead, took_shorter}
use Rattle.redl_left.proofs.pieces.look_pieces.Goals as goal

pub loop-left-init : goal.loop-left-init
loop-left-init c = record { known = c.requires.known; ahead = λ has. record { begins = has; noted = refl } }

pub look_piece-requires-clause-pieces : goal.look_piece-requires-clause-pieces
look_piece-requires-clause-pieces c = (c.loop-left.invariant.ahead c.requires.pieces).begins

pub loop-left-smaller : goal.loop-left-smaller
loop-left-smaller c =
    let has = (c.loop-left.invariant.ahead c.requires.pieces).begins in
    let shorter = took_shorter (table_of c.args.below.search.now) c.args.below.part.now (tables_of c.loop-left.seen) (tables_of c.look_piece.new.seen) c.loop-left.left.now has c.in_ok-left.left.now (c.in_ok-left.ensures.took has) in
    omega (arith, shorter)

pub loop-left-preserved : goal.loop-left-preserved
loop-left-preserved c = record {
  known = c.look_piece.ensures.known;
  ahead = λ has.
      let so_far = c.loop-left.invariant.ahead has in
      goes_on (table_of c.args.below.search.now) c.args.below.part.now (tables_of c.args.seen.now) (tables_of c.loop-left.seen) (tables_of c.look_piece.new.seen) has.pieces c.loop-left.left.now c.in_ok-left.left.now so_far
      (c.in_ok-left.ensures.took so_far.begins);
}

pub returns-clause-noted : goal.returns-clause-noted
returns-clause-noted c = λ has.
    none_ahead (table_of c.args.below.search.now) c.args.below.part.now (tables_of c.args.seen.now) (tables_of c.loop-left.seen) has.pieces c.loop-left.left.now
    (empty c.loop-left.left.now (sym c.is_empty.ensures ∙ c.loop-left-test.false)) (c.loop-left.invariant.ahead has)
