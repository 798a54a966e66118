use Rattle.std.proofs.Common.{◌+◌, arith, drop}
use Rattle.std.specs.List.{flat_map}
use Rattle.redl_io.proofs.Puts.{so_far_goes_on, so_far_stops, so_far_ends}
use Rattle.redl_html.specs.Pieces.{pieces_text}
use Rattle.redl_page_numbers.specs.Pieces.{level_pieces}
use Rattle.redl_page_numbers.proofs.PieceLaws.{at_end, in_turn}
use Rattle.redl_page_numbers.proofs.put_levels.put_levels.Goals as goal

pub returns-in_err-put_level : goal.returns-in_err-put_level
returns-in_err-put_level g c =
    let xs = c.args.rows.now in
    let i = c.loop-row.row-index in
    let x = c.row-item.result in
    so_far_stops (pieces_text (level_pieces x)) (pieces_text (flat_map level_pieces (drop (i + 1) xs)))
    (in_turn level_pieces xs i x (omega arith) c.row-item.is) c.from_residual.ensures.1 c.loop-row.invariant c.in_err-put_level.ensures

pub loop-row-preserved : goal.loop-row-preserved
loop-row-preserved g c =
    let xs = c.args.rows.now in
    let i = c.loop-row.row-index in
    let x = c.row-item.result in
    so_far_goes_on (pieces_text (level_pieces x)) (pieces_text (flat_map level_pieces (drop (i + 1) xs)))
    (in_turn level_pieces xs i x (omega arith) c.row-item.is) c.loop-row.invariant c.in_ok-put_level.ensures

pub returns : goal.returns
returns g c = so_far_ends (at_end level_pieces c.args.rows.now c.loop-row.row-index (omega arith)) c.loop-row.invariant
