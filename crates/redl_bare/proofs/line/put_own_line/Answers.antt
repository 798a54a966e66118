use Rattle.std.proofs.Common.{[], ◌∷◌, ◌++◌, refl}
use Rattle.redl_io.proofs.Puts.{puts_then, puts_fails}
use Rattle.redl_bare.specs.BareText.{member_name, stamp_text}
use Rattle.redl_bare.specs.Inside.Views.{stamp_view}
use Rattle.redl_bare.proofs.TextLaws.{own_line}
use Rattle.redl_bare.proofs.line.put_own_line.Goals as goal

pub returns-in_err-put_pieces : goal.returns-in_err-put_pieces
returns-in_err-put_pieces g c =
    puts_fails (stamp_text (stamp_view c.args.stamp) ++ (10 ∷ [])) (own_line (member_name c.args.kind) (stamp_text (stamp_view c.args.stamp) ++ (10 ∷ [])))
    c.from_residual.ensures.1 (rw (c.as_slice.ensures, c.member_name.ensures) at c.in_err-put_pieces.ensures)

pub returns-in_err-put_stamp : goal.returns-in_err-put_stamp
returns-in_err-put_stamp g c =
    puts_then (own_line (member_name c.args.kind) (stamp_text (stamp_view c.args.stamp) ++ (10 ∷ []))) (rw (c.as_slice.ensures, c.member_name.ensures) at c.in_ok-put_pieces.ensures)
    (puts_fails (10 ∷ []) refl c.from_residual-in_err-put_stamp.ensures.1 c.in_err-put_stamp.ensures)

pub returns : goal.returns
returns g c =
    puts_then (own_line (member_name c.args.kind) (stamp_text (stamp_view c.args.stamp) ++ (10 ∷ []))) (rw (c.as_slice.ensures, c.member_name.ensures) at c.in_ok-put_pieces.ensures)
    (puts_then refl c.in_ok-put_stamp.ensures c.put_piece.ensures)
