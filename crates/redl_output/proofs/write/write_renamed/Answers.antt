use Rattle.std.proofs.Common.{refl}
use Rattle.redl_io.proofs.Puts.{puts_then}
use Rattle.redl_output.proofs.write.write_renamed.Goals as goal

pub returns : goal.returns
returns g c =
    let tail = rw c.tail.ensures at c.put_piece.ensures in
    puts_then refl c.in_ok-write_name.ensures tail
