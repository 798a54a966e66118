use Rattle.std.proofs.Common.{refl}
use Rattle.redl_io.proofs.Puts.{puts_then}
use Rattle.redl_output.proofs.write.write_live_name.Goals as goal

pub returns : goal.returns
returns g c =
    let prefix = rw c.prefix_with_colon.ensures at c.in_ok-put_piece.ensures in
    let local = rw c.local.ensures at c.put_piece-2.ensures in
    puts_then refl prefix local
