use Rattle.std.proofs.Common.{◌≡◌, length, refl, arith}
use Rattle.redl_commands_sample.proofs.sample.summary_of.Goals as goal

pub returns : goal.returns
returns c =
    let size : c.len-2.result ≡ length c.in_ok-written.written.items = omega (arith, c.len-2.ensures, c.in_ok-written.written.ok.0) in
    rw (c.of.ensures, c.deref.ensures.value, c.in_ok-verdicts.ensures, c.count.ensures, c.index.ensures, c.len.ensures, c.book.ensures, c.digest.ensures, size, c.in_ok-written.ensures) refl
