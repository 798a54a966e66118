use Rattle.std.proofs.Common.{take, drop, arith}
use Rattle.std.proofs.lemmas.Simd.{length-chunk}
use Rattle.redl_pairs.proofs.LaneLaws.{mask_of}
use Rattle.redl_pairs.proofs.pairs.block_lacks.Goals as goal

pub returns : goal.returns
returns c =
    let t = c.args.text.now in
    mask_of 64 c.args.a.0 c.args.a.1 c.args.b.0 c.args.b.1 (take 64 t) (take 64 (drop 1 t)) (omega arith) (length-chunk 0 64 t (omega arith)) (length-chunk 1 64 t (omega arith))
