use Rattle.std.proofs.Common.{◌≡◌, ◌≤◌, length, ℕ, ◌+◌, ◌-◌, List, take, drop, arith, subst, sym, Option}
use Rattle.std.specs.Io.KnownBytes.{Appends}
use Rattle.std.proofs.Math.Seq.{take-add}
use Rattle.std.proofs.lemmas.List.{take_all, length-drop}
use Rattle.std.proofs.KnownBytes.{Appends-trans, Appends-kept}
use Rattle.redl_io.proofs.std_sink.write_bytes.Goals as goal
use Rattle.redl_io.proofs.std_sink.write_bytes.Goals.{in-Ok, in-Err}

-- after a write that took `count` bytes of what was left, the stream has the first `taken + count`
took : (old mid new : Option (List ℕ)) (bytes : List ℕ) (taken count : ℕ) → taken ≤ length bytes
    → count ≤ length (take (length bytes - taken) (drop taken bytes)) → Appends old mid (take taken bytes)
    → Appends mid new (take count (take (length bytes - taken) (drop taken bytes)))
    → (taken + count ≤ length bytes) × Appends old new (take (taken + count) bytes)
took old mid new bytes taken count within bound before gains =
    let counted : length (drop taken bytes) ≡ length bytes - taken = length-drop taken bytes in
    let whole : take (length bytes - taken) (drop taken bytes) ≡ drop taken bytes = take_all _ _ (subst (λ n. n ≤ length bytes - taken) (sym counted) (omega arith)) in
    let fits : count ≤ length (drop taken bytes) = subst (λ rest. count ≤ length rest) whole bound in (
      omega (within, fits, counted, arith),
      subst (Appends old new) (sym (take-add taken count bytes))
          (Appends-trans old mid new _ _ before (subst (λ rest. Appends mid new (take count rest)) whole gains)),
    )

pub loop-preserved : goal.loop-preserved
loop-preserved g c = elim c.match-write.branch [
  | in-Ok w ↦ subst (λ taken. (taken ≤ length c.args.bytes.now) × Appends (g.W.Write.contents c.args.stream.now) (g.W.Write.contents c.write.new.self) (take taken c.args.bytes.now))
      (sym w.taken-is) (took _ _ _ c.args.bytes.now c.loop.taken w.in-Ok.count c.loop.invariant.0 w.in-Ok.ensures.bound c.loop.invariant.1 w.in-Ok.ensures.bytes)
  | in-Err w ↦ subst (λ taken. (taken ≤ length c.args.bytes.now) × Appends (g.W.Write.contents c.args.stream.now) (g.W.Write.contents c.write.new.self) (take taken c.args.bytes.now))
      (sym w.taken-is) (c.loop.invariant.0, Appends-kept _ _ _ _ c.loop.invariant.1 w.in-Err.ensures.bytes)
]
