use Rattle.std.proofs.Common.{◌≡◌, ap, sym, ◌∙◌, true}
use Rattle.std.specs.Str.{bytes_eq}
use Rattle.redl_join.specs.Inside.Latest.{later}
use Rattle.redl_join.proofs.LatestWords.{latest_step, is_by-true}
use Rattle.redl_join.proofs.latest.find_latest.Goals as goal

pub loop-entry-preserved-then-eq : goal.loop-entry-preserved-then-eq
loop-entry-preserved-then-eq c =
    let by : bytes_eq c.as_bytes.result.now c.args.reviewer.now ≡ true = sym c.eq.ensures ∙ c.if-eq.true in
    let own = is_by-true c.args.rev c.args.reviewer.now c.in-Some.entry.now c.if-entry-rev.true (rw c.as_bytes.ensures at by) in
    latest_step c.args.rev c.args.reviewer.now c.in-Some.entry.now c.loop-entry.entry-iterator c.next.new.self c.loop-entry.latest c.or_later-latest.result _
    (c.or_later-latest.ensures ∙ ap (λ words. later words c.loop-entry.latest) c.of.ensures) own c.in-Some.ensures.steps c.loop-entry.invariant
