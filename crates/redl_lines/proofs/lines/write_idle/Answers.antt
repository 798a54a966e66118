use Rattle.std.proofs.Common.{◌+◌, ◌∷◌, drop, arith, ap, sym, ◌∙◌}
use Rattle.std.proofs.lemmas.List.{drop_more, drop_all}
use Rattle.std.specs.List.{flat_map}
use Rattle.redl_lines.specs.Lines.{idle_line}
use Rattle.redl_io.proofs.Puts.{so_far_begins, so_far_goes_on, so_far_stops, so_far_ends}
use Rattle.redl_lines.proofs.lines.write_idle.Goals as goal

pub loop-lock-init : goal.loop-lock-init
loop-lock-init g c = so_far_begins _ _

pub returns-in_err-write_idle_lock : goal.returns-in_err-write_idle_lock
returns-in_err-write_idle_lock g c =
    let lock = c.lock-item.result in
    let here = drop_more c.args.idle.now c.loop-lock.lock-index lock (omega arith) ∙ ap (λ one. one ∷ drop (c.loop-lock.lock-index + 1) c.args.idle.now) (sym c.lock-item.is) in
    so_far_stops (idle_line lock) (flat_map idle_line (drop (c.loop-lock.lock-index + 1) c.args.idle.now)) (ap (flat_map idle_line) here)
    c.from_residual.ensures.1 c.loop-lock.invariant c.in_err-write_idle_lock.ensures

pub loop-lock-preserved : goal.loop-lock-preserved
loop-lock-preserved g c =
    let lock = c.lock-item.result in
    let here = drop_more c.args.idle.now c.loop-lock.lock-index lock (omega arith) ∙ ap (λ one. one ∷ drop (c.loop-lock.lock-index + 1) c.args.idle.now) (sym c.lock-item.is) in
    so_far_goes_on (idle_line lock) (flat_map idle_line (drop (c.loop-lock.lock-index + 1) c.args.idle.now)) (ap (flat_map idle_line) here)
    c.loop-lock.invariant c.in_ok-write_idle_lock.ensures

pub returns : goal.returns
returns g c = so_far_ends (ap (flat_map idle_line) (drop_all c.loop-lock.lock-index c.args.idle.now (omega arith))) c.loop-lock.invariant
