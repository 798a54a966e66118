use Rattle.std.proofs.Common.{ap}
use Rattle.std.specs.List.{flat_map}
use Rattle.redl_lines.specs.Lines.{refused_line}
use Rattle.redl_io.proofs.Puts.{so_far_begins, so_far_goes_on, so_far_stops, so_far_ends}
use Rattle.redl_lines.proofs.lines.write_refused.Goals as goal

pub loop-entry-init : goal.loop-entry-init
loop-entry-init g c =
    rw (c.into_iter-entry-iterator.ensures.into_iter_gives.0, c.causes-entry-items.ensures) (so_far_begins _ _)

pub loop-entry-preserved : goal.loop-entry-preserved
loop-entry-preserved g c =
    so_far_goes_on (refused_line (c.in-Some.entry.now, c.in-Some.why.now)) (flat_map refused_line c.next.new.self) (ap (flat_map refused_line) c.in-Some.ensures.steps)
    c.loop-entry.invariant c.in_ok-write_entry.ensures

pub returns-in_err-write_entry : goal.returns-in_err-write_entry
returns-in_err-write_entry g c =
    so_far_stops (refused_line (c.in-Some.entry.now, c.in-Some.why.now)) (flat_map refused_line c.next.new.self) (ap (flat_map refused_line) c.in-Some.ensures.steps)
    c.from_residual.ensures.1 c.loop-entry.invariant c.in_err-write_entry.ensures

pub returns : goal.returns
returns g c = so_far_ends (ap (flat_map refused_line) c.in-None.ensures.steps.0) c.loop-entry.invariant
