use Rattle.std.proofs.Common.{◌≡◌, ◌∙◌, ◌-◌, length, Some, None, slice_get}
use Rattle.redl_tree.specs.declared.kinds.Space.TheVariants.{W}
use Rattle.redl_xml.proofs.FoldLoop.{run_by_last}
use Rattle.redl_xml.proofs.idle.is_run_open.Goals as goal

pub returns-in-Some : goal.returns-in-Some
returns-in-Some c =
    let last : Some c.in-Some.name.now ≡ slice_get c.args.names.now (length c.args.names.now - 1) = rw c.in-Some.is at c.last.ensures.value in
    (rw c.as_slice.ensures at c.eq.ensures) ∙ run_by_last W c.args.names.now (Some c.in-Some.name.now) last

pub returns-in-None : goal.returns-in-None
returns-in-None c = run_by_last W c.args.names.now None (rw c.in-None.is at c.last.ensures.value)
