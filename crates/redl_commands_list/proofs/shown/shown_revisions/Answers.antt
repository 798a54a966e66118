use Rattle.std.proofs.Common.{◌≤◌, ◌<◌, length, arith}
use Rattle.std.proofs.lemmas.List.{get_or_default}
use Rattle.redl_commands_list.proofs.ShownLaws.{shown-done, shown-more}
use Rattle.redl_words.specs.Views.{onlys_view}
use Rattle.redl_commands_list.proofs.shown.shown_revisions.Goals as goal

pub loop-place-preserved : goal.loop-place-preserved
loop-place-preserved c =
    let place = c.loop-place.place in
    let within : place < length c.args.revisions.now = omega (arith, c.loop-place-test.true) in
    let decided : place < length c.args.verdicts.now = omega (arith, within, c.requires) in
    shown-more _ _ _ c.args.edits.now (onlys_view c.args.wanted.now) c.args.revisions.now c.args.verdicts.now place c.index-revisions-place.result _ _
    within decided c.index-revisions-place.is (get_or_default c.args.verdicts.now place _ _ decided) c.is_shown.ensures c.in_ok-push.ensures.items c.loop-place.invariant

pub returns : goal.returns
returns c =
    let past : length c.args.revisions.now ≤ c.loop-place.place = omega (arith, c.loop-place-test.false) in
    shown-done _ _ c.args.edits.now (onlys_view c.args.wanted.now) c.args.revisions.now c.args.verdicts.now c.loop-place.place past c.loop-place.invariant
