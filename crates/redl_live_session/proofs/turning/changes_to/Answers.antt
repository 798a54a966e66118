use Rattle.std.proofs.Common.{◌≡◌, ◌∙◌, ◌+◌, ◌<◌, ℕ, List, length, map, get_or, ap, rules, arith}
use Rattle.redl_editor.specs.Changes.{setting_of}
use Rattle.redl_editor.specs.declared.changing.Change.{Change}
use Rattle.redl_join.specs.Verdicts.{verdict_at}
use Rattle.redl_session.specs.Says.{say_of_verdict}
use Rattle.redl_tree.specs.Leaves.Settings.{set_each}
use Rattle.redl_tree.specs.declared.kinds.Say.{Say}
use Rattle.redl_tree.specs.declared.kinds.Say.TheVariants.{Keep}
use Rattle.redl_live_session.proofs.TurnLaws.{set-pushed, turned-next, turned-same}
use Rattle.redl_live_session.proofs.turning.changes_to.Goals as goal
use Rattle.redl_live_session.proofs.turning.changes_to.Goals.{then-ne+in_ok-push, else-ne}

pub loop-before-preserved : goal.loop-before-preserved
loop-before-preserved c =
    let says = c.args.says.now in
    let before = c.loop-before.before in
    let so_far = c.loop-before.changes.items in
    let say = c.say_of-say.result in
    let f : ℕ → Say = λ rev. say_of_verdict (verdict_at c.args.book.now rev) in
    let within : before < length says = omega (arith, c.loop-before-test.true, c.requires) in
    let own : say ≡ f (before + 1) = c.say_of-say.ensures ∙ ap say_of_verdict c.verdict.ensures in
    let said : List Change → List Say = λ changes. set_each says (map setting_of changes) in
    elim c.if-ne.branch [
      | then-ne+in_ok-push w ↦
          ap (λ changes. said changes.items) w.changes-is
          ∙ ap said w.in_ok-push.ensures.items
          ∙ set-pushed says so_far (record { rev = before + 1; say = say })
          ∙ turned-next says (said so_far) f before say within c.loop-before.invariant own
      | else-ne w ↦
          let same : get_or says before Keep ≡ say = search rules in
          ap (λ changes. said changes.items) w.changes-is ∙ turned-same says (said so_far) f before say within c.loop-before.invariant own same
    ]
