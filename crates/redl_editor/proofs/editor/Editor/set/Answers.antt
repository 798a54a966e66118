use Rattle.std.proofs.Common.{◌==◌}
use Rattle.redl_editor.proofs.CountLaws.{on-ok}
use Rattle.redl_editor.proofs.ElsewhereLaws.{elsewhere-stays, one-same}
use Rattle.redl_tree.specs.Leaves.Settings.{set_say}
use Rattle.redl_editor.proofs.editor.Editor.set.Goals as goal

pub returns-clause-elsewhere : goal.returns-clause-elsewhere
returns-clause-elsewhere c =
    let old = c.args.self.now in
    on-ok c.set_many.result
    (λ is. elsewhere-stays (λ n. n == c.args.rev) old _ (set_say old.says c.args.rev c.args.say) (one-same old.says c.args.rev c.args.say) is)
    c.set_many.ensures.says
