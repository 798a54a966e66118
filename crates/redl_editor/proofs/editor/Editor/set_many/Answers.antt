use Rattle.redl_editor.proofs.CountLaws.{on-ok}
use Rattle.redl_editor.proofs.ElsewhereLaws.{changed-stays}
use Rattle.redl_editor.proofs.editor.Editor.set_many.Goals as goal

pub returns-clause-elsewhere : goal.returns-clause-elsewhere
returns-clause-elsewhere c = on-ok c.set_many_uncounted.result (λ is. changed-stays c.args.self.now _ _ is) c.set_many_uncounted.ensures.says
