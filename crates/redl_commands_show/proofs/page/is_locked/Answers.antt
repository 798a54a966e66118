use Rattle.std.proofs.Common.{◌∙◌}
use Rattle.redl_commands_show.proofs.LockLaws.{held_is_locked}
use Rattle.redl_commands_show.proofs.page.is_locked.Goals as goal

pub returns : goal.returns
returns c = c.any_holds.ensures ∙ held_is_locked c.args.locks.now c.args.revision.now
