use Rattle.std.proofs.Common.{ap}
use Rattle.redl_page.specs.Page.{heading_with}
use Rattle.redl_commands_show.proofs.page.heading_of.Goals as goal

pub returns : goal.returns
returns c = ap (λ title. heading_with title c.args.command.now.rank c.args.command.now.pictures) c.title_of.ensures
