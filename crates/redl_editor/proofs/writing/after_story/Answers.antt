use Rattle.std.proofs.Common.{map}
use Rattle.redl_editor.proofs.WriteLaws.{drop-next}
use Rattle.redl_editor.specs.Stories.{states_kept}
use Rattle.redl_editor.proofs.writing.after_story.Goals as goal

pub returns-then-number-stories : goal.returns-then-number-stories
returns-then-number-stories c = drop-next (map states_kept c.args.stories.now) c.args.number
