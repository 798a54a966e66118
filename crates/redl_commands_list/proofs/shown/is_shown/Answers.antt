use Rattle.std.proofs.Common.{◌∙◌, sym}
use Rattle.std.proofs.lemmas.List.Folds.{list_all-map}
use Rattle.redl_commands_shown.specs.Shown.{shows}
use Rattle.redl_words.specs.Views.{only_of}
use Rattle.redl_commands_list.proofs.shown.is_shown.Goals as goal

pub returns : goal.returns
returns c = c.shows_each.ensures ∙ sym (list_all-map (shows c.args.edits.now c.args.revision.now c.args.verdict) only_of c.args.wanted.now)
