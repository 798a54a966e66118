-- The edits are looked for only where something that is wanted asks for them.
use Rattle.std.proofs.Common.{◌≡◌, ◌∙◌, ℕ, Bool, List, [], ap, if◌then◌else◌}
use Rattle.redl_commands_shown.specs.Shown.{shown_revisions}
use Rattle.redl_edits.specs.Edits.{package_edits}
use Rattle.redl_index.specs.declared.revision.Revision.{Revision}
use Rattle.redl_words.specs.Views.{onlys_view}
use Rattle.redl_commands_list.proofs.ShownLaws.{shown-asked}
use Rattle.redl_commands_list.proofs.list.shown_of.Goals as goal

pub returns : goal.returns
returns c =
    let state = c.args.session.now in
    let wanted = onlys_view c.args.only.now in
    let verdicts = c.args.verdicts.now in
    let all = package_edits state.nodes state.revisions in
    c.in_ok-shown.ensures
    ∙ ap (λ (rs : List Revision). shown_revisions c.deref.result.now wanted rs verdicts) (c.revisions.ensures.value ∙ c.index.ensures)
    ∙ ap (λ (es : List ℕ). shown_revisions es wanted state.revisions verdicts)
    (c.deref.ensures.value ∙ c.in_ok-edits.ensures ∙ ap (λ (asked : Bool). if asked then all else []) c.ask_edits.ensures)
    ∙ shown-asked all wanted state.revisions verdicts
