use Rattle.std.proofs.Common.{ap, sym, ◌∙◌}
use Rattle.redl_tree.specs.Model.IdleTexts.{idle_nodes}
use Rattle.redl_hidden_members.specs.Walks.{Walk, walked}
use Rattle.redl_hidden_members.specs.declared.heard.Heard.{Heard}
use Rattle.redl_hidden_members.proofs.WalkLaws.{kept_walked}
use Rattle.redl_hidden_members.proofs.walk.walk_plain.Goals as goal

pub returns : goal.returns
returns c = λ properties.
    let inside = c.walk.inside in
    let before : Walk = record { hidden = inside.hidden.items; waiting = inside.waiting.items; any = inside.heard.any } in
    ap (λ (ear : Heard). record { hidden = inside.hidden.items; waiting = inside.waiting.items; any = ear.any }) c.in_ok-note_idle.ensures
    ∙ sym (kept_walked c.args.within c.args.plain.now properties before)
    ∙ ap (walked c.args.within.styles.now c.args.within.at properties (idle_nodes c.args.plain.now)) c.walk.view_is
