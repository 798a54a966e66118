-- What the walk over the text counts are its marks, and a text without the words of their names has none.
use Rattle.std.proofs.Common.{arith, ap, sym, ◌∙◌}
use Rattle.redl_tree.specs.Model.IdleTexts.{is_idle_text}
use Rattle.redl_undecided.specs.Middles.{lacks_middles}
use Rattle.redl_undecided.proofs.MarkLaws.{shown_idle}
use Rattle.redl_undecided.proofs.MiddleLaws.{none_kept}
use Rattle.redl_undecided.proofs.count.add_plain.Goals as goal

pub returns-then-lacks_middles : goal.returns-then-lacks_middles
returns-then-lacks_middles c =
    let kept = c.args.plain.now in
    let lacking = ap lacks_middles c.text.ensures.nodes ∙ sym c.lacks_middles.ensures ∙ c.if-lacks_middles.true in
    omega (arith, none_kept kept (ap is_idle_text (sym c.text.ensures.text) ∙ c.text.ensures.idle) lacking)

pub returns : goal.returns
returns c = omega (arith, c.saturating_add.ensures, c.in-Ok.ensures, shown_idle (record {}) c.args.plain.now)
