use Rattle.std.proofs.Common.{ap, ◌∙◌}
use Rattle.redl_hidden.specs.Inside.Ahead.{hides_by}
use Rattle.redl_hidden.specs.declared.ahead.Level.TheVariants.{Kids}
use Rattle.redl_hidden.proofs.AheadLaws.{ahead_hides}
use Rattle.redl_hidden.proofs.styles.HiddenStyles.run_hides_ahead.Goals as goal

pub returns : goal.returns
returns c = λ kids.
    c.hides_by.ensures ∙ ap (hides_by c.args.self.now c.args.paragraph) (c.in-Ok.ensures kids)
    ∙ ahead_hides (record { hidden = c.args.self; level = Kids }) c.args.paragraph kids.nodes kids.laid
