use Rattle.std.proofs.Common.{ap, ◌∙◌}
use Rattle.redl_page_stories.proofs.EmphasisLaws.{bold_idle, italic_idle}
use Rattle.redl_page_stories.proofs.emphasis.Emphasis.of_idle_properties.Goals as goal

pub returns-clause-bold : goal.returns-clause-bold
returns-clause-bold c = ap (λ e. e.bold) c.in-Ok.ensures ∙ bold_idle c.args.plain.now

pub returns-clause-italic : goal.returns-clause-italic
returns-clause-italic c = ap (λ e. e.italic) c.in-Ok.ensures ∙ italic_idle c.args.plain.now
