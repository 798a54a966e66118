use Rattle.std.proofs.Common.{ap, ◌∙◌}
use Rattle.redl_page_stories.proofs.EmphasisLaws.{bold_in_run, italic_in_run}
use Rattle.redl_page_stories.proofs.emphasis.Emphasis.of_run_ahead.Goals as goal

pub returns-clause-bold : goal.returns-clause-bold
returns-clause-bold c = λ kids. ap (λ e. e.bold) (c.in-Ok.ensures kids) ∙ bold_in_run kids.nodes kids.laid

pub returns-clause-italic : goal.returns-clause-italic
returns-clause-italic c = λ kids. ap (λ e. e.italic) (c.in-Ok.ensures kids) ∙ italic_in_run kids.nodes kids.laid
