use Rattle.std.proofs.Common.{ap, ◌∙◌, append-nil}
use Rattle.redl_tree.specs.Model.View.{kids_of}
use Rattle.redl_html.specs.Pieces.{pieces_text}
use Rattle.redl_html.proofs.PieceLaws.{puts_is}
use Rattle.redl_page_stories.specs.Shapes.{before_closing}
use Rattle.redl_page_stories.proofs.behind.put_before_closing.Goals as goal

pub returns-in-Delimiters : goal.returns-in-Delimiters
returns-in-Delimiters g c =
    puts_is (ap (λ s. pieces_text (before_closing s (kids_of c.args.elem.now))) c.in-Delimiters.is ∙ append-nil _) c.put_delimiter.ensures
