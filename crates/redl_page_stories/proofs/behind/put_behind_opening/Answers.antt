use Rattle.std.proofs.Common.{ap, ◌∙◌, append-nil}
use Rattle.redl_tree.specs.Model.View.{kids_of, tag_of}
use Rattle.redl_html.specs.Pieces.{pieces_text}
use Rattle.redl_html.proofs.PieceLaws.{puts_is}
use Rattle.redl_page_stories.specs.Shapes.{behind_opening}
use Rattle.redl_places.specs.Views.{signs_of}
use Rattle.redl_page_stories.proofs.behind.put_behind_opening.Goals as goal

pub returns-in-Operator : goal.returns-in-Operator
returns-in-Operator g c =
    puts_is (ap (λ s. pieces_text (behind_opening (signs_of c.args.signs.now) s (tag_of c.args.elem.now) (kids_of c.args.elem.now))) c.in-Operator.is ∙ append-nil _) c.put_operator.ensures

pub returns-in-Accent : goal.returns-in-Accent
returns-in-Accent g c =
    puts_is (ap (λ s. pieces_text (behind_opening (signs_of c.args.signs.now) s (tag_of c.args.elem.now) (kids_of c.args.elem.now))) c.in-Accent.is ∙ append-nil _) c.put_accent.ensures

pub returns-in-Delimiters : goal.returns-in-Delimiters
returns-in-Delimiters g c =
    puts_is (ap (λ s. pieces_text (behind_opening (signs_of c.args.signs.now) s (tag_of c.args.elem.now) (kids_of c.args.elem.now))) c.in-Delimiters.is ∙ append-nil _) c.put_delimiter.ensures
