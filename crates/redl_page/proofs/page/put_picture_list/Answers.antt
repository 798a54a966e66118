use Rattle.std.proofs.Common.{ap, sym, ◌∙◌}
use Rattle.redl_html.specs.Pieces.{pieces_text}
use Rattle.redl_html.proofs.PieceLaws.{puts_is}
use Rattle.redl_page_pictures.specs.List.{pictures}
use Rattle.redl_page.specs.Page.{picture_list}
use Rattle.redl_page.proofs.page.put_picture_list.Goals as goal

pub returns-in-true : goal.returns-in-true
returns-in-true g c =
    puts_is (ap (λ b. pieces_text (picture_list b c.args.page.now.package.now)) c.in-true.is ∙ ap (λ p. pieces_text (pictures p)) (sym c.requires.pictures)) c.put_pictures.ensures
