use Rattle.std.proofs.Common.{option_map, refl}
use Rattle.redl_io.proofs.Puts.{puts_then, puts_fails}
use Rattle.redl_page.specs.PageViews.{skin_view}
use Rattle.redl_page.proofs.PageLaws.{head-text}
use Rattle.redl_page.proofs.page.put_head.Goals as goal

pub returns-in_err-put_pieces : goal.returns-in_err-put_pieces
returns-in_err-put_pieces g c =
    puts_fails _ (head-text (skin_view c.args.skin.now) (option_map (λ title. title.now) c.args.title)) c.from_residual.ensures.1 c.in_err-put_pieces.ensures

pub returns-in_err-put_title : goal.returns-in_err-put_title
returns-in_err-put_title g c =
    puts_then (head-text (skin_view c.args.skin.now) (option_map (λ title. title.now) c.args.title)) c.in_ok-put_pieces.ensures
    (puts_fails _ refl c.from_residual-in_err-put_title.ensures.1 c.in_err-put_title.ensures)

pub returns : goal.returns
returns g c =
    puts_then (head-text (skin_view c.args.skin.now) (option_map (λ title. title.now) c.args.title)) c.in_ok-put_pieces.ensures
    (puts_then refl c.in_ok-put_title.ensures c.put_pieces-2.ensures)
