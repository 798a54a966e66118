use Rattle.std.proofs.Common.{All, ap, refl, subst, sym, ◌∙◌}
use Rattle.redl_io.proofs.Puts.{puts_then, puts_fails}
use Rattle.redl_html.specs.Pieces.{pieces_text}
use Rattle.redl_html.proofs.PieceLaws.{puts_is}
use Rattle.redl_page_remarks.specs.Remarks.{IsDated, remarks}
use Rattle.redl_page.proofs.PageLaws.{facts-text}
use Rattle.redl_page.proofs.FactLaws.{facts-dated, numbers-are, remarks-are}
use Rattle.redl_page.proofs.page.put_fact_lists.Goals as goal

pub put_remarks-requires : goal.put_remarks-requires
put_remarks-requires g c = subst (All IsDated) (sym c.deref.ensures.value) (facts-dated c.args.page.now.facts.now c.args.page.now.package.now c.requires)

pub returns-in_err-put_remarks : goal.returns-in_err-put_remarks
returns-in_err-put_remarks g c =
    puts_fails _ (facts-text c.args.page.now.heading.pictures c.args.page.now.package.now) c.from_residual.ensures.1 (puts_is (ap pieces_text (remarks-are c.args.page.now.facts.now c.args.page.now.package.now c.requires ∙ ap (λ cs. remarks cs c.args.page.now.facts.now.threads) (sym c.deref.ensures.value))) c.in_err-put_remarks.ensures)

pub returns-in_err-put_numbers : goal.returns-in_err-put_numbers
returns-in_err-put_numbers g c =
    puts_then (facts-text c.args.page.now.heading.pictures c.args.page.now.package.now) (puts_is (ap pieces_text (remarks-are c.args.page.now.facts.now c.args.page.now.package.now c.requires ∙ ap (λ cs. remarks cs c.args.page.now.facts.now.threads) (sym c.deref.ensures.value))) c.in_ok-put_remarks.ensures)
    (puts_fails _ refl c.from_residual-in_err-put_numbers.ensures.1 (puts_is (ap pieces_text (numbers-are c.args.page.now.facts.now c.args.page.now.package.now c.requires)) c.in_err-put_numbers.ensures))

pub returns-in_err-put_picture_list : goal.returns-in_err-put_picture_list
returns-in_err-put_picture_list g c =
    puts_then (facts-text c.args.page.now.heading.pictures c.args.page.now.package.now) (puts_is (ap pieces_text (remarks-are c.args.page.now.facts.now c.args.page.now.package.now c.requires ∙ ap (λ cs. remarks cs c.args.page.now.facts.now.threads) (sym c.deref.ensures.value))) c.in_ok-put_remarks.ensures)
    (puts_then refl (puts_is (ap pieces_text (numbers-are c.args.page.now.facts.now c.args.page.now.package.now c.requires)) c.in_ok-put_numbers.ensures)
    (puts_fails _ refl c.from_residual-in_err-put_picture_list.ensures.1 c.in_err-put_picture_list.ensures))

pub returns : goal.returns
returns g c =
    puts_then (facts-text c.args.page.now.heading.pictures c.args.page.now.package.now) (puts_is (ap pieces_text (remarks-are c.args.page.now.facts.now c.args.page.now.package.now c.requires ∙ ap (λ cs. remarks cs c.args.page.now.facts.now.threads) (sym c.deref.ensures.value))) c.in_ok-put_remarks.ensures)
    (puts_then refl (puts_is (ap pieces_text (numbers-are c.args.page.now.facts.now c.args.page.now.package.now c.requires)) c.in_ok-put_numbers.ensures)
    (puts_then refl c.in_ok-put_picture_list.ensures c.put_piece.ensures))
