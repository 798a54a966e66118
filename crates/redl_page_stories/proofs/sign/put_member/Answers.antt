use Rattle.std.proofs.Common.{ap, sym, ◌∙◌, codes}
use Rattle.redl_page_stories.specs.Signs.{before, after, sign_text}
use Rattle.redl_html.proofs.PieceLaws.{puts_is}
use Rattle.redl_page_stories.proofs.NodeLaws.{sign-text}
use Rattle.redl_page_stories.proofs.sign.put_member.Goals as goal

pub returns : goal.returns
returns g c =
    puts_is (
    sign-text c.args.index.now (before c.args.kind) c.args.rev (after c.args.kind)
    ∙ ap (λ l. sign_text c.args.index.now l c.args.rev (codes (after c.args.kind))) (sym c.text_before.ensures)
    ∙ ap (sign_text c.args.index.now c.text_before.result.now c.args.rev) (sym c.text_after.ensures)
    ) c.put_sign.ensures
