use Rattle.std.proofs.Common.{◌≡◌, ◌∙◌, ◌++◌, List, ℕ, ap, codes, false, length, sym}
use Rattle.std.specs.Prelude.{◌==◌}
use Rattle.redl_html.specs.Escaping.{escaped}
use Rattle.redl_html.proofs.PieceLaws.{puts_is}
use Rattle.redl_page.proofs.ChangeLaws.{remarks-text}
use Rattle.redl_page.proofs.changes.put_remark_ids.Goals as goal

pub returns : goal.returns
returns g c =
    let some : (length c.args.ids.now == 0) ≡ false = ap (λ (text : List ℕ). length text == 0) (sym c.as_bytes-bytes.ensures) ∙ (sym c.is_empty.ensures ∙ c.if-is_empty.false) in
    puts_is (remarks-text c.args.ids.now some ∙ ap (λ (text : List ℕ). codes "\" data-remarks=\"" ++ escaped text) (sym c.as_bytes-bytes.ensures)) c.put_attribute.ensures
