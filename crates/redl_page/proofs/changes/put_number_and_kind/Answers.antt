use Rattle.std.proofs.Common.{refl, ap, sym, ◌∙◌, ◌++◌, codes}
use Rattle.redl_io.proofs.Puts.{puts_then, puts_fails}
use Rattle.redl_html.specs.Escaping.{escaped}
use Rattle.std.specs.Prelude.{decimal}
use Rattle.redl_page.proofs.changes.put_number_and_kind.Goals as goal

pub returns-in_err-put_number : goal.returns-in_err-put_number
returns-in_err-put_number g c = puts_fails _ refl c.from_residual.ensures.1 c.in_err-put_number.ensures

pub returns : goal.returns
returns g c =
    puts_then (ap (λ k. (codes "<li id=\"revision-" ++ decimal c.args.revision.now.number) ++ (codes "\" data-kind=\"" ++ escaped k)) (sym (c.as_bytes-kind.ensures.value ∙ c.name.ensures)))
    c.in_ok-put_number.ensures c.put_attribute.ensures
