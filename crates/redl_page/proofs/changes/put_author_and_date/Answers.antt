use Rattle.std.proofs.Common.{ap, sym, ◌++◌, codes}
use Rattle.redl_io.proofs.Puts.{puts_then, puts_fails}
use Rattle.redl_formats.specs.Dates.{date_text}
use Rattle.redl_html.specs.Escaping.{escaped}
use Rattle.redl_page.proofs.changes.put_author_and_date.Goals as goal

pub returns-in_err-put_attribute : goal.returns-in_err-put_attribute
returns-in_err-put_attribute g c =
    puts_fails _ (ap (λ a. (codes "\" data-author=\"" ++ escaped a) ++ (codes "\" data-date=\"" ++ escaped (date_text c.args.revision.now.seconds))) (sym c.as_bytes-author.ensures))
    c.from_residual.ensures.1 c.in_err-put_attribute.ensures

pub returns : goal.returns
returns g c =
    puts_then (ap (λ a. (codes "\" data-author=\"" ++ escaped a) ++ (codes "\" data-date=\"" ++ escaped (date_text c.args.revision.now.seconds))) (sym c.as_bytes-author.ensures))
    c.in_ok-put_attribute.ensures c.put_date.ensures
