use Rattle.std.proofs.Common.{◌∙◌, ◌++◌, ap, sym, append-nil, codes}
use Rattle.redl_html.specs.Escaping.{escaped}
use Rattle.redl_html.proofs.PieceLaws.{puts_is}
use Rattle.redl_page_remarks.proofs.remarks.put_parent.Goals as goal

pub returns : goal.returns
returns g c =
    puts_is (ap (λ l. codes "\" data-reply=\"" ++ l) (append-nil (escaped c.args.parent.now.id)) ∙ ap (λ t. codes "\" data-reply=\"" ++ escaped t) (sym c.as_bytes.ensures))
    c.put_attribute.ensures
