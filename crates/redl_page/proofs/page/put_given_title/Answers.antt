use Rattle.std.proofs.Common.{◌++◌, ap, append-nil, codes}
use Rattle.redl_html.specs.Escaping.{escaped}
use Rattle.redl_html.proofs.PieceLaws.{puts_is}
use Rattle.redl_page.proofs.page.put_given_title.Goals as goal

pub returns : goal.returns
returns g c = puts_is (ap (λ l. codes "\" data-title=\"" ++ l) (append-nil (escaped c.args.title.now))) c.put_attribute.ensures
