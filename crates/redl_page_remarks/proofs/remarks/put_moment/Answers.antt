use Rattle.std.proofs.Common.{◌≡◌, ap, sym, ◌∙◌, ◌++◌, codes, to_z, of_z, w64, SFits, rules}
use Rattle.std.proofs.lemmas.Int.{to_z-of_z}
use Rattle.redl_formats.specs.Dates.{moment_text}
use Rattle.redl_html.specs.Escaping.{escaped}
use Rattle.redl_html.proofs.PieceLaws.{puts_is}
use Rattle.redl_page_remarks.proofs.remarks.put_moment.Goals as goal

pub returns : goal.returns
returns g c =
    let fits : SFits w64 c.args.seconds = search rules in
    let same : to_z w64 (of_z w64 c.args.seconds) ≡ c.args.seconds = to_z-of_z w64 c.args.seconds fits in
    puts_is (
    ap (λ z. codes "\" data-date=\"" ++ escaped (moment_text z)) (sym same)
    ∙ ap (λ t. codes "\" data-date=\"" ++ escaped t) (sym c.moment_text-text.ensures)
    ) c.put_attribute.ensures
