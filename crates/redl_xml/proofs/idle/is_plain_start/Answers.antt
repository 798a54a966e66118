use Rattle.std.proofs.Common.{◌≡◌, ◌∙◌, ap, sym, true, [], Some, rules}
use Rattle.std.specs.List.{list_all}
use Rattle.redl_markup.specs.Attributes.{names_in}
use Rattle.redl_grammar.specs.Names.{Name}
use Rattle.redl_markup.specs.Views.{name_view}
use Rattle.redl_xml.specs.Scopes.{is_plain_name}
use Rattle.redl_xml.specs.Inside.Elements.{known}
use Rattle.redl_xml.proofs.Scoping.{own_is_known}
use Rattle.redl_xml.proofs.PlainStarts.{known_is}
use Rattle.redl_xml.proofs.idle.is_plain_start.Goals as goal

pub are_plain-requires : goal.are_plain-requires
are_plain-requires c =
    let scope = c.args.scopes.now in
    rw c.in-Some.ensures.same (own_is_known scope (name_view c.name-name.result) (c.in-Some.own, scope) c.in-Some.ensures.space)

pub returns-then-eq-clause-plain : goal.returns-then-eq-clause-plain
returns-then-eq-clause-plain c = λ h close.
    let scope = c.args.scopes.now in
    let tag = c.args.tag.now in
    let named : known tag.name [] scope ≡ Some (c.in-Some.own, scope) = ap (λ (n : Name). known n [] scope) (sym c.name-name.ensures) ∙ c.in-Some.ensures.space in
    let k = known_is scope tag.name c.in-Some.own named in
    let same : c.in-Some.own ≡ c.args.space = search rules in
    let plain : list_all (is_plain_name scope) (names_in tag.tail) ≡ true = ap (list_all (is_plain_name scope)) (sym c.attributes.ensures) ∙ rw c.in-Some.ensures.same at (sym c.are_plain.ensures ∙ h) in
    record { prefix = k.0; bound = k.1 ∙ same; names = plain }
