use Rattle.std.proofs.Common.{◌≡◌, ◌∙◌, ap, sym, true, []}
use Rattle.std.specs.List.{list_all}
use Rattle.redl_markup.specs.Attributes.{names_in}
use Rattle.redl_grammar.specs.Names.{Name}
use Rattle.redl_markup.specs.Views.{name_view}
use Rattle.redl_xml.specs.Scopes.{is_plain_name}
use Rattle.redl_xml.specs.Inside.Elements.{known}
use Rattle.redl_xml.proofs.Scoping.{plain_entered, plain_declares_nothing, own_is_known}
use Rattle.redl_xml.proofs.namespaces.enter.Goals as goal

pub are_plain-requires : goal.are_plain-requires
are_plain-requires c =
    let scope = c.args.scopes.now in
    rw c.in-Some.ensures.same (own_is_known scope (name_view c.name-name.result) (c.in-Some.space, scope) c.in-Some.ensures.space)

pub returns-then-are_plain-clause-read : goal.returns-then-are_plain-clause-read
returns-then-are_plain-clause-read c =
    let scope = c.args.scopes.now in
    let tag = c.args.tag.now in
    let plain : list_all (is_plain_name scope) (names_in tag.tail) ≡ true = ap (list_all (is_plain_name scope)) (sym c.attributes.ensures) ∙ rw c.in-Some.ensures.same at (sym c.are_plain.ensures ∙ c.if-are_plain.true) in
    rw c.in-Some.ensures.same (plain_entered scope tag.name tag.tail plain ∙ ap (λ (n : Name). known n [] scope) (sym c.name-name.ensures) ∙ c.in-Some.ensures.space)

pub returns-then-are_plain-clause-declared : goal.returns-then-are_plain-clause-declared
returns-then-are_plain-clause-declared c =
    let scope = c.args.scopes.now in
    let tail = c.args.tag.now.tail in
    let plain : list_all (is_plain_name scope) (names_in tail) ≡ true = ap (list_all (is_plain_name scope)) (sym c.attributes.ensures) ∙ rw c.in-Some.ensures.same at (sym c.are_plain.ensures ∙ c.if-are_plain.true) in
    plain_declares_nothing scope tail plain
