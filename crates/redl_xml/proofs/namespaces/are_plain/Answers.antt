use Rattle.std.proofs.Common.{◌≡◌, ◌∷◌, ◌∙◌, ap, sym, length, map, List, arith, rules, tests}
use Rattle.std.specs.List.{list_all}
use Rattle.redl_markup.specs.Views.{name_view}
use Rattle.redl_markup.specs.declared.name.Name as code
use Rattle.redl_xml.specs.Scopes.{is_plain_name}
use Rattle.redl_xml.proofs.Scoping.{no_prefix_may_stand, bare_passes, goes_past}
use Rattle.redl_xml.proofs.namespaces.are_plain.Goals as goal

pub loop-name-init : goal.loop-name-init
loop-name-init c = (no_prefix_may_stand c.args.scopes.now, ap (λ (ns : List code.Name). list_all (is_plain_name c.args.scopes.now) (map name_view ns)) c.iter-left.ensures.rest)

pub loop-name-preserved-else-is_xmlns : goal.loop-name-preserved-else-is_xmlns
loop-name-preserved-else-is_xmlns c =
    let scope = c.args.scopes.now in
    let name = c.in-Some.name.now in
    let taken : c.loop-name.left.rest.now ≡ name ∷ c.next.new.self.rest.now = search (rules, tests) in
    let none : length name.prefix.now ≡ 0 = grind (arith, c.is_empty.ensures, c.if-is_empty.true) in
    let plain = bare_passes scope name.prefix.now name.local.now none (sym c.is_xmlns.ensures ∙ c.if-is_xmlns.false) in
    (c.loop-name.invariant.0, goes_past (is_plain_name scope) name c.next.new.self.rest.now c.loop-name.left.rest.now taken plain ∙ c.loop-name.invariant.1)
