use Rattle.std.proofs.Common.{◌≡◌, map, ◌∷◌, [], ◌++◌, sym, ◌∙◌}
use Rattle.std.proofs.lemmas.List.{map_push}
use Rattle.redl_markup.specs.Views.{name_view, attribute_view}
use Rattle.redl_grammar.proofs.Attributes.{first_behind, first_shorter, loop_begins, loop_ends, loop_fails, loop_goes}
use Rattle.redl_markup.proofs.tag.attributes.Goals as goal

pub loop-gap-init : goal.loop-gap-init
loop-gap-init c = rw c.clear.ensures.items (loop_begins c.args.bytes.now)

pub returns-then-is_at_end : goal.returns-then-is_at_end
returns-then-is_at_end c =
    loop_ends _ c.spaces.result.1.now c.args.bytes.now c.loop-gap.invariant c.spaces.ensures.rest (sym c.is_at_end.ensures ∙ c.if-is_at_end.true)

pub returns-in_default : goal.returns-in_default
returns-in_default c =
    loop_fails _ c.spaces.result.1.now c.args.bytes.now c.loop-gap.invariant c.spaces.ensures.rest (sym c.is_at_end.ensures ∙ c.if-is_at_end.false)
    (first_behind c.loop-gap.rest.now c.spaces.result.0.now c.spaces.result.1.now _ c.spaces.ensures.front c.spaces.ensures.rest c.in_default.ensures)

pub loop-gap-smaller : goal.loop-gap-smaller
loop-gap-smaller c =
    first_shorter c.loop-gap.rest.now (attribute_view c.in-Some.attribute, c.in-Some.next.now)
    (first_behind c.loop-gap.rest.now c.spaces.result.0.now c.spaces.result.1.now _ c.spaces.ensures.front c.spaces.ensures.rest c.in-Some.ensures)

pub loop-gap-preserved : goal.loop-gap-preserved
loop-gap-preserved c =
    let e : map name_view c.push.new.self.items ≡ map name_view c.loop-gap.names.items ++ name_view c.in-Some.attribute.name ∷ [] = rw c.in_ok-push.ensures.items (map_push name_view c.loop-gap.names.items c.in-Some.attribute.name) in
    rw e (loop_goes (map name_view c.loop-gap.names.items, c.loop-gap.rest.now) c.spaces.result.1.now c.args.bytes.now (attribute_view c.in-Some.attribute, c.in-Some.next.now)
    c.loop-gap.invariant c.spaces.ensures.rest (sym c.is_at_end.ensures ∙ c.if-is_at_end.false)
    (first_behind c.loop-gap.rest.now c.spaces.result.0.now c.spaces.result.1.now _ c.spaces.ensures.front c.spaces.ensures.rest c.in-Some.ensures))
