use Rattle.std.proofs.Common.{◌≡◌, ◌∷◌, ◌∙◌, ap, sym, length, arith, rules, tests}
use Rattle.redl_grammar.specs.Characters.{is_plain_byte}
use Rattle.redl_markup.specs.Inside.Characters.{are_allowed}
use Rattle.redl_markup.proofs.AllowedBytes.{allowed_after, allowed_step, after_short}
use Rattle.redl_markup.proofs.character.has_allowed_bytes.Goals as goal

pub loop-first-init : goal.loop-first-init
loop-first-init c = ap are_allowed c.after_plain-rest.ensures ∙ allowed_after c.args.bytes.now

pub loop-first-smaller : goal.loop-first-smaller
loop-first-smaller c =
    let taken : c.loop-first.rest.now ≡ c.in-Some.first.now ∷ c.in-Some.next.now = search (rules, tests) in
    omega (arith, ap length taken, after_short is_plain_byte c.in-Some.next.now, ap length c.after_plain-rest-in-Some.ensures)

pub loop-first-preserved : goal.loop-first-preserved
loop-first-preserved c =
    let next = c.in-Some.next.now in
    let taken : c.loop-first.rest.now ≡ c.in-Some.first.now ∷ next = search (rules, tests) in
    let first : c.in-Some.first.now ≡ 239 = grind arith in
    ap are_allowed c.after_plain-rest-in-Some.ensures ∙ allowed_after next
    ∙ allowed_step c.in-Some.first.now next c.loop-first.rest.now taken first (sym c.ends_noncharacter.ensures ∙ c.if-ends_noncharacter.false)
    ∙ c.loop-first.invariant
