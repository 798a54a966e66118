use Rattle.std.proofs.Common.{◌≡◌, ◌∷◌, false, true, sym, ◌∙◌, rules, tests}
use Rattle.redl_markup.proofs.Alike.{distinct_step}
use Rattle.redl_markup.proofs.distinct.few_unlike.Goals as goal

pub returns-then-not-is_unlike : goal.returns-then-not-is_unlike
returns-then-not-is_unlike c =
    let taken : c.loop-first.left.rest.now ≡ c.in-Some.first.now ∷ c.next.new.self.rest.now = search (rules, tests) in
    let alike = rw c.as_slice.ensures.value at (sym c.is_unlike.ensures ∙ c.if-not-is_unlike.true) in
    sym (distinct_step c.in-Some.first.now c.next.new.self.rest.now c.loop-first.left.rest.now false taken alike) ∙ c.loop-first.invariant

pub loop-first-preserved : goal.loop-first-preserved
loop-first-preserved c =
    let taken : c.loop-first.left.rest.now ≡ c.in-Some.first.now ∷ c.next.new.self.rest.now = search (rules, tests) in
    let unlike = rw c.as_slice.ensures.value at (sym c.is_unlike.ensures ∙ c.if-not-is_unlike.false) in
    sym (distinct_step c.in-Some.first.now c.next.new.self.rest.now c.loop-first.left.rest.now true taken unlike) ∙ c.loop-first.invariant
