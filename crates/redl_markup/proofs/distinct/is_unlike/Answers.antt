use Rattle.std.proofs.Common.{◌≡◌, ◌∷◌, false, true, sym, ◌∙◌, rules, tests}
use Rattle.redl_markup.specs.Views.{name_view}
use Rattle.redl_markup.proofs.Alike.{unlike_step}
use Rattle.redl_markup.proofs.distinct.is_unlike.Goals as goal

pub returns-then-are_alike : goal.returns-then-are_alike
returns-then-are_alike c =
    let taken : c.loop-other.left.rest.now ≡ c.in-Some.other.now ∷ c.next.new.self.rest.now = search (rules, tests) in
    sym (unlike_step (name_view c.args.name) c.in-Some.other.now c.next.new.self.rest.now c.loop-other.left.rest.now true taken (sym c.are_alike.ensures ∙ c.if-are_alike.true)) ∙ c.loop-other.invariant

pub loop-other-preserved : goal.loop-other-preserved
loop-other-preserved c =
    let taken : c.loop-other.left.rest.now ≡ c.in-Some.other.now ∷ c.next.new.self.rest.now = search (rules, tests) in
    sym (unlike_step (name_view c.args.name) c.in-Some.other.now c.next.new.self.rest.now c.loop-other.left.rest.now false taken (sym c.are_alike.ensures ∙ c.if-are_alike.false)) ∙ c.loop-other.invariant
