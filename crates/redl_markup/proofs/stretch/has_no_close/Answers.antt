use Rattle.std.proofs.Common.{◌≡◌, ◌∙◌, [], ◌∷◌, rules, tests}
use Rattle.std.specs.Prelude.{codes}
use Rattle.redl_reading.specs.Lists.{lacks}
use Rattle.redl_reading.proofs.Words.{lacks_after}
use Rattle.redl_markup.proofs.stretch.has_no_close.Goals as goal

pub loop-rest-preserved : goal.loop-rest-preserved
loop-rest-preserved c =
    let next : lacks (codes "]]>") c.in-Some.rest.now ≡ lacks (codes "]]>") c.loop-rest.left.now = search (rules, tests) in
    rw c.far_until-in-Some.ensures.rest (lacks_after 93 (93 ∷ 62 ∷ []) c.in-Some.rest.now ∙ next ∙ c.loop-rest.invariant)
