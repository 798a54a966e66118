use Rattle.std.proofs.Common.{◌≡◌, ◌∙◌, ap, codes, refl, sym}
use Rattle.std.proofs.lemmas.Result.{IfOk-weaker}
use Rattle.redl_stamp.specs.Attribute.{attribute_value}
use Rattle.redl_left.specs.Finds.{value_or_nothing}
use Rattle.redl_left.proofs.AttributeLaws.{no_value}
use Rattle.redl_left.proofs.told.author.Goals as goal

pub returns-then-lacks_author : goal.returns-then-lacks_author
returns-then-lacks_author c =
    let tail = c.args.tail.now in
    IfOk-weaker c.copy_of.result _ (λ text. text ≡ value_or_nothing (attribute_value tail (codes "author")))
    (λ text e. e ∙ sym (ap value_or_nothing (no_value (codes "author") tail (c.if-lacks_author.ensures refl)))) c.copy_of.ensures
