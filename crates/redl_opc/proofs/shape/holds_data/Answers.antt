use Rattle.std.proofs.Common.{◌∙◌, sym, ap, refl}
use Rattle.redl_opc.specs.Elements.{only_element}
use Rattle.redl_opc.specs.Shape.{is_data_alone}
use Rattle.redl_opc.proofs.UnnamedLaws.{no_data}
use Rattle.redl_opc.proofs.shape.holds_data.Goals as goal

pub returns-in-Some : goal.returns-in-Some
returns-in-Some c =
    c.is_data.ensures ∙ sym (ap (λ ns. is_data_alone (only_element ns)) (sym c.kids.ensures.kids) ∙ ap is_data_alone c.in-Some.ensures.one)

pub returns-in-None : goal.returns-in-None
returns-in-None c =
    sym (ap (λ ns. is_data_alone (only_element ns)) (sym c.kids.ensures.kids) ∙ no_data _ (c.in-None.ensures.none refl))
