use Rattle.std.proofs.Common.{◌≡◌, ◌∙◌, ap, refl, ℕ, List, Bool, false}
use Rattle.std.specs.Option.{option_copied}
use Rattle.std.proofs.Math.Path.{fun_ext}
use Rattle.std.proofs.lemmas.Result.{IfOk-weaker}
use Rattle.redl_left.specs.Finds.{first_row}
use Rattle.redl_left.specs.Lines.{naming}
use Rattle.redl_left.specs.Named.{named_of}
use Rattle.redl_left.specs.declared.fact.Fact.{Fact}
use Rattle.redl_left.proofs.search.first_naming.Goals as goal

pub returns : goal.returns
returns c =
    let asked = c.args.asked.now in
    let none : named_of c.none-nothing.result ≡ (λ (fact : Fact). λ (value : List ℕ). false) = fun_ext (λ fact. fun_ext (λ value. c.none-nothing.ensures fact value)) in
    IfOk-weaker c.first_row.result _ (λ found. option_copied found ≡ naming.first asked.parent.now asked.space asked.local.now asked.tail.now)
    (λ found e. e
    ∙ ap (λ (named : Fact → List ℕ → Bool). first_row named c.naming_for.result.now asked.parent.now asked.space asked.local.now asked.tail.now) none
    ∙ c.naming_for.ensures (λ fact value. false) asked.parent.now asked.space asked.local.now asked.tail.now refl)
    c.first_row.ensures
