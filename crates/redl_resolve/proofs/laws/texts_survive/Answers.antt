use Rattle.std.proofs.Common.{refl}
use Rattle.redl_resolve.proofs.KeepsLaws.{keeps_text}
use Rattle.redl_tree.specs.Decisions.Packages.{pass_package}
use Rattle.redl_resolve.proofs.laws.texts_survive.Goals as goal

pub returns : goal.returns
returns c = λ says given. keeps_text says given (pass_package says given) refl
