use Rattle.redl_bare.specs.Package.{package_units}
use Rattle.redl_bare_sound.proofs.Injective.{same_by_text}
use Rattle.redl_bare_sound.proofs.PackageNames.{package_named}
use Rattle.redl_bare_sound.proofs.laws.bare_text_is_injective.Goals as goal

pub returns-clause-units : goal.returns-clause-units
returns-clause-units c = same_by_text

pub returns-clause-packages : goal.returns-clause-packages
returns-clause-packages c = λ one other e. same_by_text (package_units one) (package_units other) (package_named one) (package_named other) e
