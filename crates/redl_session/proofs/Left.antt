-- What a pass leaves of a sound package with numbers: the text that survives, in a sound package.
use Rattle.std.proofs.Common.{◌≡◌, ℕ, ◌+◌, List, [], ◌∷◌, Bool, true, false, None, Some, map, refl, if◌then◌else◌}
use Rattle.std.proofs.lemmas.Bool.{and_from}
use Rattle.std.specs.Prelude.{◌&&◌}
use Rattle.std.specs.List.{list_all}
use Rattle.redl_index.specs.Numbers.{numbered_package}
use Rattle.redl_rules.specs.Attributes.{broken_rule, declares, has_id, rules}
use Rattle.redl_stamp.specs.Attribute.{attribute_value}
use Rattle.redl_laws.proofs.Survival.Indexed.{survival-package}
use Rattle.redl_laws.proofs.Soundness.AllRules.{soundness}
use Rattle.redl_tree.specs.Decisions.Packages.{pass_package, stories}
use Rattle.redl_tree.specs.Decisions.Survivors.{survivors, text_pieces}
use Rattle.redl_tree.specs.Model.Nodes.{Nodes}
use Rattle.redl_tree.specs.Model.View.{Element}
use Rattle.redl_tree.specs.Rules.Tests.{Test}
use Rattle.redl_tree.specs.Rules.Sound.{first_broken, holds}
use Rattle.redl_tree.specs.declared.kinds.Say.{Say}

-- no rule is broken exactly where all hold
all_hold : (number : ℕ) (tests : List Test) (parts : List Element) → first_broken number tests parts ≡ None → list_all (λ test. holds test parts) tests ≡ true
all_hold number [] parts is = refl
all_hold number (test ∷ later) parts is = by (holds test parts) refl (all_hold (number + 1) later parts) is where
  by : (b : Bool) → holds test parts ≡ b → (first_broken (number + 1) later parts ≡ None → list_all (λ other. holds other parts) later ≡ true)
      → (if b then first_broken (number + 1) later parts else Some number) ≡ None → list_all (λ other. holds other parts) (test ∷ later) ≡ true
  by true e rest none = and_from (holds test parts) (list_all (λ other. holds other parts) later) e (rest none)
  by false e rest none = absurd (cc none)

none_broken : (number : ℕ) (tests : List Test) (parts : List Element) → list_all (λ test. holds test parts) tests ≡ true → first_broken number tests parts ≡ None
none_broken number [] parts is = refl
none_broken number (test ∷ later) parts is = by (holds test parts) is (none_broken (number + 1) later parts) where
  by : (b : Bool) → (b && list_all (λ other. holds other parts) later) ≡ true
      → (list_all (λ other. holds other parts) later ≡ true → first_broken (number + 1) later parts ≡ None)
      → (if b then first_broken (number + 1) later parts else Some number) ≡ None
  by true all rest = rest all
  by false all rest = absurd (cc all)

-- the texts of the stories after the verdicts are those that survive them
pub left_survives : (says : List Say) (nodes : Nodes) → numbered_package nodes ≡ nodes
    → map text_pieces (stories (pass_package says nodes)) ≡ map (survivors says) (stories nodes)
left_survives says nodes numbered = survival-package attribute_value says nodes numbered

-- a package that keeps the rules of structure keeps them after its verdicts
pub left_is_sound : (says : List Say) (nodes : Nodes) → numbered_package nodes ≡ nodes → broken_rule nodes ≡ None → broken_rule (pass_package says nodes) ≡ None
left_is_sound says nodes numbered none =
    none_broken 1 rules (stories (pass_package says nodes))
    (soundness attribute_value has_id declares says nodes (record { indexed = numbered; sound = all_hold 1 rules (stories nodes) none }))
