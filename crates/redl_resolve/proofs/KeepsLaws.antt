-- The pass keeps the text that survives, and the rules of structure.
use Rattle.std.proofs.Common.{◌≡◌, List}
use Rattle.redl_resolve.specs.Keeps.{KeepsText, KeepsRules}
use Rattle.redl_laws.proofs.Survival.Indexed.{survival-package}
use Rattle.redl_laws.proofs.Soundness.AllRules.{again_1, again_2, again_3, again_4, again_5, again_6, again_7, again_8, again_9, IsSoundPackage}
use Rattle.redl_tree.specs.Model.Nodes.{Nodes}
use Rattle.redl_tree.specs.Decisions.Packages.{pass_package}
use Rattle.redl_tree.specs.declared.kinds.Say.{Say}

pub keeps_text : (says : List Say) (given result : Nodes) → result ≡ pass_package says given → KeepsText says given result
keeps_text says given result passed = λ value indexed. rw passed (survival-package value says given indexed)

pub keeps_rules : (says : List Say) (given result : Nodes) → result ≡ pass_package says given → KeepsRules given result
keeps_rules says given result passed = λ value has_id declares indexed sound.
    let p : IsSoundPackage value has_id declares given = record { indexed = indexed; sound = sound } in
    rw passed (record {
      rule_1 = again_1 value has_id declares says given p;
      rule_2 = again_2 value has_id declares says given p;
      rule_3 = again_3 value has_id declares says given p;
      rule_4 = again_4 value has_id declares says given p;
      rule_5 = again_5 value has_id declares says given p;
      rule_6 = again_6 value has_id declares says given p;
      rule_7 = again_7 value has_id declares says given p;
      rule_8 = again_8 value has_id declares says given p;
      rule_9 = again_9 value has_id declares says given p;
    })
