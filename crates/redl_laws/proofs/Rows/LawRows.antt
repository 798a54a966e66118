-- The laws' conditions are met by worked rows: they are indexed and sound, also where they hold moves, changes, joined
-- paragraphs and tables that go.
use Rattle.std.proofs.Common.{◌≡◌, refl, List, map, true}
use Rattle.redl_tree.specs.Decisions.Packages.{pass_package, stories}
use Rattle.redl_tree.specs.Rules.Sound.{tests, is_sound}
use Rattle.redl_tree.specs.Decisions.Survivors.{text_pieces, survivors}
use Rattle.redl_tree.specs.declared.kinds.Say.{Say}
use Rattle.redl_laws.proofs.Rows.Documents.{indexed}
use Rattle.redl_laws.proofs.Rows.Bodies.{row_7, row_9, row_10, row_24}
use Rattle.redl_laws.proofs.Survival.Indexed.{survival-package}
use Rattle.redl_laws.proofs.Soundness.AllRules.{soundness}
use Rattle.redl_laws.proofs.Rows.Tails.{value, has_id, declares}

again_7 : (says : List Say) → is_sound (tests has_id declares) (pass_package says (indexed row_7)) ≡ true
again_7 says = soundness value has_id declares says (indexed row_7) (record { indexed = refl; sound = refl })

again_10 : (says : List Say) → is_sound (tests has_id declares) (pass_package says (indexed row_10)) ≡ true
again_10 says = soundness value has_id declares says (indexed row_10) (record { indexed = refl; sound = refl })

again_24 : (says : List Say) → is_sound (tests has_id declares) (pass_package says (indexed row_24)) ≡ true
again_24 says = soundness value has_id declares says (indexed row_24) (record { indexed = refl; sound = refl })

texts_9 : (says : List Say) → map text_pieces (stories (pass_package says (indexed row_9))) ≡ map (survivors says) (stories (indexed row_9))
texts_9 says = survival-package value says (indexed row_9) refl
