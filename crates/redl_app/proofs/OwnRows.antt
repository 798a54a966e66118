-- Worked rows of `own_of`.
use Rattle.std.proofs.Common.{◌≡◌, [], ◌∷◌, None, Some, codes, refl}
use Rattle.redl_app.specs.Own.{own_of}
use Rattle.redl_app.specs.declared.own.Own.TheVariants.{Help, Command, Version}

no_words : own_of [] ≡ Some Help
no_words = refl

version : (own_of (codes "--version" ∷ []) ≡ Some Version) × (own_of (codes "-v" ∷ []) ≡ Some Version) × (own_of (codes "version" ∷ []) ≡ Some Version)
version = (refl, refl, refl)

short_help : own_of (codes "-h" ∷ []) ≡ Some Help
short_help = refl

a_word_for_help : own_of (codes "help" ∷ []) ≡ Some Help
a_word_for_help = refl

help_of_a_command : own_of (codes "list" ∷ codes "--help" ∷ []) ≡ Some Command
help_of_a_command = refl

version_of_a_command : own_of (codes "list" ∷ codes "--version" ∷ []) ≡ None
version_of_a_command = refl

help_before_a_command : own_of (codes "--help" ∷ codes "list" ∷ []) ≡ None
help_before_a_command = refl

help_after_two_words : own_of (codes "list" ∷ codes "P" ∷ codes "--help" ∷ []) ≡ None
help_after_two_words = refl

a_command_alone : own_of (codes "list" ∷ []) ≡ None
a_command_alone = refl
