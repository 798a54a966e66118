-- Examples of the definitions, each by computing.
use Rattle.std.proofs.Common.{◌≡◌, true, false, [], Some, None, refl}
use Rattle.std.specs.Prelude.{codes}
use Rattle.redl_grammar.specs.Characters.{is_character, is_name_start, is_name_character}
use Rattle.redl_grammar.specs.Names.{may_start, may_follow}
use Rattle.redl_grammar.specs.References.{named_at, number_at, reference_at}
use Rattle.redl_grammar.specs.Stretches.{is_comment, is_xml, is_version, is_encoding, is_standalone, ends_stretch}

characters : (is_character 0x1F ≡ false) × (is_character 0xD800 ≡ false) × (is_character 0xFFFE ≡ false) × (is_character 0x10_FFFF ≡ true) × (is_character 0x11_0000 ≡ false)
unfolding is_character
characters = (refl, refl, refl, refl, refl)

first_characters : (may_start true 58 ≡ true) × (may_start false 58 ≡ false) × (may_start false 45 ≡ false) × (may_start false 0xD7 ≡ false) × (may_start false 0xE_FFFF ≡ true) × (may_start false 0xF_0000 ≡ false)
unfolding may_start is_name_start
first_characters = (refl, refl, refl, refl, refl, refl)

further_characters : (may_follow true 58 ≡ true) × (may_follow false 58 ≡ false) × (may_follow false 45 ≡ true) × (may_follow false 0x2040 ≡ true) × (may_follow false 0x2041 ≡ false)
unfolding may_follow is_name_character is_name_start
further_characters = (refl, refl, refl, refl, refl)

references : (reference_at (codes "amp;x") ≡ Some (38, codes "x"))
    × (reference_at (codes "#65;") ≡ Some (65, []))
    × (reference_at (codes "#x0041;") ≡ Some (65, []))
    × (reference_at (codes "#xfFfD;") ≡ Some (0xFFFD, []))
    × (reference_at (codes "amp") ≡ None)
    × (reference_at (codes "#0;") ≡ None)
    × (reference_at (codes "#x;") ≡ None)
    × (reference_at (codes "#xD800;") ≡ None)
    × (reference_at (codes "#1114112;") ≡ None)
unfolding reference_at named_at number_at is_character
references = (refl, refl, refl, refl, refl, refl, refl, refl, refl)

comments : (is_comment (codes " - a") ≡ true) × (is_comment (codes "a--b") ≡ false) × (is_comment (codes "a-") ≡ false) × (is_comment [] ≡ true)
comments = (refl, refl, refl, refl)

settings : (is_version (codes "1.10") ≡ true) × (is_version (codes "1.") ≡ false) × (is_version (codes "2.0") ≡ false) × (is_encoding (codes "uTf-8") ≡ true) × (is_standalone (codes "YES") ≡ false) × (is_xml (codes "XmL") ≡ true)
unfolding is_version
settings = (refl, refl, refl, refl, refl, refl)

ends : (ends_stretch (codes "<a>") ≡ true) × (ends_stretch (codes "</a>") ≡ true) × (ends_stretch (codes "<?p?>") ≡ false) × (ends_stretch (codes "<!--") ≡ false) × (ends_stretch (codes "x") ≡ false)
ends = (refl, refl, refl, refl, refl)
