-- Worked rows: what bytes show, by computing.
use Rattle.std.proofs.Common.{◌≡◌, codes, refl}
use Rattle.redl_grammar.specs.References.{reference_at, named_at, number_at}
use Rattle.redl_grammar.specs.Characters.{is_character}
use Rattle.redl_shown.specs.Shown.{shown}
use lib.Utf8.{encode}

shows : (shown (codes "a<!--><b>--c-->d") ≡ codes "ad")
    × (shown (codes "<![CDATA[<&amp;]]]]>&#62;<?x ?>>") ≡ codes "<&amp;]]>>")
    × (shown (codes "&amp;lt;\r\n") ≡ codes "&lt;\r\n")
unfolding reference_at named_at number_at is_character encode
shows = (refl, refl, refl)
