-- The signs of notes (ECMA-376 Part 1, 17.11; which sign a note has is `redl_places`' rule): footnotes are counted in decimal and endnotes
-- in small Roman numerals, as word processors show them.
use Rattle.std.specs.Prelude.{ℕ, List, [], ◌∷◌, codes, decimal, Option, Some, None}
use Rattle.redl_numerals.specs.Numerals.{roman_text}
use Rattle.redl_order.specs.References.{id_in}
use Rattle.redl_html.specs.Pieces.{HtmlPiece, own, outside}
use Rattle.redl_places.specs.Places.{Signs}
use Rattle.redl_places.specs.declared.sign.NoteSign.{NoteSign}
use Rattle.redl_places.specs.declared.sign.NoteSign.TheVariants.{Own, Count}

-- a sign whose count is written so; a note that no reference names has none
abbrev pub sign_shown : (ℕ → List ℕ) → Option NoteSign → List ℕ
sign_shown counted None = []
sign_shown counted (Some Own) = codes "*"
sign_shown counted (Some (Count n)) = counted n

abbrev pub small_roman : ℕ → List ℕ
small_roman n = roman_text 32 n

-- the signs of the notes that a tag with this tail names, or is
abbrev pub footnote_sign : Signs → List ℕ → List ℕ
footnote_sign signs tail = sign_shown decimal (signs.footnote (id_in tail))

abbrev pub endnote_sign : Signs → List ℕ → List ℕ
endnote_sign signs tail = sign_shown small_roman (signs.endnote (id_in tail))

-- a sign and its end
abbrev pub note_pieces : List ℕ → List HtmlPiece
note_pieces sign = outside sign ∷ own "</sup>" ∷ []
