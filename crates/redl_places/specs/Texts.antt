-- Places in words (our own rule). Endnotes are counted in small Roman numerals, as word processors show them.
use Rattle.std.specs.Prelude.{ℕ, List, [], ◌++◌, codes, Option, Some, None}
use Rattle.redl_numerals.specs.Numerals.{plus_text}
use Rattle.redl_numerals.specs.declared.format.Format.{Format}
use Rattle.redl_numerals.specs.declared.format.Format.TheVariants.{Decimal, LowerRoman}
use Rattle.redl_places.specs.declared.sign.NoteSign.{NoteSign}
use Rattle.redl_places.specs.declared.sign.NoteSign.TheVariants.{Own, Count}
use Rattle.redl_places.specs.declared.place.StoryPlace.{StoryPlace}
use Rattle.redl_places.specs.declared.place.StoryPlace.TheVariants.{Document, Header, Footer, Comment, TextBox, Footnote, Endnote}

-- a sign in this form with a space before it; a note that no reference names has none
abbrev pub sign_text : Format → Option NoteSign → List ℕ
sign_text format None = []
sign_text format (Some Own) = codes " *"
sign_text format (Some (Count n)) = codes " " ++ plus_text format n

abbrev pub place_text : StoryPlace → List ℕ
place_text Document = codes "document"
place_text Header = codes "header"
place_text Footer = codes "footer"
place_text Comment = codes "comment"
place_text TextBox = codes "text box"
place_text (Footnote sign) = codes "footnote" ++ sign_text Decimal sign
place_text (Endnote sign) = codes "endnote" ++ sign_text LowerRoman sign
