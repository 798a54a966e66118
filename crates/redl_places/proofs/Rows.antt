-- Worked rows: signs of notes and places of revisions, by computing.
use Rattle.std.proofs.Common.{◌≡◌, codes, refl, Some, None}
use Rattle.redl_places.specs.Texts.{place_text}
use Rattle.redl_places.specs.declared.sign.NoteSign.TheVariants.{Own, Count}
use Rattle.redl_places.specs.declared.place.StoryPlace.TheVariants.{TextBox, Footnote, Endnote}
use Rattle.std.specs.Fmt.{digits}

in_a_footnote : place_text (Footnote (Some (Count 12))) ≡ codes "footnote 12"
unfolding digits
in_a_footnote = refl

in_an_endnote : place_text (Endnote (Some (Count 4))) ≡ codes "endnote iv"
unfolding digits
in_an_endnote = refl

with_its_own_sign : place_text (Footnote (Some Own)) ≡ codes "footnote *"
with_its_own_sign = refl

unnamed : place_text (Endnote None) ≡ codes "endnote"
unnamed = refl

in_a_text_box : place_text TextBox ≡ codes "text box"
in_a_text_box = refl
