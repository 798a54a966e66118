-- What code keeps of signs and places, as the definitions see it.
use Rattle.std.specs.Prelude.{ℕ, List, Option, unwrap_or}
use Rattle.std.specs.BTreeMap.{get, get_by}
use Rattle.std.specs.Cmp.Lexicographic.{slice_cmp}
use Rattle.std.specs.Ordering.{nat_cmp}
use Rattle.redl_places.specs.Places.{Signs}
use Rattle.redl_places.specs.declared.sign.NoteSign.{NoteSign}
use Rattle.redl_places.specs.declared.sign.KindSigns.{KindSigns}
use Rattle.redl_places.specs.declared.sign.NoteSigns.{NoteSigns}
use Rattle.redl_places.specs.declared.place.StoryPlace.{StoryPlace}
use Rattle.redl_places.specs.declared.place.StoryPlace.TheVariants.{Document}
use Rattle.redl_places.specs.declared.places.Places.{Places}

-- the sign of the notes of one kind with this id
abbrev pub sign_at : KindSigns → List ℕ → Option NoteSign
sign_at signs id = get_by (λ k. slice_cmp nat_cmp id k.items) signs.by_id

abbrev pub signs_of : NoteSigns → Signs
signs_of signs = record { footnote = sign_at signs.footnotes; endnote = sign_at signs.endnotes }

-- the place of the revision with this number
abbrev pub place_at : Places → ℕ → StoryPlace
place_at places v = unwrap_or (get nat_cmp places.by_number v) Document
