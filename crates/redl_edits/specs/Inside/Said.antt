-- What changes of properties change, as the code keeps it by the numbers of their revisions.
use Rattle.std.specs.Prelude.{◌≡◌, ◌<◌, ℕ, length, find, slice_get, slice_index, Option, None, Some}
use Rattle.redl_changed.specs.Changed.{nothing_changed}
use Rattle.redl_changed.specs.declared.changed.ChangedSaid.{ChangedSaid}
use Rattle.redl_edits.specs.Formats.{is_of}
use Rattle.redl_edits.specs.declared.said.Said.{Said}

abbrev pub said_in : Option ChangedSaid → ChangedSaid
said_in None = nothing_changed
said_in (Some said) = said

-- each of so many numbers has the place of its first change, and one behind all where there is none
pub record IsFound (said : Said) (count : ℕ) : Type 0 where
  pub size : length said.places.items ≡ count
  pub found : (v : ℕ) → v < count → slice_get said.formats.items (slice_index said.places.items v) ≡ find (is_of v) said.formats.items
