-- Who made a revision and when, and what it is called (ECMA-376 Part 1, 17.13.5).
use Rattle.std.specs.Prelude.{ℕ, ℤ, List, [], codes, Option, unwrap_or, option_and_then}
use Rattle.redl_stamp.specs.declared.stamp.Stamp.{Stamp}
use Rattle.redl_stamp.specs.Attribute.{attribute_value}
use Rattle.redl_stamp.specs.Moment.{moment_of}

-- a missing author is the empty text
abbrev pub author_of : List ℕ → List ℕ
author_of tail = unwrap_or (attribute_value tail (codes "author")) []

-- the seconds of the date; none if it is missing or cannot be read
abbrev pub seconds_of : List ℕ → Option ℤ
seconds_of tail = option_and_then moment_of (attribute_value tail (codes "date"))

-- the stamp in a tag's tail
abbrev pub stamp_of : List ℕ → Stamp
stamp_of tail = record {
  author = author_of tail;
  seconds = seconds_of tail;
  name = attribute_value tail (codes "name");
  id = attribute_value tail (codes "id");
}
