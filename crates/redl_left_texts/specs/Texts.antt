-- The texts of the lines of what a document still holds (our own rule).
use Rattle.std.specs.Prelude.{ℕ, List, [], ◌∷◌, ◌++◌, ◌==◌, decimal, codes, true, if◌then◌else◌}
use Rattle.std.specs.Str.{is_utf8}
use Rattle.serde_json.specs.Data.{Data, string, number, unsigned, object, member, no_members}
use Rattle.serde_json.specs.Written.{compact_text}
use Rattle.redl_formats.specs.Formats.{array_of, lines_of}
use Rattle.redl_formats.specs.Fields.{space, newline, right_in, left_in}
use Rattle.redl_terminal.specs.Masks.{masked}
use Rattle.redl_terminal.specs.declared.extent.Extent.TheVariants.{Field}
use Rattle.redl_left.specs.Facts.{fact_name}
use Rattle.redl_left.specs.declared.line.Line.{Line}

-- what is told of the finds of a line, after a colon
abbrev pub told : List ℕ → List ℕ
told [] = []
told (b ∷ bs) = codes ": " ++ masked Field (b ∷ bs)

-- the fact and the count in columns, the part, and what is told
unfoldable pub text_line : Line → List ℕ
text_line line =
    left_in 15 (fact_name line.fact)
    ++ (space ++ (right_in 7 (decimal line.count) ++ (space ++ (masked Field line.part ++ (told line.value ++ newline)))))

-- a line for each
abbrev pub left_text : List Line → List ℕ
left_text lines = lines_of text_line lines true

-- ---- JSON (RFC 8259)

-- bytes that are UTF-8, as those of a package are; of others nothing
abbrev pub text_or_nothing : List ℕ → List ℕ
text_or_nothing bytes = if is_utf8 bytes then bytes else []

-- the line as an object, its members in the order of their names
abbrev pub json_object : Line → Data
json_object line =
    object (member (codes "count") (number (unsigned line.count))
    (member (codes "fact") (string (fact_name line.fact))
    (member (codes "part") (string (text_or_nothing line.part))
    (member (codes "value") (string (text_or_nothing line.value)) no_members))))

-- its text without white space
unfoldable pub json_line : Line → List ℕ
json_line line = compact_text (json_object line)

-- an array of the lines
abbrev pub left_json : List Line → List ℕ
left_json lines = array_of json_line lines true

-- a comma before all but the first
abbrev pub comma_at : ℕ → List ℕ
comma_at place = if place == 0 then [] else 44 ∷ []
