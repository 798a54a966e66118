-- The texts of the three formats (our own rule).
use Rattle.std.specs.Prelude.{ℕ, Bool, List, ◌++◌, decimal, codes}
use Rattle.std.specs.List.{flat_map}
use Rattle.serde_json.specs.Data.{Data, string, number, unsigned, object, member, no_members}
use Rattle.serde_json.specs.Written.{compact_text}
use Rattle.redl_formats.specs.Dates.{date_text}
use Rattle.redl_formats.specs.Fields.{escape, json_date, left_in, newline, right_in, space, tab, verdict_name}
use Rattle.redl_formats.specs.Formats.{array_of, lines_of}
use Rattle.redl_kinds.specs.KindNames.{kind_name}
use Rattle.redl_listing.specs.declared.row.Row.{Row}
use Rattle.redl_terminal.specs.Masks.{masked}
use Rattle.redl_terminal.specs.declared.extent.Extent.TheVariants.{Field}

-- ---- columns

-- number, kind and verdict in columns, with a space after each
unfoldable pub decided_columns : Row → List ℕ
decided_columns row =
    right_in 7 (decimal row.number) ++ (space ++ (left_in 12 (kind_name row.kind) ++ (space ++ (left_in 8 (verdict_name row.verdict) ++ space))))

-- these, and date and author
unfoldable pub text_row : Row → List ℕ
text_row row = decided_columns row ++ (left_in 20 (date_text row.seconds) ++ (space ++ (masked Field row.author ++ newline)))

-- a line for each row; closing adds nothing
abbrev pub text_listing : List Row → Bool → List ℕ
text_listing = lines_of text_row

-- ---- fields with tabs between

-- number and kind, with a tab after each
unfoldable pub named_fields : Row → List ℕ
named_fields row = decimal row.number ++ (tab ++ (kind_name row.kind ++ tab))

-- these, and verdict and date, with a tab after each
unfoldable pub decided_fields : Row → List ℕ
decided_fields row = named_fields row ++ (verdict_name row.verdict ++ (tab ++ (date_text row.seconds ++ tab)))

-- these, and members, part and author with tabs between
unfoldable pub tab_row : Row → List ℕ
tab_row row =
    decided_fields row ++ (decimal row.members ++ (tab ++ (flat_map escape row.part ++ (tab ++ (flat_map escape row.author ++ newline)))))

-- a line for each row; closing adds nothing
abbrev pub tab_listing : List Row → Bool → List ℕ
tab_listing = lines_of tab_row

-- ---- JSON (RFC 8259)

-- the row as an object, its members in the order of their names
abbrev pub json_object : Row → Data
json_object row =
    object (member (codes "author") (string row.author)
    (member (codes "date") (json_date row.seconds)
    (member (codes "kind") (string (kind_name row.kind))
    (member (codes "members") (number (unsigned row.members))
    (member (codes "number") (number (unsigned row.number))
    (member (codes "part") (string row.part)
    (member (codes "verdict") (string (verdict_name row.verdict)) no_members)))))))

-- its text without white space
unfoldable pub json_row : Row → List ℕ
json_row row = compact_text (json_object row)

-- an array of the rows, which closing ends
abbrev pub json_listing : List Row → Bool → List ℕ
json_listing = array_of json_row
