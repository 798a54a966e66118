-- The texts of the formats of reports (our own rule).
use Rattle.std.specs.Prelude.{ℕ, Bool, List, [], ◌∷◌, ◌++◌, decimal, codes}
use Rattle.json.specs.Token.{Token, key, string as string_token}
use Rattle.serde_json.specs.Data.{Data, Members, string, number, unsigned, object, member, no_members}
use Rattle.serde_json.specs.Written.{compact_text}
use Rattle.redl_kinds.specs.KindNames.{kind_name}
use Rattle.redl_formats.specs.Formats.{array_of, lines_of}
use Rattle.redl_formats.specs.Fields.{space, newline, right_in, left_in}
use Rattle.redl_terminal.specs.Masks.{masked}
use Rattle.redl_terminal.specs.declared.extent.Extent.TheVariants.{Field}
use Rattle.redl_report.specs.declared.line.ReportLine.{ReportLine}
use Rattle.redl_report.specs.declared.line.Role.{Role}
use Rattle.redl_report.specs.declared.line.Role.TheVariants.{Reviewer, Author, Kind}

abbrev pub role_name : Role → List ℕ
role_name Reviewer = codes "reviewer"
role_name Author = codes "author"
role_name (Kind kind) = codes "kind"

-- what a line ends with for a reader: the name of the kind, which follows its author's line, or else that of the person
abbrev pub label_of : Role → List ℕ → List ℕ
label_of (Kind kind) who = kind_name kind
label_of _ who = who

-- a count in its column, with a space after it
abbrev pub count_column : ℕ → List ℕ
count_column count = right_in 7 (decimal count) ++ space

-- the four counts in columns
unfoldable pub count_columns : ReportLine → List ℕ
count_columns line = count_column line.accept ++ (count_column line.reject ++ (count_column line.disputed ++ count_column line.undecided))

-- the role, the four counts and the name, or the kind's, in columns
unfoldable pub text_line : ReportLine → List ℕ
text_line line = left_in 8 (role_name line.role) ++ (space ++ (count_columns line ++ (masked Field (label_of line.role line.who) ++ newline)))

-- a line for each; closing adds nothing
abbrev pub text_report : List ReportLine → Bool → List ℕ
text_report = lines_of text_line

-- ---- JSON (RFC 8259)

-- with the kind that a line is about, if it is about one
abbrev pub with_kind : Role → Members → Members
with_kind (Kind kind) members = member (codes "kind") (string (kind_name kind)) members
with_kind _ members = members

-- the line as an object, its members in the order of their names; the line of a kind has its author's name too
abbrev pub json_object : ReportLine → Data
json_object line =
    object (member (codes "accept") (number (unsigned line.accept))
    (member (codes "disputed") (number (unsigned line.disputed))
    (with_kind line.role
    (member (codes "open") (number (unsigned line.undecided))
    (member (codes "reject") (number (unsigned line.reject))
    (member (codes "role") (string (role_name line.role))
    (member (codes "who") (string line.who) no_members)))))))

-- the tokens of the member with the kind
abbrev pub kind_tokens : Role → List Token
kind_tokens (Kind kind) = key (codes "kind") ∷ string_token (kind_name kind) ∷ []
kind_tokens _ = []

-- its text without white space
unfoldable pub json_line : ReportLine → List ℕ
json_line line = compact_text (json_object line)

-- an array of the lines, which closing ends
abbrev pub json_report : List ReportLine → Bool → List ℕ
json_report = array_of json_line
