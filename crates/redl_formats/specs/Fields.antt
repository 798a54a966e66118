-- The fields of which formats make their texts: names, columns, fields with tabs between, and dates (our own rule).
use Rattle.std.specs.Prelude.{ℕ, ◌-◌, ◌==◌, Bool, true, false, List, [], ◌∷◌, ◌++◌, length, replicate, codes, if◌then◌else◌, Option, Some, None, ℤ}
use Rattle.json.specs.Token.{Token, null as null_token, string as string_token}
use Rattle.serde_json.specs.Data.{Data, null, string}
use Rattle.redl_formats.specs.Dates.{moment_text}
use Rattle.redl_join.specs.declared.verdict.Verdict.{Verdict}
use Rattle.redl_join.specs.declared.verdict.Verdict.TheVariants.{Undecided, Accept, Reject, Disputed}

-- the name of what was decided
abbrev pub verdict_name : Verdict → List ℕ
verdict_name Undecided = codes "open"
verdict_name Accept = codes "accept"
verdict_name Reject = codes "reject"
verdict_name Disputed = codes "disputed"

-- between two words
abbrev pub space : List ℕ
space = 32 ∷ []

-- between two fields
abbrev pub tab : List ℕ
tab = 9 ∷ []

-- the end of a line
abbrev pub newline : List ℕ
newline = 10 ∷ []

-- ---- columns

-- at the right end of so many places, or longer
abbrev pub right_in : ℕ → List ℕ → List ℕ
right_in width bytes = replicate (width - length bytes) 32 ++ bytes

-- at the left end of so many places, or longer
abbrev pub left_in : ℕ → List ℕ → List ℕ
left_in width bytes = bytes ++ replicate (width - length bytes) 32

-- ---- fields with tabs between

-- a byte as a field has it: backslashes, tabs and ends of lines have two bytes
unfoldable pub escape : ℕ → List ℕ
escape byte =
    if byte == 92 then codes "\\\\"
    else if byte == 9 then codes "\\t"
    else if byte == 10 then codes "\\n"
    else if byte == 13 then codes "\\r"
    else byte ∷ []

-- a byte that a field has as it is
abbrev pub is_unescaped : ℕ → Bool
is_unescaped byte =
    if byte == 92 then false
    else if byte == 9 then false
    else if byte == 10 then false
    else if byte == 13 then false
    else true

-- ---- JSON (RFC 8259)

-- a date, or null
abbrev pub json_date : Option ℤ → Data
json_date None = null
json_date (Some seconds) = string (moment_text seconds)

-- the same as it is written: one token
abbrev pub date_token : Option ℤ → Token
date_token None = null_token
date_token (Some seconds) = string_token (moment_text seconds)
