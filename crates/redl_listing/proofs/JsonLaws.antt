-- The tokens of a row's object.
use Rattle.std.proofs.Common.{◌≡◌, List, [], ◌∷◌, codes, decimal, Option, Some, None, ℤ}
use Rattle.json.specs.Token.{Token, begin_object, end_object, key, string, number}
use Rattle.json.specs.Print.{print}
use Rattle.serde_json.proofs.Texts.{print-outline}
use Rattle.serde_json.specs.Data.{Data, unsigned, object, member, no_members}
use Rattle.serde_json.specs.Data as value
use Rattle.serde_json.specs.Written.{compact_text}
use Rattle.redl_kinds.specs.KindNames.{kind_name}
use Rattle.redl_listing.specs.declared.row.Row.{Row}
use Rattle.redl_formats.specs.Fields.{date_token, json_date, verdict_name}
use Rattle.redl_listing.specs.Texts.{json_row}

-- the tokens of a row with this date
abbrev tokens_with : Row → Option ℤ → List Token
tokens_with row seconds =
    begin_object ∷ key (codes "author") ∷ string row.author ∷ key (codes "date") ∷ date_token seconds
    ∷ key (codes "kind") ∷ string (kind_name row.kind) ∷ key (codes "members") ∷ number (decimal row.members)
    ∷ key (codes "number") ∷ number (decimal row.number) ∷ key (codes "part") ∷ string row.part
    ∷ key (codes "verdict") ∷ string (verdict_name row.verdict) ∷ end_object ∷ []

abbrev pub row_tokens : Row → List Token
row_tokens row = tokens_with row row.seconds

-- the object of a row with this date
abbrev object_with : Row → Option ℤ → Data
object_with row seconds =
    object (member (codes "author") (value.string row.author)
    (member (codes "date") (json_date seconds)
    (member (codes "kind") (value.string (kind_name row.kind))
    (member (codes "members") (value.number (unsigned row.members))
    (member (codes "number") (value.number (unsigned row.number))
    (member (codes "part") (value.string row.part)
    (member (codes "verdict") (value.string (verdict_name row.verdict)) no_members)))))))

printed-with : (row : Row) (seconds : Option ℤ) → print (tokens_with row seconds) ≡ compact_text (object_with row seconds)
printed-with row None = print-outline (object_with row None)
printed-with row (Some seconds) = print-outline (object_with row (Some seconds))

-- printed, they are the row's object
pub row-printed : (row : Row) → print (row_tokens row) ≡ json_row row
unfolding json_row
row-printed row = printed-with row row.seconds
