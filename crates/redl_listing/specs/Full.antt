-- The text of the format `full`: an array with an object for each row (RFC 8259), which has the members of `json` and the row's
-- detail (our own rule).
use Rattle.std.specs.Prelude.{ℕ, Bool, List, [], ◌∷◌, ◌++◌, codes, decimal, Option, Some, None}
use Rattle.json.specs.Token.{Token, begin_object, end_object, key, boolean as boolean_token, null as null_token, number as number_token, string as string_token}
use Rattle.serde_json.specs.Data.{Data, Items, boolean, null, string, number, unsigned, array, object, member, no_members, item, no_items}
use Rattle.serde_json.specs.Written.{compact_text}
use Rattle.redl_excerpts.specs.declared.last_word.LastWord.{LastWord}
use Rattle.redl_places.specs.Texts.{place_text}
use Rattle.redl_kinds.specs.KindNames.{kind_name}
use Rattle.redl_journal.specs.Journals.{word_text}
use Rattle.redl_listing.specs.declared.row.Row.{Row}
use Rattle.redl_listing.specs.Remarks.{json_remarks, more_remarks, remarks_tokens}
use Rattle.redl_listing.specs.Changed.{changed_tokens, json_changed, json_more, more_token}
use Rattle.redl_formats.specs.Formats.{array_of}
use Rattle.redl_formats.specs.Fields.{date_token, json_date, verdict_name}

-- a text that may be missing, as the own id of an element: null without one
abbrev pub json_id : Option (List ℕ) → Data
json_id None = null
json_id (Some id) = string id

-- the same as it is written: one token
abbrev pub id_token : Option (List ℕ) → Token
id_token None = null_token
id_token (Some id) = string_token id

-- who said what
abbrev pub json_said : LastWord → Data
json_said said = object (member (codes "reviewer") (string said.reviewer) (member (codes "word") (string (word_text said.word)) no_members))

-- the same as it is written
abbrev pub said_tokens : LastWord → List Token
said_tokens said =
    begin_object ∷ key (codes "reviewer") ∷ string_token said.reviewer ∷ key (codes "word") ∷ string_token (word_text said.word) ∷ end_object ∷ []

-- an item for each last word, in their order
abbrev pub json_says : List LastWord → Items
json_says [] = no_items
json_says (said ∷ more) = item (json_said said) (json_says more)

-- the row as an object, its members in the order of their names
abbrev pub full_object : Row → Data
full_object row =
    object (member (codes "after") (string row.detail.after)
    (member (codes "author") (string row.author)
    (member (codes "before") (string row.detail.before)
    (member (codes "changed") (array (json_changed row.detail.changed.changes))
    (member (codes "changed_more") (json_more row.detail.changed.more)
    (member (codes "clause") (json_id row.detail.clause)
    (member (codes "comments") (array (json_remarks row.detail.remarks.first))
    (member (codes "comments_more") (number (unsigned (more_remarks row.detail.remarks)))
    (member (codes "date") (json_date row.seconds)
    (member (codes "edit") (number (unsigned row.detail.edit))
    (member (codes "hidden") (boolean row.detail.hidden)
    (member (codes "id") (json_id row.detail.id)
    (member (codes "kind") (string (kind_name row.kind))
    (member (codes "members") (number (unsigned row.members))
    (member (codes "number") (number (unsigned row.number))
    (member (codes "part") (string row.part)
    (member (codes "place") (string (place_text row.detail.place))
    (member (codes "says") (array (json_says row.detail.says))
    (member (codes "verdict") (string (verdict_name row.verdict))
    (member (codes "words") (string row.detail.words) no_members))))))))))))))))))))

-- the members between the changed properties and the comments, and those between these and the place, as they are written
abbrev pub clause_tokens : Row → List Token
clause_tokens row = key (codes "changed_more") ∷ more_token row.detail.changed.more ∷ key (codes "clause") ∷ id_token row.detail.clause ∷ []

abbrev pub fact_tokens : Row → List Token
fact_tokens row =
    key (codes "date") ∷ date_token row.seconds ∷ key (codes "edit") ∷ number_token (decimal row.detail.edit)
    ∷ key (codes "hidden") ∷ boolean_token row.detail.hidden ∷ []

abbrev pub behind_tokens : Row → List Token
behind_tokens row =
    fact_tokens row ++ (key (codes "id") ∷ id_token row.detail.id ∷ key (codes "kind") ∷ string_token (kind_name row.kind)
    ∷ key (codes "members") ∷ number_token (decimal row.members) ∷ key (codes "number") ∷ number_token (decimal row.number)
    ∷ key (codes "part") ∷ string_token row.part ∷ [])

-- those before the place
abbrev pub front_tokens : Row → List Token
front_tokens row =
    key (codes "after") ∷ string_token row.detail.after ∷ key (codes "author") ∷ string_token row.author
    ∷ key (codes "before") ∷ string_token row.detail.before ∷ (changed_tokens row.detail.changed.changes ++ (clause_tokens row ++ (remarks_tokens row.detail.remarks ++ behind_tokens row)))

-- its text without white space
unfoldable pub full_row : Row → List ℕ
full_row row = compact_text (full_object row)

-- an array of the rows, which closing ends
abbrev pub full_listing : List Row → Bool → List ℕ
full_listing = array_of full_row
