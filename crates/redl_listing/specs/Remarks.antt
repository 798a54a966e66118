-- The members `comments` and `comments_more` of the format `full`: an object for each comment on a revision, at most 20, and how many more
-- there are; and how many there are, in a line of words (our own rule).
use Rattle.std.specs.Prelude.{ℕ, ◌-◌, ◌==◌, List, [], ◌∷◌, ◌++◌, codes, decimal, length, Option, None, Some, if◌then◌else◌}
use Rattle.std.specs.List.{flat_map}
use Rattle.json.specs.Token.{Token, begin_object, end_object, begin_array, end_array, key, boolean as boolean_token, null as null_token, number as number_token, string as string_token}
use Rattle.serde_json.specs.Data.{Data, Items, boolean, null, string, object, member, no_members, item, no_items}
use Rattle.redl_excerpts.specs.Remarks.{Remarks}
use Rattle.redl_excerpts.specs.declared.remark.Remark.{Remark}
use Rattle.redl_formats.specs.Fields.{date_token, json_date}

-- a comment, its members in the order of their names
abbrev pub json_parent : Option (List ℕ) → Data
json_parent None = null
json_parent (Some id) = string id

abbrev pub json_remark : Remark → Data
json_remark remark =
    object (member (codes "author") (string remark.author)
    (member (codes "date") (json_date remark.seconds)
    (member (codes "done") (boolean remark.is_done)
    (member (codes "id") (string remark.id)
    (member (codes "reply_to") (json_parent remark.reply_to)
    (member (codes "text") (string remark.text) no_members))))))

-- an item for each of them, in their order
abbrev pub json_remarks : List Remark → Items
json_remarks [] = no_items
json_remarks (remark ∷ more) = item (json_remark remark) (json_remarks more)

abbrev pub more_remarks : Remarks → ℕ
more_remarks remarks = remarks.count - length remarks.first

-- ---- the same as it is written

abbrev pub parent_token : Option (List ℕ) → Token
parent_token None = null_token
parent_token (Some id) = string_token id

abbrev pub remark_tokens : Remark → List Token
remark_tokens remark =
    begin_object ∷ key (codes "author") ∷ string_token remark.author ∷ key (codes "date") ∷ date_token remark.seconds ∷ key (codes "done") ∷ boolean_token remark.is_done
    ∷ key (codes "id") ∷ string_token remark.id ∷ key (codes "reply_to") ∷ parent_token remark.reply_to ∷ key (codes "text") ∷ string_token remark.text ∷ end_object ∷ []

-- both members
abbrev pub remarks_tokens : Remarks → List Token
remarks_tokens remarks =
    key (codes "comments") ∷ begin_array ∷ (flat_map remark_tokens remarks.first ++ (end_array ∷ key (codes "comments_more") ∷ number_token (decimal (more_remarks remarks)) ∷ []))

-- ---- in words

-- how many there are, with two spaces before that
abbrev pub remarks_words : ℕ → List ℕ
remarks_words count =
    if count == 0 then []
    else if count == 1 then codes "  (1 comment)"
    else codes "  (" ++ (decimal count ++ codes " comments)")
