-- The tokens of a row's object with its detail.
use Rattle.std.proofs.Common.{◌≡◌, ◌∙◌, ℕ, List, [], ◌∷◌, ◌++◌, codes, decimal, Option, Some, None, ℤ, ap, refl, append_assoc}
use Rattle.std.specs.List.{flat_map}
use Rattle.json.specs.Token.{Token, begin_object, end_object, begin_array, end_array, boolean, key, string, number}
use Rattle.json.specs.Print.{print}
use Rattle.json.specs.Tree.{json_tokens, items_tokens}
use Rattle.serde_json.proofs.Texts.{print-outline}
use Rattle.serde_json.specs.Data.{Data, unsigned, object, member, no_members}
use Rattle.serde_json.specs.Data as value
use Rattle.serde_json.specs.Written.{items_outline, outline}
use Rattle.redl_excerpts.specs.declared.last_word.LastWord.{LastWord}
use Rattle.redl_places.specs.Texts.{place_text}
use Rattle.redl_kinds.specs.KindNames.{kind_name}
use Rattle.redl_journal.specs.Journals.{word_text}
use Rattle.redl_listing.specs.Changed.{change_tokens, changed_tokens, json_changed, json_more, more_token}
use Rattle.redl_listing.proofs.ChangedLaws.{changed_are}
use Rattle.redl_listing.specs.Remarks.{json_remarks, more_remarks, remark_tokens, remarks_tokens}
use Rattle.redl_listing.proofs.RemarkLaws.{remarks_are}
use Rattle.redl_listing.specs.declared.row.Row.{Row}
use Rattle.redl_listing.specs.Full.{behind_tokens, clause_tokens, front_tokens, full_row, id_token, json_id, json_says, said_tokens}
use Rattle.redl_formats.specs.Fields.{date_token, json_date, verdict_name}

-- the tokens behind the last words
abbrev end_tokens : Row → List Token
end_tokens row = key (codes "verdict") ∷ string (verdict_name row.verdict) ∷ key (codes "words") ∷ string row.detail.words ∷ end_object ∷ []

-- those between the changed properties and the comments, with this many more and this clause, and what follows
abbrev clause_with : Option ℕ → Option (List ℕ) → List Token → List Token
clause_with more clause rest =
    key (codes "changed_more") ∷ more_token more ∷ key (codes "clause") ∷ id_token clause ∷ key (codes "comments") ∷ begin_array ∷ rest

-- those between the comments and the last words, with this date and this id, and what follows
abbrev behind_with : Row → Option ℤ → Option (List ℕ) → List Token → List Token
behind_with row seconds id rest =
    key (codes "comments_more") ∷ number (decimal (more_remarks row.detail.remarks)) ∷ key (codes "date") ∷ date_token seconds
    ∷ key (codes "edit") ∷ number (decimal row.detail.edit) ∷ key (codes "hidden") ∷ boolean row.detail.hidden ∷ key (codes "id") ∷ id_token id
    ∷ key (codes "kind") ∷ string (kind_name row.kind) ∷ key (codes "members") ∷ number (decimal row.members)
    ∷ key (codes "number") ∷ number (decimal row.number) ∷ key (codes "part") ∷ string row.part
    ∷ key (codes "place") ∷ string (place_text row.detail.place) ∷ key (codes "says") ∷ begin_array ∷ rest

-- those of the object, with these tokens of changed properties and what follows
abbrev tokens_with : Row → List Token → List Token
tokens_with row rest =
    begin_object ∷ key (codes "after") ∷ string row.detail.after ∷ key (codes "author") ∷ string row.author
    ∷ key (codes "before") ∷ string row.detail.before ∷ key (codes "changed") ∷ begin_array ∷ rest

-- the tokens of a row
abbrev pub full_tokens : Row → List Token
full_tokens row =
    tokens_with row (flat_map change_tokens row.detail.changed.changes
    ++ (end_array ∷ clause_with row.detail.changed.more row.detail.clause (flat_map remark_tokens row.detail.remarks.first
    ++ (end_array ∷ behind_with row row.seconds row.detail.id (flat_map said_tokens row.detail.says ++ (end_array ∷ end_tokens row))))))

-- the object of a row with this many more, this clause, this date and this id
abbrev object_with : Row → Option ℕ → Option (List ℕ) → Option ℤ → Option (List ℕ) → Data
object_with row more clause seconds id =
    object (member (codes "after") (value.string row.detail.after)
    (member (codes "author") (value.string row.author)
    (member (codes "before") (value.string row.detail.before)
    (member (codes "changed") (value.array (json_changed row.detail.changed.changes))
    (member (codes "changed_more") (json_more more)
    (member (codes "clause") (json_id clause)
    (member (codes "comments") (value.array (json_remarks row.detail.remarks.first))
    (member (codes "comments_more") (value.number (unsigned (more_remarks row.detail.remarks)))
    (member (codes "date") (json_date seconds)
    (member (codes "edit") (value.number (unsigned row.detail.edit))
    (member (codes "hidden") (value.boolean row.detail.hidden)
    (member (codes "id") (json_id id)
    (member (codes "kind") (value.string (kind_name row.kind))
    (member (codes "members") (value.number (unsigned row.members))
    (member (codes "number") (value.number (unsigned row.number))
    (member (codes "part") (value.string row.part)
    (member (codes "place") (value.string (place_text row.detail.place))
    (member (codes "says") (value.array (json_says row.detail.says))
    (member (codes "verdict") (value.string (verdict_name row.verdict))
    (member (codes "words") (value.string row.detail.words) no_members))))))))))))))))))))

-- the tokens of the last words, and what follows
says_tokens : (says : List LastWord) (rest : List Token) → flat_map said_tokens says ++ (end_array ∷ rest) ≡ items_tokens (items_outline (json_says says)) ++ rest
says_tokens [] rest = refl
says_tokens (said ∷ more) rest =
    ap (λ (ts : List Token). begin_object ∷ key (codes "reviewer") ∷ string said.reviewer ∷ key (codes "word") ∷ string (word_text said.word) ∷ end_object ∷ ts) (says_tokens more rest)

tokens_are : (row : Row) (more : Option ℕ) (clause : Option (List ℕ)) (seconds : Option ℤ) (id : Option (List ℕ))
    → tokens_with row (items_tokens (items_outline (json_changed row.detail.changed.changes)) ++ clause_with more clause (items_tokens (items_outline (json_remarks row.detail.remarks.first))
    ++ behind_with row seconds id (items_tokens (items_outline (json_says row.detail.says)) ++ end_tokens row)))
    ≡ json_tokens (outline (object_with row more clause seconds id))
tokens_are row None None None None = refl
tokens_are row None None None (Some id) = refl
tokens_are row None None (Some seconds) None = refl
tokens_are row None None (Some seconds) (Some id) = refl
tokens_are row None (Some clause) None None = refl
tokens_are row None (Some clause) None (Some id) = refl
tokens_are row None (Some clause) (Some seconds) None = refl
tokens_are row None (Some clause) (Some seconds) (Some id) = refl
tokens_are row (Some more) None None None = refl
tokens_are row (Some more) None None (Some id) = refl
tokens_are row (Some more) None (Some seconds) None = refl
tokens_are row (Some more) None (Some seconds) (Some id) = refl
tokens_are row (Some more) (Some clause) None None = refl
tokens_are row (Some more) (Some clause) None (Some id) = refl
tokens_are row (Some more) (Some clause) (Some seconds) None = refl
tokens_are row (Some more) (Some clause) (Some seconds) (Some id) = refl

-- printed, they are the row's object
pub full-printed : (row : Row) → print (full_tokens row) ≡ full_row row
unfolding full_row
full-printed row =
    let first = row.detail.remarks.first in
    let clause = clause_with row.detail.changed.more row.detail.clause in
    let behind = behind_with row row.seconds row.detail.id in
    let said = flat_map said_tokens row.detail.says ++ (end_array ∷ end_tokens row) in
    let changed = items_tokens (items_outline (json_changed row.detail.changed.changes)) in
    let remarks = items_tokens (items_outline (json_remarks first)) in
    ap print (ap (tokens_with row) (changed_are row.detail.changed.changes (clause (flat_map remark_tokens first ++ (end_array ∷ behind said)))
    ∙ ap (λ (ts : List Token). changed ++ clause ts) (remarks_are first (behind said))
    ∙ ap (λ (ts : List Token). changed ++ clause (remarks ++ behind ts)) (says_tokens row.detail.says (end_tokens row)))
    ∙ tokens_are row row.detail.changed.more row.detail.clause row.seconds row.detail.id)
    ∙ print-outline (object_with row row.detail.changed.more row.detail.clause row.seconds row.detail.id)

-- ---- tokens one after another

-- those of three members, the last with its name apart
pub facts_more : (tokens : List Token) (a b c d e f : Token)
    → (((tokens ++ a ∷ b ∷ []) ++ c ∷ d ∷ []) ++ e ∷ []) ++ f ∷ [] ≡ tokens ++ (a ∷ b ∷ c ∷ d ∷ e ∷ f ∷ [])
facts_more [] a b c d e f = refl
facts_more (token ∷ tokens) a b c d e f = ap (λ (ts : List Token). token ∷ ts) (facts_more tokens a b c d e f)

-- those of five members
members_behind : (tokens : List Token) (a b c d e f g h i j : Token)
    → ((((tokens ++ a ∷ b ∷ []) ++ c ∷ d ∷ []) ++ e ∷ f ∷ []) ++ g ∷ h ∷ []) ++ i ∷ j ∷ [] ≡ tokens ++ (a ∷ b ∷ c ∷ d ∷ e ∷ f ∷ g ∷ h ∷ i ∷ j ∷ [])
members_behind [] a b c d e f g h i j = refl
members_behind (token ∷ tokens) a b c d e f g h i j = ap (λ (ts : List Token). token ∷ ts) (members_behind tokens a b c d e f g h i j)

-- those of five members after others
pub members_more : (tokens facts : List Token) (a b c d e f g h i j : Token)
    → (((((tokens ++ facts) ++ a ∷ b ∷ []) ++ c ∷ d ∷ []) ++ e ∷ f ∷ []) ++ g ∷ h ∷ []) ++ i ∷ j ∷ [] ≡ tokens ++ (facts ++ (a ∷ b ∷ c ∷ d ∷ e ∷ f ∷ g ∷ h ∷ i ∷ j ∷ []))
members_more tokens facts a b c d e f g h i j =
    members_behind (tokens ++ facts) a b c d e f g h i j ∙ append_assoc tokens facts (a ∷ b ∷ c ∷ d ∷ e ∷ f ∷ g ∷ h ∷ i ∷ j ∷ [])

-- those of three members, and four lists
pub front_more : (tokens changed clause remarks behind : List Token) (a b c d e f : Token)
    → ((((((tokens ++ a ∷ b ∷ []) ++ c ∷ d ∷ []) ++ e ∷ f ∷ []) ++ changed) ++ clause) ++ remarks) ++ behind ≡ tokens ++ (a ∷ b ∷ c ∷ d ∷ e ∷ f ∷ (changed ++ (clause ++ (remarks ++ behind))))
front_more [] changed clause remarks behind a b c d e f =
    ap (λ (ts : List Token). a ∷ b ∷ c ∷ d ∷ e ∷ f ∷ ts) (append_assoc (changed ++ clause) remarks behind ∙ append_assoc changed clause (remarks ++ behind))
front_more (token ∷ tokens) changed clause remarks behind a b c d e f = ap (λ (ts : List Token). token ∷ ts) (front_more tokens changed clause remarks behind a b c d e f)

-- those of a last word
pub said_more : (tokens : List Token) (a b c d e f : Token) → (((tokens ++ a ∷ []) ++ b ∷ c ∷ []) ++ d ∷ e ∷ []) ++ f ∷ [] ≡ tokens ++ (a ∷ b ∷ c ∷ d ∷ e ∷ f ∷ [])
said_more [] a b c d e f = refl
said_more (token ∷ tokens) a b c d e f = ap (λ (ts : List Token). token ∷ ts) (said_more tokens a b c d e f)

-- those of the last words
pub says_more : (tokens says : List Token) (a b c : Token) → (((tokens ++ a ∷ []) ++ b ∷ []) ++ says) ++ c ∷ [] ≡ tokens ++ (a ∷ b ∷ (says ++ c ∷ []))
says_more [] says a b c = refl
says_more (token ∷ tokens) says a b c = ap (λ (ts : List Token). token ∷ ts) (says_more tokens says a b c)

-- those behind the last words
ended : (says : List Token) (c d e f g h : Token) → (((says ++ c ∷ []) ++ d ∷ e ∷ []) ++ f ∷ g ∷ []) ++ h ∷ [] ≡ says ++ (c ∷ d ∷ e ∷ f ∷ g ∷ h ∷ [])
ended says c d e f g h = said_more says c d e f g h

-- all of them
pub whole_more : (front says : List Token) (p q a b c d e f g h : Token)
    → ((((front ++ p ∷ q ∷ []) ++ (a ∷ b ∷ (says ++ c ∷ []))) ++ d ∷ e ∷ []) ++ f ∷ g ∷ []) ++ h ∷ [] ≡ front ++ (p ∷ q ∷ a ∷ b ∷ (says ++ (c ∷ d ∷ e ∷ f ∷ g ∷ h ∷ [])))
whole_more [] says p q a b c d e f g h = ap (λ (ts : List Token). p ∷ q ∷ a ∷ b ∷ ts) (ended says c d e f g h)
whole_more (token ∷ front) says p q a b c d e f g h = ap (λ (ts : List Token). token ∷ ts) (whole_more front says p q a b c d e f g h)

-- all of them, where the first ones are those of a row
pub row_more : (row : Row)
    → (begin_object ∷ front_tokens row) ++ (key (codes "place") ∷ string (place_text row.detail.place) ∷ key (codes "says") ∷ begin_array ∷ (flat_map said_tokens row.detail.says ++ (end_array ∷ end_tokens row))) ≡ full_tokens row
row_more row =
    let rest = key (codes "place") ∷ string (place_text row.detail.place) ∷ key (codes "says") ∷ begin_array ∷ (flat_map said_tokens row.detail.says ++ (end_array ∷ end_tokens row)) in
    let front = λ (ts : List Token). begin_object ∷ key (codes "after") ∷ string row.detail.after ∷ key (codes "author") ∷ string row.author
    ∷ key (codes "before") ∷ string row.detail.before ∷ ts in
    let changed = flat_map change_tokens row.detail.changed.changes in
    let remarks = flat_map remark_tokens row.detail.remarks.first in
    let more = end_array ∷ key (codes "comments_more") ∷ number (decimal (more_remarks row.detail.remarks)) ∷ [] in
    let later = clause_tokens row ++ (remarks_tokens row.detail.remarks ++ behind_tokens row) in
    ap front (append_assoc (changed_tokens row.detail.changed.changes) later rest
    ∙ ap (λ (ts : List Token). key (codes "changed") ∷ begin_array ∷ ts) (append_assoc changed (end_array ∷ []) (later ++ rest)
    ∙ ap (λ (ts : List Token). changed ++ (end_array ∷ clause_with row.detail.changed.more row.detail.clause ts))
    (append_assoc (remarks ++ more) (behind_tokens row) rest ∙ append_assoc remarks more (behind_tokens row ++ rest))))
