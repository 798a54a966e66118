-- The tokens of the members `comments` and `comments_more`.
use Rattle.std.proofs.Common.{◌≡◌, ◌∙◌, ℕ, ℤ, List, [], ◌∷◌, ◌++◌, Option, Some, None, codes, sym, ap, refl, append_assoc}
use Rattle.std.specs.List.{flat_map}
use Rattle.json.specs.Token.{Token, begin_object, end_object, end_array, key, boolean, string}
use Rattle.json.specs.Tree.{json_tokens, items_tokens}
use Rattle.serde_json.specs.Data.{Data, object, member, no_members}
use Rattle.serde_json.specs.Data as value
use Rattle.serde_json.specs.Written.{items_outline, outline}
use Rattle.redl_excerpts.specs.declared.remark.Remark.{Remark}
use Rattle.redl_formats.specs.Fields.{date_token, json_date}
use Rattle.redl_listing.specs.Remarks.{json_parent, json_remark, json_remarks, parent_token, remark_tokens}

-- a comment with this date, which replies to the comment with this id
abbrev object_with : Remark → Option ℤ → Option (List ℕ) → Data
object_with remark seconds parent =
    object (member (codes "author") (value.string remark.author)
    (member (codes "date") (json_date seconds)
    (member (codes "done") (value.boolean remark.is_done)
    (member (codes "id") (value.string remark.id)
    (member (codes "reply_to") (json_parent parent)
    (member (codes "text") (value.string remark.text) no_members))))))

-- its tokens, and what follows
abbrev tokens_with : Remark → Option ℤ → Option (List ℕ) → List Token → List Token
tokens_with remark seconds parent rest =
    begin_object ∷ key (codes "author") ∷ string remark.author ∷ key (codes "date") ∷ date_token seconds ∷ key (codes "done") ∷ boolean remark.is_done
    ∷ key (codes "id") ∷ string remark.id ∷ key (codes "reply_to") ∷ parent_token parent ∷ key (codes "text") ∷ string remark.text ∷ end_object ∷ rest

tokens_are : (remark : Remark) (seconds : Option ℤ) (parent : Option (List ℕ)) (rest : List Token)
    → tokens_with remark seconds parent rest ≡ json_tokens (outline (object_with remark seconds parent)) ++ rest
tokens_are remark None None rest = refl
tokens_are remark None (Some id) rest = refl
tokens_are remark (Some seconds) None rest = refl
tokens_are remark (Some seconds) (Some id) rest = refl

-- the tokens of the items, and what follows
pub remarks_are : (remarks : List Remark) (rest : List Token)
    → flat_map remark_tokens remarks ++ (end_array ∷ rest) ≡ items_tokens (items_outline (json_remarks remarks)) ++ rest
remarks_are [] rest = refl
remarks_are (remark ∷ more) rest =
    let own = json_tokens (outline (json_remark remark)) in
    tokens_are remark remark.seconds remark.reply_to (flat_map remark_tokens more ++ (end_array ∷ rest))
    ∙ ap (λ (ts : List Token). own ++ ts) (remarks_are more rest)
    ∙ sym (append_assoc own (items_tokens (items_outline (json_remarks more))) rest)

-- ---- tokens one after another

-- those of a comment
pub remark_more : (tokens : List Token) (a b c d e f g h i j k l m n : Token)
    → ((((((((tokens ++ a ∷ []) ++ b ∷ c ∷ []) ++ d ∷ e ∷ []) ++ f ∷ []) ++ g ∷ []) ++ h ∷ i ∷ []) ++ j ∷ k ∷ []) ++ l ∷ m ∷ []) ++ n ∷ []
    ≡ tokens ++ (a ∷ b ∷ c ∷ d ∷ e ∷ f ∷ g ∷ h ∷ i ∷ j ∷ k ∷ l ∷ m ∷ n ∷ [])
remark_more [] a b c d e f g h i j k l m n = refl
remark_more (token ∷ tokens) a b c d e f g h i j k l m n = ap (λ (ts : List Token). token ∷ ts) (remark_more tokens a b c d e f g h i j k l m n)

-- those of both members
pub remarks_more : (tokens remarks : List Token) (a b c d e : Token)
    → ((((tokens ++ a ∷ []) ++ b ∷ []) ++ remarks) ++ c ∷ []) ++ d ∷ e ∷ [] ≡ tokens ++ (a ∷ b ∷ (remarks ++ c ∷ d ∷ e ∷ []))
remarks_more [] remarks a b c d e = ap (λ (ts : List Token). a ∷ b ∷ ts) (append_assoc remarks (c ∷ []) (d ∷ e ∷ []))
remarks_more (token ∷ tokens) remarks a b c d e = ap (λ (ts : List Token). token ∷ ts) (remarks_more tokens remarks a b c d e)
