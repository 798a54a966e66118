-- An attribute as most programs write it is read as one.
use Rattle.std.proofs.Common.{◌≡◌, ◌∙◌, refl, sym, ap, ℕ, List, [], ◌∷◌, ◌++◌, Bool, true, false, true≢false, not, ◌==◌, ◌||◌, ◌⊎◌, append_assoc, codes, Some, find, inl, inr}
use Rattle.std.specs.List.{list_all, list_any}
use Rattle.std.specs.Option.{option_map}
use Rattle.std.proofs.lemmas.Bool.{and_from, and_parts}
use lib.Utf8.{encode}
use Rattle.redl_reading.specs.Lists.{after, begins, behind, front, is_none_of, is_other}
use Rattle.redl_reading.proofs.Runs.{front-after, front_passes}
use Rattle.redl_reading.proofs.Words.{behind_takes}
use Rattle.redl_grammar.specs.Characters.{is_name_character, is_name_start, is_space}
use Rattle.redl_grammar.specs.Names.{IsName, IsWord, Name, may_follow, may_start, name_text}
use Rattle.redl_grammar.specs.References.{has_references}
use Rattle.redl_grammar.specs.ScanTags.{attribute_in, is_plain, is_value}
use Rattle.redl_grammar.specs.Tails.{Attribute, IsAttribute, attribute_then}
use Rattle.redl_grammar.proofs.Attributes.{first_again, plain_value}
use Rattle.redl_markup.specs.Attributes.{attributes_of}
use Rattle.redl_markup.proofs.Listing.{lists_more}
use Rattle.redl_stamp.specs.Attribute.{has_local_name, written_value}
use Rattle.redl_left.specs.Finds.{Find, Table, found_among, found_names, has_front_name}
use Rattle.redl_left.specs.Fronts.{BeginsNone}
use Rattle.redl_left.specs.Usual.{IsFront, named}
use Rattle.redl_left.proofs.FrontLaws.{name_none}

-- ---- one attribute

abbrev the_attribute : Name → List ℕ → Attribute
the_attribute name value = record { gap = 32 ∷ []; name = name; left = []; right = []; quote = 34; value = value }

record Value (value : List ℕ) : Type 0 where
  no_tag : list_all (is_other 60) value ≡ true
  references : has_references value ≡ true

value_of : (value : List ℕ) → list_all is_plain value ≡ true → Value value
unfolding is_value
value_of value plain =
    let both = and_parts (list_all (is_other 60) value) (has_references value) (plain_value value plain) in
    record { no_tag = both.0; references = both.1 }

is_attribute : (name : Name) (value : List ℕ) → IsName name → list_all (is_other 34) value ≡ true → list_all is_plain value ≡ true → IsAttribute (the_attribute name value)
unfolding is_space
is_attribute name value legal quoted plain = record {
  gap = (λ e. absurd cc, refl);
  name = legal;
  left = refl;
  right = refl;
  quote = inl refl;
  no_quote = quoted;
  no_tag = (value_of value plain).no_tag;
  references = (value_of value plain).references;
}

-- what passes one test passes a weaker one
all_weaker : (p q : ℕ → Bool) → ((x : ℕ) → p x ≡ true → q x ≡ true) → (xs : List ℕ) → list_all p xs ≡ true → list_all q xs ≡ true
all_weaker p q weaker [] h = refl
all_weaker p q weaker (x ∷ xs) h =
    let both = and_parts (p x) (list_all p xs) h in
    and_from (q x) (list_all q xs) (weaker x both.0) (all_weaker p q weaker xs both.1)

none_of : (a b c : Bool) → not (a || b || c) ≡ true → (not a ≡ true) × (not b ≡ true) × (not c ≡ true)
none_of true b c h = absurd (true≢false (sym h))
none_of false true c h = absurd (true≢false (sym h))
none_of false false true h = absurd (true≢false (sym h))
none_of false false false h = (refl, refl, refl)

no_quote : (x : ℕ) → is_none_of 34 60 38 x ≡ true → is_other 34 x ≡ true
no_quote x h = (none_of (x == 34) (x == 60) (x == 38) h).0

no_sign : (x : ℕ) → is_none_of 34 60 38 x ≡ true → is_plain x ≡ true
no_sign x h =
    let each = none_of (x == 34) (x == 60) (x == 38) h in
    and_from (is_other 60 x) (is_other 38 x) each.1 each.2

-- what is read behind the front up to a quote, and the rest
pub usual : (name : Name) (t tail bytes value ahead rest : List ℕ) → IsFront name t → behind t tail ≡ Some bytes
    → value ≡ front (is_none_of 34 60 38) bytes → ahead ≡ after (is_none_of 34 60 38) bytes → behind (34 ∷ []) ahead ≡ Some rest
    → attributes_of tail ≡ (name, value) ∷ attributes_of rest
usual name t tail bytes value ahead rest is begun run later ended =
    let a = the_attribute name value in
    let more = value ++ (34 ∷ rest) in
    let of_bytes : bytes ≡ more =
    sym (front-after (is_none_of 34 60 38) bytes) ∙ ap (λ (v : List ℕ). v ++ after (is_none_of 34 60 38) bytes) (sym run)
    ∙ ap (λ (r : List ℕ). value ++ r) (sym later ∙ behind_takes (34 ∷ []) ahead rest ended) in
    let each : list_all (is_none_of 34 60 38) value ≡ true = ap (list_all (is_none_of 34 60 38)) run ∙ front_passes (is_none_of 34 60 38) bytes in
    let quoted = all_weaker (is_none_of 34 60 38) (is_other 34) no_quote value each in
    let plain = all_weaker (is_none_of 34 60 38) is_plain no_sign value each in
    let whole : tail ≡ attribute_then a rest =
    behind_takes t tail bytes begun ∙ ap (λ (f : List ℕ). f ++ bytes) is.whole ∙ ap (λ (b : List ℕ). (32 ∷ (name_text name ++ codes "=\"")) ++ b) of_bytes
    ∙ ap (λ (r : List ℕ). 32 ∷ r) (append_assoc (name_text name) (codes "=\"") more) in
    lists_more tail ((name, value), rest) (ap attribute_in whole ∙ first_again a rest (is_attribute name value is.legal quoted plain))

-- ---- names

w_word : IsWord false (codes "w")
unfolding may_start may_follow is_name_character is_name_start encode
w_word = record { first = 119; more = []; start = refl; each = refl; scalars = refl; whole = refl }

id_word : IsWord false (codes "id")
unfolding may_start may_follow is_name_character is_name_start encode
id_word = record { first = 105; more = codes "d"; start = refl; each = refl; scalars = refl; whole = refl }

author_word : IsWord false (codes "author")
unfolding may_start may_follow is_name_character is_name_start encode
author_word = record { first = 97; more = codes "uthor"; start = refl; each = refl; scalars = refl; whole = refl }

pub id_front : IsFront (named (codes "w") (codes "id")) (codes " w:id=\"")
id_front = record { whole = refl; legal = record { prefix = inr w_word; local = id_word } }

pub author_front : IsFront (named (codes "w") (codes "author")) (codes " w:author=\"")
author_front = record { whole = refl; legal = record { prefix = inr w_word; local = author_word } }

-- the author behind an id
pub behind_id : (tail rest later id author : List ℕ) → attributes_of tail ≡ (named (codes "w") (codes "id"), id) ∷ attributes_of rest
    → attributes_of rest ≡ (named (codes "w") (codes "author"), author) ∷ attributes_of later → written_value tail (codes "author") ≡ Some author
behind_id tail rest later id author first second =
    ap (λ (attributes : List (Name × List ℕ)). option_map (λ attribute. attribute.1) (find (has_local_name (codes "author")) attributes))
    (first ∙ ap (λ (more : List (Name × List ℕ)). (named (codes "w") (codes "id"), id) ∷ more) second)

-- ---- the ids of a paragraph

w14_word : IsWord false (codes "w14")
unfolding may_start may_follow is_name_character is_name_start encode
w14_word = record { first = 119; more = codes "14"; start = refl; each = refl; scalars = refl; whole = refl }

para_word : IsWord false (codes "paraId")
unfolding may_start may_follow is_name_character is_name_start encode
para_word = record { first = 112; more = codes "araId"; start = refl; each = refl; scalars = refl; whole = refl }

text_word : IsWord false (codes "textId")
unfolding may_start may_follow is_name_character is_name_start encode
text_word = record { first = 116; more = codes "extId"; start = refl; each = refl; scalars = refl; whole = refl }

pub para_front : IsFront (named (codes "w14") (codes "paraId")) (codes " w14:paraId=\"")
para_front = record { whole = refl; legal = record { prefix = inr w14_word; local = para_word } }

pub text_front : IsFront (named (codes "w14") (codes "textId")) (codes " w14:textId=\"")
text_front = record { whole = refl; legal = record { prefix = inr w14_word; local = text_word } }

-- a name that begins otherwise than both is behind them, or nowhere
pub behind_both : (tail mid rest para text : List ℕ) → attributes_of tail ≡ (named (codes "w14") (codes "paraId"), para) ∷ attributes_of mid
    → attributes_of mid ≡ (named (codes "w14") (codes "textId"), text) ∷ attributes_of rest
    → (front : List ℕ) → begins front (codes "paraId") ≡ false → begins front (codes "textId") ≡ false → has_front_name rest front ≡ has_front_name tail front
behind_both tail mid rest para text first second front no_para no_text =
    let has = has_front_name rest front in
    sym (ap (list_any (λ (attribute : Name × List ℕ). begins front attribute.0.local))
    (first ∙ ap (λ (more : List (Name × List ℕ)). (named (codes "w14") (codes "paraId"), para) ∷ more) second)
    ∙ ap (λ (b : Bool). b || (begins front (codes "textId") || has)) no_para
    ∙ ap (λ (b : Bool). b || has) no_text)

-- ---- names of authors

date_word : IsWord false (codes "date")
unfolding may_start may_follow is_name_character is_name_start encode
date_word = record { first = 100; more = codes "ate"; start = refl; each = refl; scalars = refl; whole = refl }

rsid_word : IsWord false (codes "rsidR")
unfolding may_start may_follow is_name_character is_name_start encode
rsid_word = record { first = 114; more = codes "sidR"; start = refl; each = refl; scalars = refl; whole = refl }

default_word : IsWord false (codes "rsidRDefault")
unfolding may_start may_follow is_name_character is_name_start encode
default_word = record { first = 114; more = codes "sidRDefault"; start = refl; each = refl; scalars = refl; whole = refl }

pub date_front : IsFront (named (codes "w") (codes "date")) (codes " w:date=\"")
date_front = record { whole = refl; legal = record { prefix = inr w_word; local = date_word } }

pub rsid_front : IsFront (named (codes "w") (codes "rsidR")) (codes " w:rsidR=\"")
rsid_front = record { whole = refl; legal = record { prefix = inr w_word; local = rsid_word } }

pub default_front : IsFront (named (codes "w") (codes "rsidRDefault")) (codes " w:rsidRDefault=\"")
default_front = record { whole = refl; legal = record { prefix = inr w_word; local = default_word } }

-- an attribute that is an `author`, or whose value begins as no name, is passed over
pub names_behind : (table : Table) (part tail rest value : List ℕ) (name : Name) → attributes_of tail ≡ (name, value) ∷ attributes_of rest
    → (name.local ≡ codes "author") ⊎ BeginsNone table value → found_names table part tail ≡ found_names table part rest
names_behind table part tail rest value name first none =
    ap (found_among table part) first
    ∙ ap (λ (found : List Find). found ++ found_among table part (attributes_of rest)) (name_none table part (name, value) none)
