-- The nodes of a shape are legal XML, given a test of the shape that computes.
use lib.Utf8.{encode}
use Rattle.std.proofs.Common.{◌≡◌, ◌≢◌, ◌≤◌, ℕ, Bool, true, false, not, ◌&&◌, ◌==◌, List, [], ◌∷◌, ◌++◌, map, inl, inr, codes, refl, sym, ap, ◌∙◌, subst, append-nil, arith}
use Rattle.std.proofs.lemmas.Bool.{eqb-true, false_from_ne_true, and_parts, and_from}
use Rattle.std.proofs.lemmas.Str.Parse.{tells_all_ascii_digits}
use Rattle.std.specs.List.{list_all, AllByRecursion}
use Rattle.std.specs.Str.{all_ascii_digits, all_scalars, encode_utf8_all, bytes_eq}
use Rattle.redl_reading.proofs.Runs.{passes-append}
use Rattle.redl_markup.proofs.Listing.{tail_lists}
use Rattle.redl_markup.specs.Attributes.{attributes_of}
use Rattle.redl_grammar.specs.Characters.{is_space, is_name_start, is_name_character}
use Rattle.redl_reading.specs.Lists.{begins, is_filled, is_other, lacks}
use Rattle.redl_grammar.specs.Names.{Name, IsWord, are_distinct, may_follow, may_start}
use Rattle.redl_grammar.specs.References.{has_references}
use Rattle.redl_grammar.specs.Stretches.{IsStretch, no_head}
use Rattle.redl_grammar.specs.Tails.{Attribute, IsAttribute, IsTail, named_value}
use Rattle.redl_grammar.specs.declared.section.Section.TheVariants.{InElement}
use Rattle.redl_sound.proofs.Sampled.Shapes.{Filled, Field, Shape, end, words, empty, full, attribute_of, attributes, filled_with, nodes_of, tag_with, tail_of}
use Rattle.redl_tree.specs.Model.Nodes.{Nodes, no_nodes, Close}
use Rattle.redl_tree.specs.declared.kinds.Space.TheVariants.{W, Pkg}
use Rattle.redl_tree.proofs.Reading.SameBytes.{same_bytes}
use Rattle.redl_xml.specs.Readings.{AreLegal, IsTag}
use Rattle.redl_xml.specs.Scopes.{Scope, scope_in, with_declarations, is_allowed, is_known, is_known_attribute, is_xml_prefix, is_xmlns}
use Rattle.redl_xml.specs.Shapes.{begins_with_bytes}

-- ---- bytes

pub all_weaker : (p q : ℕ → Bool) → ((c : ℕ) → p c ≡ true → q c ≡ true) → (xs : List ℕ) → list_all p xs ≡ true → list_all q xs ≡ true
all_weaker p q step [] h = refl
all_weaker p q step (x ∷ xs) h =
    let both = and_parts (p x) (list_all p xs) h in
    and_from (q x) (list_all q xs) (step x both.0) (all_weaker p q step xs both.1)

other : (a c : ℕ) → (c ≢ a) → is_other a c ≡ true
other a c h = ap not (false_from_ne_true (c == a) (λ e. h (eqb-true c a e)))

-- neither a quote nor a byte that begins a tag, a reference or the end of a section
abbrev pub is_safe : ℕ → Bool
is_safe c = is_other 34 c && (is_other 60 c && (is_other 38 c && is_other 93 c))

pub no_quote : (c : ℕ) → is_safe c ≡ true → is_other 34 c ≡ true
no_quote c h = (and_parts (is_other 34 c) _ h).0

pub no_tag : (c : ℕ) → is_safe c ≡ true → is_other 60 c ≡ true
no_tag c h = (and_parts (is_other 60 c) _ (and_parts (is_other 34 c) _ h).1).0

no_reference : (c : ℕ) → is_safe c ≡ true → is_other 38 c ≡ true
no_reference c h = (and_parts (is_other 38 c) _ (and_parts (is_other 60 c) _ (and_parts (is_other 34 c) _ h).1).1).0

no_bracket : (c : ℕ) → is_safe c ≡ true → is_other 93 c ≡ true
no_bracket c h = (and_parts (is_other 38 c) _ (and_parts (is_other 60 c) _ (and_parts (is_other 34 c) _ h).1).1).1

-- a digit is such a byte
safe_digit : (c : ℕ) → 48 ≤ c → c ≤ 57 → is_safe c ≡ true
safe_digit c low high =
    and_from (is_other 34 c) _ (other 34 c (λ e. omega (arith, e, low)))
    (and_from (is_other 60 c) _ (other 60 c (λ e. omega (arith, e, high)))
    (and_from (is_other 38 c) _ (other 38 c (λ e. omega (arith, e, low))) (other 93 c (λ e. omega (arith, e, high)))))

pub digits_safe : (digits : List ℕ) → all_ascii_digits digits ≡ true → list_all is_safe digits ≡ true
digits_safe [] h = refl
digits_safe (c ∷ cs) h =
    let parts = tells_all_ascii_digits.parts c cs h in
    and_from (is_safe c) (list_all is_safe cs) (safe_digit c (omega (arith, parts.0)) (omega (arith, parts.0))) (digits_safe cs parts.1)

pub safe_references : (bs : List ℕ) → list_all is_safe bs ≡ true → has_references bs ≡ true
safe_references [] h = refl
safe_references (b ∷ bs) h =
    let both = and_parts (is_safe b) (list_all is_safe bs) h in
    rw (no_reference b both.0) (safe_references bs both.1)

begins_bracket : (b : ℕ) (bs more : List ℕ) → is_other 93 b ≡ true → begins (93 ∷ more) (b ∷ bs) ≡ false
begins_bracket b bs more h = by (b == 93) h
  where
    by : (same : Bool) → not same ≡ true → (same && begins more bs) ≡ false
    by true e = absurd (cc e)
    by false e = refl

safe_lacks : (bs : List ℕ) → list_all is_safe bs ≡ true → lacks (codes "]]>") bs ≡ true
safe_lacks [] h = refl
safe_lacks (b ∷ bs) h =
    let both = and_parts (is_safe b) (list_all is_safe bs) h in
    rw (begins_bracket b bs (codes "]>") (no_bracket b both.0)) (safe_lacks bs both.1)

-- ---- a test of shapes

-- the bytes are a name of one part
abbrev pub is_word : List ℕ → Bool
is_word [] = false
is_word (b ∷ bs) =
    may_start false b && (list_all (may_follow false) bs && (all_scalars (b ∷ bs) && bytes_eq (b ∷ bs) (encode_utf8_all (b ∷ bs))))

pub word_of : (word : List ℕ) → is_word word ≡ true → IsWord false word
word_of [] h = absurd (cc h)
word_of (b ∷ bs) h =
    let one = and_parts (may_start false b) _ h in
    let two = and_parts (list_all (may_follow false) bs) _ one.1 in
    let three = and_parts (all_scalars (b ∷ bs)) _ two.1 in
    record { first = b; more = bs; start = one.0; each = two.0; scalars = three.0; whole = same_bytes (b ∷ bs) (encode_utf8_all (b ∷ bs)) three.1 }

abbrev pub is_field : Field → Bool
is_field field = is_word field.0 && list_all is_safe field.1.0

abbrev pub names_of : List ℕ → List Field → List Name
names_of digits fields = map (λ (a : Attribute). a.name) (attributes digits fields)

abbrev pub is_tag : List ℕ → List Field → Bool
is_tag local fields = is_word local && (list_all is_field fields && are_distinct (names_of [] fields))

-- the shape is that of legal nodes, where bytes may stand before it
abbrev pub is_fine : Bool → Shape → Bool
is_fine after end = true
is_fine after (words before shape) = not after && (is_filled before && (list_all is_safe before && is_fine true shape))
is_fine after (empty local fields shape) = is_tag local fields && is_fine false shape
is_fine after (full local fields kids shape) = is_tag local fields && (is_fine false kids && is_fine false shape)

-- ---- tags

-- the prefix of documents
pub w_word : IsWord false (119 ∷ [])
unfolding may_start may_follow is_name_start is_name_character encode
w_word = word_of (119 ∷ []) refl

value_safe : (digits : List ℕ) (value : Filled) → list_all is_safe digits ≡ true → list_all is_safe value.0 ≡ true → list_all is_safe (filled_with digits value) ≡ true
value_safe digits (before, true) d h = passes-append is_safe before digits h d
value_safe digits (before, false) d h = h

legal_attribute : (digits : List ℕ) (field : Field) → list_all is_safe digits ≡ true → is_field field ≡ true → IsAttribute (attribute_of digits field)
unfolding is_space
legal_attribute digits field d h =
    let both = and_parts (is_word field.0) _ h in
    let safe = value_safe digits field.1 d both.1 in
    record {
      gap = (λ e. cc e, refl);
      name = record { prefix = inr w_word; local = word_of field.0 both.0 };
      left = refl;
      right = refl;
      quote = inl refl;
      no_quote = all_weaker is_safe (is_other 34) no_quote (filled_with digits field.1) safe;
      no_tag = all_weaker is_safe (is_other 60) no_tag (filled_with digits field.1) safe;
      references = safe_references (filled_with digits field.1) safe;
    }

pub legal_attributes : (digits : List ℕ) (fields : List Field) → list_all is_safe digits ≡ true → list_all is_field fields ≡ true → AllByRecursion IsAttribute (attributes digits fields)
legal_attributes digits [] d h = tt
legal_attributes digits (field ∷ fields) d h =
    let both = and_parts (is_field field) (list_all is_field fields) h in
    (legal_attribute digits field d both.0, legal_attributes digits fields d both.1)

pub names_same : (digits others : List ℕ) (fields : List Field) → names_of digits fields ≡ names_of others fields
names_same digits others [] = refl
names_same digits others (field ∷ fields) = ap (λ names. record { prefix = 119 ∷ []; local = field.0 } ∷ names) (names_same digits others fields)

pub legal_tail : (digits : List ℕ) (fields : List Field) → list_all is_safe digits ≡ true → list_all is_field fields ≡ true → are_distinct (names_of [] fields) ≡ true
    → IsTail (tail_of digits fields)
legal_tail digits fields d h distinct = record {
  attributes = attributes digits fields;
  space = [];
  each = legal_attributes digits fields d h;
  is_space = refl;
  distinct = ap are_distinct (names_same digits [] fields) ∙ distinct;
  whole = refl;
}

-- the declarations in scope in a body
abbrev pub body_scope : Scope
body_scope = (119 ∷ [], W) ∷ (codes "pkg", Pkg) ∷ []

allowed : (digits : List ℕ) (fields : List Field) → list_all is_allowed (map named_value (attributes digits fields)) ≡ true
unfolding is_xmlns
allowed digits [] = refl
allowed digits (field ∷ fields) = allowed digits fields

declares_nothing : (digits : List ℕ) (fields : List Field) (scope : Scope) → with_declarations (map named_value (attributes digits fields)) scope ≡ scope
unfolding is_xmlns
declares_nothing digits [] scope = refl
declares_nothing digits (field ∷ fields) scope = declares_nothing digits fields scope

known : (digits : List ℕ) (fields : List Field) → list_all (is_known_attribute body_scope) (map named_value (attributes digits fields)) ≡ true
unfolding is_xmlns is_known is_xml_prefix
known digits [] = refl
known digits (field ∷ fields) = known digits fields

-- what a legal tag of a shape is, and that the scope stays
pub record LegalTag (digits local : List ℕ) (fields : List Field) : Type 0 where
  pub tail : IsTail (tail_of digits fields)
  pub listed : attributes_of (tail_of digits fields) ≡ map named_value (attributes digits fields)
  pub scope : scope_in (tail_of digits fields) body_scope ≡ body_scope
  pub tag : (close : Close) → IsTag body_scope (tag_with local (tail_of digits fields) close)

pub legal_tag : (digits local : List ℕ) (fields : List Field) → list_all is_safe digits ≡ true → is_tag local fields ≡ true → LegalTag digits local fields
unfolding is_xmlns is_known is_xml_prefix legal_tail
legal_tag digits local fields d h =
    let one = and_parts (is_word local) _ h in
    let two = and_parts (list_all is_field fields) _ one.1 in
    let tail = legal_tail digits fields d two.0 two.1 in
    let list = tail_lists (tail_of digits fields) tail in
    let scope : scope_in (tail_of digits fields) body_scope ≡ body_scope = ap (λ found. with_declarations found body_scope) list ∙ declares_nothing digits fields body_scope in
    record {
      tail = tail;
      listed = list;
      scope = scope;
      tag = λ close. record {
        name = record { prefix = inr w_word; local = word_of local one.0 };
        tail = tail;
        declarations = ap (list_all is_allowed) list ∙ allowed digits fields;
        prefix = rw scope refl;
        prefixes = rw (scope, list) (known digits fields);
        space = rw scope refl;
        kind = refl;
        rev = refl;
      };
    }

-- ---- nodes

legal_words : (digits before : List ℕ) → list_all is_safe digits ≡ true → is_filled before ≡ true → list_all is_safe before ≡ true → IsStretch InElement (before ++ digits)
legal_words digits [] d filled h = absurd (cc filled)
legal_words digits (b ∷ bs) d filled h =
    let safe = passes-append is_safe (b ∷ bs) digits h d in
    let text : List ℕ = b ∷ (bs ++ digits) in
    record {
      head = no_head;
      first = text;
      more = [];
      is_head = refl;
      first_run = record {
        no_tag = all_weaker is_safe (is_other 60) no_tag text safe;
        allowed = and_from (has_references text) (lacks (codes "]]>") text) (safe_references text safe) (safe_lacks text safe);
      };
      each = tt;
      whole = sym (append-nil text);
      filled = λ e. cc e;
    }

pub legal_shape : (digits : List ℕ) → list_all is_safe digits ≡ true → (shape : Shape) (after : Bool) → is_fine after shape ≡ true
    → (rest : Nodes) → AreLegal body_scope rest → begins_with_bytes rest ≡ false
    → AreLegal body_scope (nodes_of digits shape rest) × (after ≡ true → begins_with_bytes (nodes_of digits shape rest) ≡ false)
legal_shape digits d end after h rest legal begins = (legal, λ e. begins)
legal_shape digits d (words before shape) after h rest legal begins =
    let one = and_parts (not after) _ h in
    let two = and_parts (is_filled before) _ one.1 in
    let three = and_parts (list_all is_safe before) _ two.1 in
    let more = legal_shape digits d shape true three.1 rest legal begins in
    ((legal_words digits before d two.0 three.0, more.1 refl, more.0), λ e. absurd (cc (ap not (sym e) ∙ one.0)))
legal_shape digits d (empty local fields shape) after h rest legal begins =
    let both = and_parts (is_tag local fields) _ h in
    let is = legal_tag digits local fields d both.0 in
    let more = legal_shape digits d shape false both.1 rest legal begins in
    ((is.tag _, refl, tt, more.0), λ e. refl)
legal_shape digits d (full local fields kids shape) after h rest legal begins =
    let one = and_parts (is_tag local fields) _ h in
    let two = and_parts (is_fine false kids) _ one.1 in
    let is = legal_tag digits local fields d one.0 in
    let inside = legal_shape digits d kids false two.0 no_nodes tt refl in
    let more = legal_shape digits d shape false two.1 rest legal begins in
    ((is.tag _, refl, subst (λ scope. AreLegal scope (nodes_of digits kids no_nodes)) (sym is.scope) inside.0, more.0), λ e. refl)
