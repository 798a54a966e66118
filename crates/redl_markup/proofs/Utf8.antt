-- The parts of pieces of UTF-8 are UTF-8.
use Rattle.std.proofs.Common.{◌≡◌, ◌≢◌, ℕ, ◌<◌, ◌+◌, Bool, true, eqb, List, [], ◌∷◌, ◌++◌, length, get_or, drop, Option, Some, None, refl, sym, ap, subst, ◌∙◌, append_assoc, length-append, arith, inl, inr, ◌⊎◌}
use Rattle.std.specs.Prelude.{not, IfSome}
use Rattle.std.specs.List.{list_all, AllByRecursion}
use Rattle.std.specs.Str.{IsUtf8}
use Rattle.std.proofs.lemmas.Bool.{eqb-true, and_parts}
use Rattle.std.proofs.lemmas.Bool.Decides.{nat_tests}
use Rattle.std.proofs.lemmas.List.{take_at, drop_at, get_or_at}
use Rattle.std.proofs.lemmas.Str.{IsUtf8-nil, IsUtf8-take, IsUtf8-drop, IsCharBoundary-before_ascii, IsCharBoundary-after_ascii}
use Rattle.redl_grammar.specs.declared.section.Section.{Section}
use Rattle.redl_grammar.specs.Characters.{is_space}
use Rattle.redl_reading.specs.Steps.{Gives}
use Rattle.redl_grammar.specs.Names.{Name, name_text, IsWord}
use Rattle.redl_grammar.specs.Tails.{IsSpace, Attribute, attribute_then, attributes_then, IsQuote, IsAttribute, IsTail}
use Rattle.redl_grammar.specs.Stretches.{begins_item, ends_stretch}
use Rattle.redl_grammar.specs.Pieces.{Piece, start_tag, empty_tag, end_tag, stretch, Stands}
use Rattle.redl_grammar.specs.ScanTags.{attribute_in}
use Rattle.redl_grammar.proofs.Attributes.{first_takes}

-- what is on either side of an ASCII byte is UTF-8
pub record CutsAt (xs : List ℕ) (b : ℕ) (ys : List ℕ) : Type 0 where
  pub left : IsUtf8 xs
  pub from : IsUtf8 (b ∷ ys)
  pub right : IsUtf8 ys

-- UTF-8 may be cut before and after an ASCII character
pub cut_ascii : (xs : List ℕ) (b : ℕ) (ys : List ℕ) → b < 128 → IsUtf8 (xs ++ (b ∷ ys)) → CutsAt xs b ys
cut_ascii xs b ys low u =
    let whole : List ℕ = xs ++ (b ∷ ys) in
    let P : List ℕ → Type 0 = λ z. IsUtf8 z in
    let here : get_or whole (length xs) 0 ≡ b = get_or_at xs b ys 0 (length xs) refl in
    let within : length xs < length whole = omega (arith, length-append xs (b ∷ ys)) in
    let is_low : get_or whole (length xs) 0 < 128 = rw here low in
    let before_it = IsCharBoundary-before_ascii whole (length xs) within is_low in
    let after_it = IsCharBoundary-after_ascii whole (length xs) u within is_low in
    let regrouped : whole ≡ (xs ++ (b ∷ [])) ++ ys = sym (append_assoc xs (b ∷ []) ys) in
    record {
      left = subst P (take_at xs (b ∷ ys) (length xs) refl) (IsUtf8-take whole (length xs) u before_it);
      from = subst P (drop_at xs (b ∷ ys) (length xs) refl) (IsUtf8-drop whole (length xs) u before_it);
      right = subst P (ap (drop (length xs + 1)) regrouped ∙ drop_at (xs ++ (b ∷ [])) ys (length xs + 1) (length-append xs (b ∷ []))) (IsUtf8-drop whole (length xs + 1) u after_it);
    }

-- a name is UTF-8
pub word_is_utf8 : (colons : Bool) (word : List ℕ) → IsWord colons word → IsUtf8 word
word_is_utf8 colons word h = (h.first ∷ h.more, (h.scalars, sym h.whole))

space_low : (b : ℕ) → is_space b ≡ true → b < 128
unfolding is_space
space_low b h = grind (arith, nat_tests)

-- ---- attributes

quote_low : (q : ℕ) → IsQuote q → q < 128
quote_low q (inl e) = omega arith
quote_low q (inr e) = omega arith

pub attribute_is_utf8 : (a : Attribute) (rest : List ℕ) → IsAttribute a → IsUtf8 (attribute_then a rest) → IsUtf8 a.value × IsUtf8 rest
attribute_is_utf8 a rest h u =
    let ahead : List ℕ = a.gap ++ (name_text a.name ++ (a.left ++ (61 ∷ a.right))) in
    let quoted : List ℕ = a.value ++ (a.quote ∷ rest) in
    let P : List ℕ → Type 0 = λ z. IsUtf8 z in
    let low = quote_low a.quote h.quote in
    let first = cut_ascii ahead a.quote quoted low (subst P (regroup a.gap (name_text a.name) a.left a.right (a.quote ∷ quoted)) u) in
    let second = cut_ascii a.value a.quote rest low first.right in
    (second.left, second.right) where
      regroup : (gap name left right more : List ℕ) → gap ++ (name ++ (left ++ (61 ∷ (right ++ more)))) ≡ (gap ++ (name ++ (left ++ (61 ∷ right)))) ++ more
      regroup gap name left right more = sym (append_assoc gap (name ++ (left ++ (61 ∷ right))) more ∙ ap (λ (z : List ℕ). gap ++ z) (append_assoc name (left ++ (61 ∷ right)) more ∙ ap (λ (z : List ℕ). name ++ z) (append_assoc left (61 ∷ right) more)))

-- the first attribute that is read from a tail in UTF-8, and the rest
pub first_is_utf8 : {X : Type 0} (view : X → (Name × List ℕ) × List ℕ) (tail : List ℕ) (r : Option X) → Gives view r (attribute_in tail) → IsUtf8 tail → IfSome r (λ x. IsUtf8 (view x).0.1 × IsUtf8 (view x).1)
first_is_utf8 view tail None e u = tt
first_is_utf8 view tail (Some x) e u =
    let t = first_takes tail (view x) e in
    let P : List ℕ → Type 0 = λ z. IsUtf8 z in
    let parts = attribute_is_utf8 t.0 (view x).1 t.2 (subst P t.1 u) in
    (subst P (ap (λ (v : Name × List ℕ). v.1) t.3) parts.0, parts.1)

-- ---- pieces

gap_head : (gap more : List ℕ) → (gap ≢ []) → IsSpace gap → (b : ℕ) × (t : List ℕ) × (b < 128) × (gap ++ more ≡ b ∷ t)
gap_head [] more filled h = absurd (filled refl)
gap_head (b ∷ bs) more filled h = (b, bs ++ more, space_low b (and_parts (is_space b) (list_all is_space bs) h).0, refl)

-- a tail is empty, or begins with white space
tail_head : (attrs : List Attribute) (space : List ℕ) → AllByRecursion IsAttribute attrs → IsSpace space → (attributes_then attrs space ≡ []) ⊎ ((b : ℕ) × (t : List ℕ) × (b < 128) × (attributes_then attrs space ≡ b ∷ t))
tail_head [] [] each h = inl refl
tail_head [] (b ∷ bs) each h = inr (b, bs, space_low b (and_parts (is_space b) (list_all is_space bs) h).0, refl)
tail_head (a ∷ attrs) space each h = inr (gap_head a.gap _ each.0.gap.0 each.0.gap.1)

tail_is_utf8 : (ahead tail : List ℕ) → IsTail tail → IsUtf8 (ahead ++ tail) → IsUtf8 tail
tail_is_utf8 ahead tail h u =
    let P : List ℕ → Type 0 = λ z. IsUtf8 z in
    let Q : List ℕ → Type 0 = λ z. IsUtf8 (ahead ++ z) in
    elim (tail_head h.attributes h.space h.each h.is_space) [
      | inl e ↦ subst P (sym (h.whole ∙ e)) IsUtf8-nil
      | inr e ↦ subst P (sym (h.whole ∙ e.3)) (cut_ascii ahead e.0 e.1 e.2 (subst Q (h.whole ∙ e.3) u)).from
    ]

-- the tail and the rest, after a start tag's name and before its `>` or `/`
start_is_utf8 : (name tail : List ℕ) (b : ℕ) (more : List ℕ) → b < 128 → IsTail tail → IsUtf8 (60 ∷ (name ++ (tail ++ (b ∷ more)))) → IsUtf8 tail × IsUtf8 more
start_is_utf8 name tail b more low h u =
    let P : List ℕ → Type 0 = λ z. IsUtf8 z in
    let ahead : List ℕ = (60 ∷ name) ++ tail in
    let cut = cut_ascii ahead b more low (subst P (sym (append_assoc (60 ∷ name) tail (b ∷ more))) u) in
    (tail_is_utf8 (60 ∷ name) tail h cut.left, cut.right)

rest_is_utf8 : (s rest : List ℕ) → ends_stretch rest ≡ true → IsUtf8 (s ++ rest) → IsUtf8 rest
rest_is_utf8 s [] end u = IsUtf8-nil
rest_is_utf8 s (b ∷ rest) end u =
    let same : b ≡ 60 = eqb-true b 60 (and_parts (eqb b 60) (not (begins_item (b ∷ rest))) end).0 in
    (cut_ascii s b rest (omega arith) u).from

abbrev pub TailIsUtf8 : Piece → Type 0
TailIsUtf8 (start_tag name tail) = IsUtf8 tail
TailIsUtf8 (empty_tag name tail) = IsUtf8 tail
TailIsUtf8 (end_tag name space) = Unit {0}
TailIsUtf8 (stretch bs) = Unit {0}

-- if the bytes are UTF-8, so are the tail of the tag with which they begin and what follows the piece
pub piece_is_utf8 : (place : Section) (bs : List ℕ) (p : Piece) (rest : List ℕ) → Stands place bs p rest → IsUtf8 bs → IsUtf8 rest × TailIsUtf8 p
piece_is_utf8 place bs (start_tag name tail) rest h u =
    let P : List ℕ → Type 0 = λ z. IsUtf8 z in
    let t = start_is_utf8 (name_text name) tail 62 rest (omega arith) h.legal.1 (subst P h.whole u) in
    (t.1, t.0)
piece_is_utf8 place bs (empty_tag name tail) rest h u =
    let P : List ℕ → Type 0 = λ z. IsUtf8 z in
    let t = start_is_utf8 (name_text name) tail 47 (62 ∷ rest) (omega arith) h.legal.1 (subst P h.whole u) in
    ((cut_ascii [] 62 rest (omega arith) t.1).right, t.0)
piece_is_utf8 place bs (end_tag name space) rest h u =
    let P : List ℕ → Type 0 = λ z. IsUtf8 z in
    let ahead : List ℕ = 60 ∷ 47 ∷ (name_text name ++ space) in
    let regrouped : 60 ∷ 47 ∷ (name_text name ++ (space ++ (62 ∷ rest))) ≡ ahead ++ (62 ∷ rest) = ap (λ (z : List ℕ). 60 ∷ 47 ∷ z) (sym (append_assoc (name_text name) space (62 ∷ rest))) in
    ((cut_ascii ahead 62 rest (omega arith) (subst P (h.whole ∙ regrouped) u)).right, tt)
piece_is_utf8 place bs (stretch s) rest h u =
    let P : List ℕ → Type 0 = λ z. IsUtf8 z in
    (rest_is_utf8 s rest h.follows (subst P h.whole u), tt)
