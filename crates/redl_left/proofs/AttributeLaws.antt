-- A tail that lacks a word has no attribute with that name.
use Rattle.std.proofs.Common.{◌≡◌, ◌∙◌, refl, sym, ap, ℕ, zero, suc, ◌==◌, length, List, [], ◌∷◌, ◌++◌, Bool, true, false, true≢false, not, ◌&&◌, cond, bytes_eq, find, Option, None, Some}
use Rattle.std.specs.Option.{option_map}
use Rattle.std.proofs.lemmas.Bool.{and_from, and_parts, eq-eqb, not-true}
use Rattle.redl_grammar.specs.Names.{Name, name_text as qualified_text}
use Rattle.redl_grammar.specs.ScanTags.{attribute_in}
use Rattle.redl_grammar.specs.Tails.{Attribute, attribute_then}
use Rattle.redl_grammar.proofs.Attributes.{first_takes}
use Rattle.redl_markup.specs.Attributes.{attributes_by, attributes_from, attributes_of}
use Rattle.redl_markup.specs.Decoding.{decoded_value}
use Rattle.redl_pairs.proofs.WordLaws.{lacks-front, lacks-rest}
use Rattle.redl_reading.specs.Lists.{begins, lacks}
use Rattle.redl_stamp.specs.Attribute.{attribute_value, has_local_name, is_prefix_of_attributes}
use Rattle.redl_tree.proofs.Reading.SameBytes.{same_bytes}

-- a name that lacks a word is none that has it
pub other_name : (w : ℕ) (ws name local : List ℕ) → lacks (w ∷ ws) local ≡ true → lacks (w ∷ ws) name ≡ false → bytes_eq local name ≡ false
other_name w ws name local lacking has = by (bytes_eq local name) refl
  where
    by : (b : Bool) → bytes_eq local name ≡ b → b ≡ false
    by true e = absurd (true≢false (sym lacking ∙ ap (lacks (w ∷ ws)) (same_bytes local name e) ∙ has))
    by false e = refl

local_lacks : (w : ℕ) (ws prefix local : List ℕ) → lacks (w ∷ ws) (qualified_text (record { prefix = prefix; local = local })) ≡ true → lacks (w ∷ ws) local ≡ true
local_lacks w ws [] local h = h
local_lacks w ws (p ∷ ps) local h = lacks-rest w ws (58 ∷ []) local (lacks-rest w ws (p ∷ ps) (58 ∷ local) h)

pub both_false : (a b : Bool) → a ≡ false → (a && b) ≡ false
both_false a b e = ap (λ (t : Bool). t && b) e

-- ---- a longer word

not_here : (w : ℕ) (ws t : List ℕ) → lacks (w ∷ ws) t ≡ true → begins (w ∷ ws) t ≡ false
not_here w ws [] h = refl
not_here w ws (b ∷ bs) h = not-true (begins (w ∷ ws) (b ∷ bs)) (and_parts (not (begins (w ∷ ws) (b ∷ bs))) (lacks (w ∷ ws) bs) h).0

and_none : (a b : Bool) → b ≡ false → (a && b) ≡ false
and_none true b e = e
and_none false b e = refl

-- a text that lacks a word lacks each longer one that ends with it
pub lacks-behind : (v w : ℕ) (ws t : List ℕ) → lacks (w ∷ ws) t ≡ true → lacks (v ∷ w ∷ ws) t ≡ true
lacks-behind v w ws [] h = refl
lacks-behind v w ws (b ∷ bs) h =
    let later = (and_parts (not (begins (w ∷ ws) (b ∷ bs))) (lacks (w ∷ ws) bs) h).1 in
    and_from (not (begins (v ∷ w ∷ ws) (b ∷ bs))) (lacks (v ∷ w ∷ ws) bs)
    (ap not (and_none (b == v) (begins (w ∷ ws) bs) (not_here w ws bs later))) (lacks-behind v w ws bs later)

-- ---- names

-- a word begins with itself
begins-self : (ws : List ℕ) → begins ws ws ≡ true
begins-self [] = refl
begins-self (w ∷ ws) = and_from (w == w) (begins ws ws) (eq-eqb w w refl) (begins-self ws)

-- so it doesn't lack itself
has-self : (w : ℕ) (ws : List ℕ) → lacks (w ∷ ws) (w ∷ ws) ≡ false
has-self w ws = ap (λ (b : Bool). not b && lacks (w ∷ ws) ws) (begins-self (w ∷ ws))

-- what an attribute and what follows it lack
record Lacks (word : List ℕ) (local rest : List ℕ) : Type 0 where
  own : lacks word local ≡ true
  later : lacks word rest ≡ true

lacks_of : (w : ℕ) (ws : List ℕ) (a : Attribute) (rest : List ℕ) → lacks (w ∷ ws) (attribute_then a rest) ≡ true → Lacks (w ∷ ws) a.name.local rest
lacks_of w ws a rest h =
    let closed = a.quote ∷ rest in
    let value = a.quote ∷ (a.value ++ closed) in
    let equated = 61 ∷ (a.right ++ value) in
    let after_name = a.left ++ equated in
    let named = lacks-rest w ws a.gap (qualified_text a.name ++ after_name) h in
    let left = lacks-rest w ws (qualified_text a.name) after_name named in
    let right = lacks-rest w ws (61 ∷ []) (a.right ++ value) (lacks-rest w ws a.left equated left) in
    let quoted = lacks-rest w ws (a.quote ∷ []) (a.value ++ closed) (lacks-rest w ws a.right value right) in
    record {
      own = local_lacks w ws a.name.prefix a.name.local (lacks-front w ws (qualified_text a.name) after_name named);
      later = lacks-rest w ws (a.quote ∷ []) rest (lacks-rest w ws a.value closed quoted);
    }

no_named : (w : ℕ) (ws : List ℕ) (n : ℕ) (tail : List ℕ) → lacks (w ∷ ws) tail ≡ true → find (has_local_name (w ∷ ws)) (attributes_from n tail) ≡ None
no_named w ws zero tail h = refl
no_named w ws (suc n) tail h = by (attribute_in tail) refl (no_named w ws n)
  where
    by : (o : Option ((Name × List ℕ) × List ℕ)) → attribute_in tail ≡ o → ((rest : List ℕ) → lacks (w ∷ ws) rest ≡ true → find (has_local_name (w ∷ ws)) (attributes_from n rest) ≡ None)
        → find (has_local_name (w ∷ ws)) (attributes_by (attributes_from n) o) ≡ None
    by None e more = refl
    by (Some x) e more =
        let t = first_takes tail x e in
        let lacking = lacks_of w ws t.0 x.1 (ap (lacks (w ∷ ws)) (sym t.1) ∙ h) in
        let other = both_false (bytes_eq t.0.name.local (w ∷ ws)) (is_prefix_of_attributes t.0.name.prefix) (other_name w ws (w ∷ ws) t.0.name.local lacking.own (has-self w ws)) in
        let not_this : has_local_name (w ∷ ws) x.0 ≡ false = ap (has_local_name (w ∷ ws)) (sym t.3) ∙ other in
        ap (λ (b : Bool). cond b (Some x.0) (find (has_local_name (w ∷ ws)) (attributes_from n x.1))) not_this ∙ more x.1 lacking.later

-- what is read of the first attribute with the name
abbrev first_of : Option (Name × List ℕ) → Option (List ℕ)
first_of first = option_map decoded_value (option_map (λ attribute. attribute.1) first)

-- a tail without a word has no attribute with that name
pub no_value : (name tail : List ℕ) → lacks name tail ≡ true → attribute_value tail name ≡ None
unfolding attributes_of
no_value [] [] h = absurd (true≢false (sym h))
no_value [] (b ∷ bs) h = absurd (true≢false (sym h))
no_value (w ∷ ws) tail h = ap first_of (no_named w ws (suc (length tail)) tail h)
