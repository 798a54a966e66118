-- A name is read exactly if the bytes begin with it.
use Rattle.std.proofs.Common.{◌≡◌, ℕ, zero, suc, nat_le, slice_get, ◌<◌, ◌≤◌, ◌+◌, ◌/◌, ◌%◌, Bool, true, false, cond, ltb, eqb, List, [], ◌∷◌, ◌++◌, length, drop, Option, Some, None, refl, sym, ap, subst, ◌∙◌, append_assoc, length-append, arith, inl, inr, ◌⊎◌}
use Rattle.std.specs.Prelude.{◌||◌, not, codes, encode_utf8}
use Rattle.std.specs.List.{list_all}
use Rattle.std.specs.Str.{encode_utf8_all, all_scalars}
use Rattle.std.specs.Char.{IsScalar, is_ascii, is_ascii_alphabetic}
use Rattle.std.proofs.lemmas.Bool.{leb-true, le-leb, ltb-true, not-true, and_parts, and_from, cases_Bool}
use Rattle.std.proofs.lemmas.Bool.Decides.{nat_tests}
use Rattle.std.proofs.lemmas.Option.{same_Some, cond_some}
use Rattle.std.proofs.lemmas.List.{drop_at}
use Rattle.std.proofs.lemmas.Str.{encode_ascii}
use Rattle.std.proofs.Math.Bool.{and-false}
use lib.Utf8.{scalar, encode, low_scalar}
use Rattle.bstr.specs.Utf8.{decoded}
use Rattle.bstr.proofs.lemmas.SoundLemmas.{SpellsChar-decoded}
use Rattle.bstr.proofs.lemmas.EncodeLemmas.{decoded-encode}
use Rattle.redl_grammar.specs.Characters.{is_space, is_name_start, is_name_character}
use Rattle.redl_reading.specs.Lists.{behind, after, before}
use Rattle.redl_reading.specs.Steps.{◌>>=◌, done, next, turn, turns}
use Rattle.redl_grammar.specs.Names.{may_start, may_follow, IsWord, Name, name_text, IsName}
use Rattle.redl_grammar.specs.ScanNames.{char_with_rest, char_at, is_name_byte, name_step, name_end, behind_start, word_at, local_at, name_at}
use Rattle.redl_reading.proofs.Runs.{stops, after_stops}
use Rattle.redl_reading.proofs.Words.{behind_takes, before-append}
use Rattle.redl_reading.proofs.Steps.{bind_some}
use Rattle.redl_reading.proofs.Turns.{Going, begins, goes_on, ends}

-- ---- characters

-- a character that is decoded is no longer than the bytes
pub size_fits : (bs : List ℕ) (c : ℕ) → (decoded bs).char ≡ Some c → (decoded bs).size ≤ length bs
size_fits bs c e = let s = SpellsChar-decoded bs c e in omega (arith, ap length s.bytes, s.width, length-append {A = ℕ})

taken_some : (o : Option ℕ) (r : List ℕ) (x : ℕ × List ℕ) → char_with_rest o r ≡ Some x → (o ≡ Some x.0) × (r ≡ x.1)
taken_some None r x e = absurd cc
taken_some (Some c) r x e = let same = same_Some (c, r) x e in (ap (λ (y : ℕ × List ℕ). Some y.0) same, ap (λ (y : ℕ × List ℕ). y.1) same)

-- the first byte of a character from U+41 on
encode_head : (c : ℕ) → 65 ≤ c → (b : ℕ) × (t : List ℕ) × (65 ≤ b) × (encode c ≡ b ∷ t)
unfolding encode
encode_head c h =
    elim (cases_Bool (ltb c 128)) [
      | inl a ↦ (c, [], h, rw a refl)
      | inr a ↦ elim (cases_Bool (ltb c 2048)) [
        | inl b ↦ (192 + c / 64, (128 + c % 64) ∷ [], omega arith, rw (a, b) refl)
        | inr b ↦ elim (cases_Bool (ltb c 65536)) [
          | inl d ↦ (224 + c / 4096, (128 + c / 64 % 64) ∷ (128 + c % 64) ∷ [], omega arith, rw (a, b, d) refl)
          | inr d ↦ (240 + c / 262144, (128 + c / 4096 % 64) ∷ (128 + c / 64 % 64) ∷ (128 + c % 64) ∷ [], omega arith, rw (a, b, d) refl)
        ]
      ]
    ]

encode_filled : (c : ℕ) → 0 < length (encode c)
unfolding encode
encode_filled c =
    elim (cases_Bool (ltb c 128)) [
      | inl a ↦ rw a (omega arith)
      | inr a ↦ elim (cases_Bool (ltb c 2048)) [
        | inl b ↦ rw (a, b) (omega arith)
        | inr b ↦ elim (cases_Bool (ltb c 65536)) [ inl d ↦ rw (a, b, d) (omega arith) | inr d ↦ rw (a, b, d) (omega arith) ]
      ]
    ]

-- the character that is read stands there, and reading it leaves fewer bytes
pub char_takes : (bs : List ℕ) (x : ℕ × List ℕ) → char_at bs ≡ Some x → (bs ≡ encode_utf8 x.0 ++ x.1) × IsScalar x.0 × (length x.1 < length bs)
unfolding char_at
char_takes bs x e =
    let t = taken_some (decoded bs).char (drop (decoded bs).size bs) x e in
    let s = SpellsChar-decoded bs x.0 t.0 in
    let whole : bs ≡ encode_utf8 x.0 ++ x.1 = s.bytes ∙ ap (λ (r : List ℕ). encode_utf8 x.0 ++ r) t.1 in
    (whole, s.scalar, omega (arith, ap length whole, length-append (encode_utf8 x.0) x.1, encode_filled x.0))

pub char_again : (c : ℕ) (rest : List ℕ) → scalar c ≡ true → char_at (encode_utf8 c ++ rest) ≡ Some (c, rest)
unfolding char_at
char_again c rest h = rw (decoded-encode c rest h, drop_at (encode_utf8 c) rest (length (encode_utf8 c)) refl) refl

-- an ASCII byte is its own character
pub ascii_again : (b : ℕ) (rest : List ℕ) → b < 128 → char_at (b ∷ rest) ≡ Some (b, rest)
ascii_again b rest h = ap (λ (z : List ℕ). char_at (z ++ rest)) (sym (encode_ascii b h)) ∙ char_again b rest (low_scalar b (omega arith))

scalar_is : (c : ℕ) → IsScalar c → scalar c ≡ true
scalar_is c h = h

-- ---- what ends a name

-- the bytes begin with no name character
abbrev pub Stops : Bool → List ℕ → Type 0
Stops colons bs = (x : ℕ × List ℕ) → char_at bs ≡ Some x → may_follow colons x.0 ≡ false

unfoldable pub is_delimiter : ℕ → Bool
is_delimiter b = is_space b || eqb b 61 || eqb b 62 || eqb b 47 || eqb b 63

-- the end, white space, or one of `=`, `>`, `/` and `?`
abbrev pub ends_name : List ℕ → Bool
ends_name [] = true
ends_name (b ∷ bs) = is_delimiter b

delimiter_low : (b : ℕ) → is_delimiter b ≡ true → b < 64
unfolding is_delimiter is_space
delimiter_low b h = grind (arith, nat_tests)

delimiter_is_no_colon : (b : ℕ) → is_delimiter b ≡ true → eqb b 58 ≡ false
unfolding is_delimiter is_space
delimiter_is_no_colon b h = grind (arith, nat_tests)

delimiter_is_no_name : (colons : Bool) (b : ℕ) → is_delimiter b ≡ true → may_follow colons b ≡ false
unfolding is_delimiter is_space may_follow is_name_character is_name_start
delimiter_is_no_name colons b h = grind (arith, nat_tests)

stops_ascii : (colons : Bool) (b : ℕ) (rest : List ℕ) → b < 128 → may_follow colons b ≡ false → Stops colons (b ∷ rest)
stops_ascii colons b rest low f x e =
    let same : (b, rest) ≡ x = same_Some (b, rest) x (sym (ascii_again b rest low) ∙ e) in
    let P : ℕ × List ℕ → Type 0 = λ y. may_follow colons y.0 ≡ false in
    subst P same f

stops_end : (colons : Bool) → Stops colons []
unfolding char_at
stops_end colons x e = absurd cc

pub stops_name : (colons : Bool) (rest : List ℕ) → ends_name rest ≡ true → Stops colons rest
stops_name colons [] h = stops_end colons
stops_name colons (b ∷ rest) h = let low = delimiter_low b h in stops_ascii colons b rest (omega arith) (delimiter_is_no_name colons b h)

stops_colon : (rest : List ℕ) → Stops false (58 ∷ rest)
unfolding may_follow
stops_colon rest = stops_ascii false 58 rest (omega arith) (and-false (is_name_character 58))

no_colon : (rest : List ℕ) → ends_name rest ≡ true → behind (codes ":") rest ≡ None
no_colon [] h = refl
no_colon (b ∷ rest) h = rw (delimiter_is_no_colon b h) refl

-- ---- the characters of a name

step_goes : (colons : Bool) (bs : List ℕ) (x : ℕ × List ℕ) → char_at bs ≡ Some x → may_follow colons x.0 ≡ true → name_step colons bs ≡ next x.1
unfolding name_step
step_goes colons bs x e p = rw (e, p) refl

step_ends : (colons : Bool) (bs : List ℕ) (x : ℕ × List ℕ) → char_at bs ≡ Some x → may_follow colons x.0 ≡ false → name_step colons bs ≡ done (Some bs)
unfolding name_step
step_ends colons bs x e p = rw (e, p) refl

step_stops : (colons : Bool) (bs : List ℕ) → char_at bs ≡ None → name_step colons bs ≡ done (Some bs)
unfolding name_step
step_stops colons bs e = rw e refl

-- what was read of a name
pub record Reads (colons : Bool) (bs rest : List ℕ) : Type 0 where
  pub characters : List ℕ
  pub whole : bs ≡ encode_utf8_all characters ++ rest
  pub each : list_all (may_follow colons) characters ≡ true
  pub scalars : all_scalars characters ≡ true

take_turns : (colons : Bool) (n : ℕ) (bs rest : List ℕ) → turns (name_step colons) n bs ≡ Some rest → Reads colons bs rest
take_turns colons zero bs rest e = absurd cc
take_turns colons (suc n) bs rest e = by_char n bs rest (char_at bs) refl e (take_turns colons n) where
  ends_here : (bs rest : List ℕ) → Some bs ≡ Some rest → Reads colons bs rest
  ends_here bs rest e = record { characters = []; whole = same_Some bs rest e; each = refl; scalars = refl }

  by_char : (n : ℕ) (bs rest : List ℕ) (o : Option (ℕ × List ℕ)) → char_at bs ≡ o → turn (name_step colons bs) (turns (name_step colons) n) ≡ Some rest → ((b r : List ℕ) → turns (name_step colons) n b ≡ Some r → Reads colons b r) → Reads colons bs rest
  by_char n bs rest None g e go = ends_here bs rest (rw (step_stops colons bs g) at e)
  by_char n bs rest (Some x) g e go =
      elim (cases_Bool (may_follow colons x.0)) [
        | inr other ↦ ends_here bs rest (rw (step_ends colons bs x g other) at e)
        | inl follows ↦
            let t = char_takes bs x g in
            let more = go x.1 rest (rw (step_goes colons bs x g follows) at e) in
            record {
              characters = x.0 ∷ more.characters;
              whole = t.0 ∙ ap (λ (z : List ℕ). encode_utf8 x.0 ++ z) more.whole ∙ sym (append_assoc (encode_utf8 x.0) (encode_utf8_all more.characters) rest);
              each = and_from _ _ follows more.each;
              scalars = and_from _ _ (scalar_is x.0 t.1) more.scalars;
            }
      ]

again_turns : (colons : Bool) (cs : List ℕ) (n : ℕ) (rest : List ℕ) → length cs < n → list_all (may_follow colons) cs ≡ true → all_scalars cs ≡ true → Stops colons rest → turns (name_step colons) n (encode_utf8_all cs ++ rest) ≡ Some rest
again_turns colons cs zero rest lt each scalars stop = absurd (omega arith)
again_turns colons [] (suc n) rest lt each scalars stop = by_char (char_at rest) refl where
  by_char : (o : Option (ℕ × List ℕ)) → char_at rest ≡ o → turn (name_step colons rest) (turns (name_step colons) n) ≡ Some rest
  by_char None g = rw (step_stops colons rest g) refl
  by_char (Some x) g = rw (step_ends colons rest x g (stop x g)) refl
again_turns colons (c ∷ cs) (suc n) rest lt each scalars stop =
    let both = and_parts (may_follow colons c) (list_all (may_follow colons) cs) each in
    let are = and_parts (scalar c) (all_scalars cs) scalars in
    let regrouped : encode_utf8_all (c ∷ cs) ++ rest ≡ encode_utf8 c ++ (encode_utf8_all cs ++ rest) = append_assoc (encode_utf8 c) (encode_utf8_all cs) rest in
    let step = step_goes colons (encode_utf8 c ++ (encode_utf8_all cs ++ rest)) (c, encode_utf8_all cs ++ rest) (char_again c (encode_utf8_all cs ++ rest) are.0) both.0 in
    ap (turns (name_step colons) (suc n)) regrouped ∙ rw step (again_turns colons cs n rest (omega arith) both.1 are.1 stop)

encodes_long : (cs : List ℕ) → length cs ≤ length (encode_utf8_all cs)
encodes_long [] = omega arith
encodes_long (c ∷ cs) = omega (arith, encodes_long cs, encode_filled c, length-append (encode_utf8 c) (encode_utf8_all cs))

-- ---- names of one part

pub word_takes : (colons : Bool) (bs : List ℕ) (x : List ℕ × List ℕ) → word_at colons bs ≡ Some x → (bs ≡ x.0 ++ x.1) × IsWord colons x.0
unfolding word_at name_end
word_takes colons bs x e =
    let f = bind_some (char_at bs) (λ c. name_end colons c.1 >>= λ rest. cond (may_start colons c.0) (Some (before bs rest, rest)) None) x e in
    let r = bind_some (name_end colons f.0.1) (λ rest. cond (may_start colons f.0.0) (Some (before bs rest, rest)) None) x f.2 in
    let c = cond_some (may_start colons f.0.0) (before bs r.0, r.0) x r.2 in
    let t = char_takes bs f.0 f.1 in
    let m = take_turns colons (suc (length f.0.1)) f.0.1 r.0 r.1 in
    let w : List ℕ = encode_utf8_all (f.0.0 ∷ m.characters) in
    let whole : bs ≡ w ++ r.0 = t.0 ∙ ap (λ (z : List ℕ). encode_utf8 f.0.0 ++ z) m.whole ∙ sym (append_assoc (encode_utf8 f.0.0) (encode_utf8_all m.characters) r.0) in
    let cut : before bs r.0 ≡ w = ap (λ (z : List ℕ). before z r.0) whole ∙ before-append w r.0 in
    let P : List ℕ × List ℕ → Type 0 = λ y. (bs ≡ y.0 ++ y.1) × IsWord colons y.0 in
    subst P (ap (λ (z : List ℕ). (z, r.0)) (sym cut) ∙ c.1)
    (whole, record { first = f.0.0; more = m.characters; start = c.0; each = m.each; scalars = and_from _ _ (scalar_is f.0.0 t.1) m.scalars; whole = refl })

word_before : (colons : Bool) (w rest : List ℕ) → IsWord colons w → Stops colons rest → word_at colons (w ++ rest) ≡ Some (w, rest)
unfolding word_at name_end
word_before colons w rest h stop =
    let are = and_parts (scalar h.first) (all_scalars h.more) h.scalars in
    let inner : List ℕ = encode_utf8_all h.more ++ rest in
    let regrouped : w ++ rest ≡ encode_utf8 h.first ++ inner = ap (λ (z : List ℕ). z ++ rest) h.whole ∙ append_assoc (encode_utf8 h.first) (encode_utf8_all h.more) rest in
    let first : char_at (w ++ rest) ≡ Some (h.first, inner) = ap char_at regrouped ∙ char_again h.first inner are.0 in
    let long : length h.more < suc (length inner) = omega (arith, encodes_long h.more, length-append (encode_utf8_all h.more) rest) in
    let end = again_turns colons h.more (suc (length inner)) rest long h.each are.1 stop in
    rw (first, end, h.start, before-append w rest) refl

pub word_again : (colons : Bool) (w rest : List ℕ) → IsWord colons w → ends_name rest ≡ true → word_at colons (w ++ rest) ≡ Some (w, rest)
word_again colons w rest h stop = word_before colons w rest h (stops_name colons rest stop)

start_high : (c : ℕ) → may_start false c ≡ true → 65 ≤ c
unfolding may_start is_name_start
start_high c h = grind (arith, nat_tests)

word_head : (w : List ℕ) → IsWord false w → (b : ℕ) × (t : List ℕ) × (65 ≤ b) × (w ≡ b ∷ t)
word_head w h =
    let head = encode_head h.first (start_high h.first h.start) in
    (head.0, head.1 ++ encode_utf8_all h.more, head.2, h.whole ∙ ap (λ (z : List ℕ). z ++ encode_utf8_all h.more) head.3)

-- ---- names with or without a prefix

local_takes : (word r : List ℕ) (o : Option (List ℕ)) (x : Name × List ℕ) → IsWord false word → behind (codes ":") r ≡ o → local_at word r o ≡ Some x → (word ++ r ≡ name_text x.0 ++ x.1) × IsName x.0
local_takes word r None x h b e =
    subst (λ (y : Name × List ℕ). (word ++ r ≡ name_text y.0 ++ y.1) × IsName y.0) (same_Some (record { prefix = []; local = word }, r) x e) (refl, record { prefix = inl refl; local = h })
local_takes word r (Some more) x h b e =
    let colon : r ≡ 58 ∷ more = behind_takes (codes ":") r more b in
    let l = bind_some (word_at false more) (λ local. Some (record { prefix = word; local = local.0 }, local.1)) x e in
    let t = word_takes false more l.0 l.1 in
    let whole : word ++ r ≡ word ++ (58 ∷ (l.0.0 ++ l.0.1)) = ap (λ (z : List ℕ). word ++ z) (colon ∙ ap (λ (z : List ℕ). 58 ∷ z) t.0) in
    let head = word_head word h in
    let text : name_text (record { prefix = word; local = l.0.0 }) ≡ word ++ (58 ∷ l.0.0) = name_text-prefixed word l.0.0 head.0 head.1 head.3 in
    subst (λ (y : Name × List ℕ). (word ++ r ≡ name_text y.0 ++ y.1) × IsName y.0) (same_Some (record { prefix = word; local = l.0.0 }, l.0.1) x l.2)
    (whole ∙ rw text (sym (append_assoc word (58 ∷ l.0.0) l.0.1)), record { prefix = inr h; local = t.1 }) where
      name_text-prefixed : (w l : List ℕ) (b : ℕ) (t : List ℕ) → w ≡ b ∷ t → name_text (record { prefix = w; local = l }) ≡ w ++ (58 ∷ l)
      name_text-prefixed [] l b t h = absurd cc
      name_text-prefixed (p ∷ ps) l b t h = refl

pub name_takes : (bs : List ℕ) (x : Name × List ℕ) → name_at bs ≡ Some x → (bs ≡ name_text x.0 ++ x.1) × IsName x.0
unfolding name_at
name_takes bs x e =
    let w = bind_some (word_at false bs) (λ word. local_at word.0 word.1 (behind (codes ":") word.1)) x e in
    let t = word_takes false bs w.0 w.1 in
    let l = local_takes w.0.0 w.0.1 (behind (codes ":") w.0.1) x t.1 refl w.2 in
    (t.0 ∙ l.0, l.1)

name_again_parts : (p l rest : List ℕ) → (p ≡ []) ⊎ IsWord false p → IsWord false l → ends_name rest ≡ true → name_at (name_text (record { prefix = p; local = l }) ++ rest) ≡ Some (record { prefix = p; local = l }, rest)
unfolding name_at
name_again_parts [] l rest hp hl stop = rw (word_again false l rest hl stop, no_colon rest stop) refl
name_again_parts (p ∷ ps) l rest (inl e) hl stop = absurd cc
name_again_parts (p ∷ ps) l rest (inr hp) hl stop =
    let regrouped : name_text (record { prefix = p ∷ ps; local = l }) ++ rest ≡ (p ∷ ps) ++ (58 ∷ (l ++ rest)) = append_assoc (p ∷ ps) (58 ∷ l) rest in
    ap name_at regrouped ∙ rw (word_before false (p ∷ ps) (58 ∷ (l ++ rest)) hp (stops_colon (l ++ rest)), word_again false l rest hl stop) refl

pub name_again : (n : Name) (rest : List ℕ) → IsName n → ends_name rest ≡ true → name_at (name_text n ++ rest) ≡ Some (n, rest)
name_again n rest h stop = name_again_parts n.prefix n.local rest h.prefix h.local stop

-- the first byte of a name
pub name_head : (n : Name) → IsName n → (b : ℕ) × (t : List ℕ) × (65 ≤ b) × (name_text n ≡ b ∷ t)
name_head n h = of n.prefix n.local h.prefix h.local where
  of : (p l : List ℕ) → (p ≡ []) ⊎ IsWord false p → IsWord false l → (b : ℕ) × (t : List ℕ) × (65 ≤ b) × (name_text (record { prefix = p; local = l }) ≡ b ∷ t)
  of [] l hp hl = word_head l hl
  of (b ∷ bs) l (inl e) hl = absurd cc
  of (b ∷ bs) l (inr hp) hl = let head = word_head (b ∷ bs) hp in (b, bs ++ (58 ∷ l), (let same : head.0 ≡ b = cc in omega arith), refl)

-- ---- the loop of the code

-- from here the loop over a name's characters still finds the end of the name
abbrev pub Loop : Bool → List ℕ → List ℕ → Type 0
Loop colons rest bs = Going (name_step colons) length rest (name_end colons bs)

-- before the first character
pub loop_begins : (colons : Bool) (bs : List ℕ) → Loop colons bs bs
unfolding name_end
loop_begins colons bs = begins (name_step colons) length bs

-- past a character that may follow in a name
pub loop_goes : (colons : Bool) (rest bs : List ℕ) (x : ℕ × List ℕ) → Loop colons rest bs → char_at rest ≡ Some x → may_follow colons x.0 ≡ true → Loop colons x.1 bs
loop_goes colons rest bs x g e p = goes_on (name_step colons) length rest x.1 (name_end colons bs) g (step_goes colons rest x e p) (char_takes rest x e).2

-- the name ends before a character that may not follow
pub loop_ends : (colons : Bool) (rest bs : List ℕ) (x : ℕ × List ℕ) → Loop colons rest bs → char_at rest ≡ Some x → may_follow colons x.0 ≡ false → name_end colons bs ≡ Some rest
loop_ends colons rest bs x g e p = ends (name_step colons) length rest (Some rest) (name_end colons bs) g (step_ends colons rest x e p)

-- the name ends where no character stands
pub loop_stops : (colons : Bool) (rest bs : List ℕ) → Loop colons rest bs → char_at rest ≡ None → name_end colons bs ≡ Some rest
loop_stops colons rest bs g e = ends (name_step colons) length rest (Some rest) (name_end colons bs) g (step_stops colons rest e)

-- ---- the ASCII characters of a name

name_byte_goes : (colons : Bool) (b : ℕ) (bs : List ℕ) → is_name_byte colons b ≡ true → name_end colons (b ∷ bs) ≡ name_end colons bs
unfolding name_end is_name_byte
name_byte_goes colons b bs h =
    let both = and_parts (nat_le b 127) (may_follow colons b) h in
    rw (step_goes colons (b ∷ bs) (b, bs) (ascii_again b bs (omega (arith, leb-true b 127 both.0))) both.1) refl

-- a name ends where its rest after the ASCII characters ends
end_behind_bytes : (colons : Bool) (bs : List ℕ) → name_end colons bs ≡ name_end colons (after (is_name_byte colons) bs)
end_behind_bytes colons [] = refl
end_behind_bytes colons (b ∷ bs) =
    elim (cases_Bool (is_name_byte colons b)) [
      | inl goes ↦ rw goes (name_byte_goes colons b bs goes ∙ end_behind_bytes colons bs)
      | inr stays ↦ rw stays refl
    ]

-- an ASCII byte that is not a name character ends a name
ends_at_byte : (colons : Bool) (b : ℕ) (bs : List ℕ) → b < 128 → is_name_byte colons b ≡ false → name_end colons (b ∷ bs) ≡ Some (b ∷ bs)
unfolding name_end is_name_byte
ends_at_byte colons b bs low h =
    let follows : may_follow colons b ≡ false = rw (le-leb b 127 (omega (arith, low))) at h in
    rw (step_ends colons (b ∷ bs) (b, bs) (ascii_again b bs low) follows) refl

-- what the end of the name is after leading ASCII characters of a name, it is before them
pub bytes_go : (colons : Bool) (bs rest : List ℕ) (o : Option (List ℕ)) → rest ≡ after (is_name_byte colons) bs → name_end colons rest ≡ o → name_end colons bs ≡ o
bytes_go colons bs rest o e h = end_behind_bytes colons bs ∙ ap (name_end colons) (sym e) ∙ h

-- where nothing comes after leading ASCII characters of a name, the name ends there
pub bytes_end : (colons : Bool) (bs rest : List ℕ) → rest ≡ after (is_name_byte colons) bs → None ≡ slice_get rest 0 → name_end colons bs ≡ Some rest
unfolding name_end char_at name_step
bytes_end colons bs [] e h = bytes_go colons bs [] (Some []) e refl
bytes_end colons bs (b ∷ rest) e h = absurd cc

-- where another ASCII character comes after them, the name ends before it
pub bytes_stop : (colons : Bool) (bs rest : List ℕ) (b : ℕ) → rest ≡ after (is_name_byte colons) bs → Some b ≡ slice_get rest 0 → is_ascii b ≡ true → name_end colons bs ≡ Some rest
bytes_stop colons bs [] b e h low = absurd cc
bytes_stop colons bs (c ∷ rest) b e h low =
    let stop : not (is_name_byte colons c) ≡ true = ap (stops (is_name_byte colons)) e ∙ after_stops (is_name_byte colons) bs in
    let same : is_ascii c ≡ true = ap is_ascii (same_Some c b (sym h)) ∙ low in
    bytes_go colons bs (c ∷ rest) (Some (c ∷ rest)) e (ends_at_byte colons c rest (ltb-true c 128 same) (not-true (is_name_byte colons c) stop))

-- ---- the first character of a name

letter_low : (b : ℕ) → is_ascii_alphabetic b ≡ true → b < 128
letter_low b h = grind (arith, nat_tests)

letter_may_start : (colons : Bool) (b : ℕ) → is_ascii_alphabetic b ≡ true → may_start colons b ≡ true
unfolding may_start is_name_start
letter_may_start colons b h = grind (arith, nat_tests)

-- a letter of ASCII begins a name
pub letter_starts : (colons : Bool) (b : ℕ) (rest : List ℕ) → is_ascii_alphabetic b ≡ true → behind_start colons (b ∷ rest) ≡ Some rest
unfolding behind_start
letter_starts colons b rest h = rw (ascii_again b rest (letter_low b h), letter_may_start colons b h) refl

-- where no character stands that may begin a name, there is no word
pub word_fails : (colons : Bool) (bs : List ℕ) → behind_start colons bs ≡ None → word_at colons bs ≡ None
unfolding behind_start word_at
word_fails colons bs e = by_char (char_at bs) e where
  nothing : (o : Option (List ℕ)) (f : List ℕ → Option (List ℕ × List ℕ)) → ((rest : List ℕ) → f rest ≡ None) → (o >>= f) ≡ None
  nothing None f h = refl
  nothing (Some rest) f h = h rest

  by_char : (o : Option (ℕ × List ℕ)) → (o >>= λ x. cond (may_start colons x.0) (Some x.1) None) ≡ None → ◌>>=◌ {B = List ℕ × List ℕ} o (λ x. name_end colons x.1 >>= λ rest. cond (may_start colons x.0) (Some (before bs rest, rest)) None) ≡ None
  by_char None e = refl
  by_char (Some x) e =
      elim (cases_Bool (may_start colons x.0)) [
        | inl starts ↦ absurd (let k : Some x.1 ≡ None = rw starts at e in cc)
        | inr other ↦ nothing (name_end colons x.1) (λ rest. cond (may_start colons x.0) (Some (before bs rest, rest)) None) (λ rest. rw other refl)
      ]

-- a character that may begin a name and the end of those after it make a word
pub word_reads : (colons : Bool) (bs more rest : List ℕ) → behind_start colons bs ≡ Some more → name_end colons more ≡ Some rest → word_at colons bs ≡ Some (before bs rest, rest)
unfolding behind_start word_at
word_reads colons bs more rest e end =
    let f = bind_some (char_at bs) (λ x. cond (may_start colons x.0) (Some x.1) None) more e in
    let c = cond_some (may_start colons f.0.0) f.0.1 more f.2 in
    rw (f.1, c.0, c.1, end) refl
