-- An attribute is read exactly if the bytes begin with it, and so is a tail of attributes.
use Rattle.std.proofs.Common.{◌≡◌, ◌≢◌, ℕ, zero, suc, ◌<◌, ◌≤◌, true, false, cond, eqb, List, [], ◌∷◌, ◌++◌, length, map, Option, Some, None, refl, sym, ap, subst, ◌∙◌, append_assoc, length-append, arith, inl, inr}
use Rattle.std.specs.Prelude.{◌||◌, codes}
use Rattle.std.specs.List.{list_all, AllByRecursion}
use Rattle.std.proofs.lemmas.Bool.Decides.{nat_tests}
use Rattle.std.proofs.lemmas.Bool.{eqb-true, and_parts, cases_Bool}
use Rattle.std.proofs.lemmas.List.{append-nil}
use Rattle.std.proofs.lemmas.Option.{same_Some, cond_some, none-some}
use Rattle.redl_grammar.specs.Characters.{is_space}
use Rattle.redl_reading.specs.Lists.{behind, front, after, is_filled, is_other, field_at}
use Rattle.redl_reading.specs.Steps.{◌>>=◌, done, next, turn, turns}
use Rattle.redl_grammar.specs.Names.{Name, name_text, IsName}
use Rattle.redl_grammar.specs.References.{has_references}
use Rattle.redl_grammar.specs.Tails.{IsSpace, Attribute, attribute_then, attributes_then, IsQuote, IsAttribute, named_value}
use Rattle.redl_grammar.specs.ScanNames.{name_at}
use Rattle.redl_grammar.specs.ScanTags.{quote_at, quoted_at, equated_at, is_plain, is_value, attribute_at, attribute_behind, attribute_in, ends_tag, Tail, tail_step, attributes_at}
use Rattle.redl_reading.proofs.Runs.{stops, front-after, front_passes, front_again, after_again}
use Rattle.redl_reading.proofs.Turns.{Going, begins, goes_on, ends}
use Rattle.redl_reading.proofs.Words.{behind_takes}
use Rattle.redl_grammar.proofs.Names.{is_delimiter, ends_name, name_head, name_takes, name_again}
use Rattle.redl_reading.proofs.Steps.{bind_some}
use Rattle.redl_reading.proofs.Fields.{field_takes, field_lacks, field_again}

-- ---- what follows white space

pub space_ends_name : (b : ℕ) → is_space b ≡ true → is_delimiter b ≡ true
unfolding is_space is_delimiter
space_ends_name b h = grind (arith, nat_tests)

pub spaces_end_name : (s rest : List ℕ) → IsSpace s → ends_name rest ≡ true → ends_name (s ++ rest) ≡ true
spaces_end_name [] rest all stop = stop
spaces_end_name (b ∷ bs) rest all stop = space_ends_name b (and_parts (is_space b) (list_all is_space bs) all).0

pub gap_ends_name : (gap rest : List ℕ) → (gap ≢ []) → IsSpace gap → ends_name (gap ++ rest) ≡ true
gap_ends_name [] rest filled h = absurd (filled refl)
gap_ends_name (b ∷ bs) rest filled h = space_ends_name b (and_parts (is_space b) (list_all is_space bs) h).0

equals_ends_name : (rest : List ℕ) → ends_name (61 ∷ rest) ≡ true
unfolding is_delimiter is_space
equals_ends_name rest = refl

equals_is_no_space : (rest : List ℕ) → stops is_space (61 ∷ rest) ≡ true
unfolding is_space
equals_is_no_space rest = refl

quote_is_no_space : (q : ℕ) (rest : List ℕ) → IsQuote q → stops is_space (q ∷ rest) ≡ true
unfolding is_space
quote_is_no_space q rest (inl e) = rw e refl
quote_is_no_space q rest (inr e) = rw e refl

high_is_no_space : (b : ℕ) (rest : List ℕ) → 65 ≤ b → stops is_space (b ∷ rest) ≡ true
unfolding is_space
high_is_no_space b rest h = grind (arith, nat_tests)

pub name_is_no_space : (n : Name) (rest : List ℕ) → IsName n → stops is_space (name_text n ++ rest) ≡ true
name_is_no_space n rest h =
    let head = name_head n h in
    ap (λ (z : List ℕ). stops is_space (z ++ rest)) head.3 ∙ high_is_no_space head.0 (head.1 ++ rest) head.2

-- what is filled is not empty
pub is_filled-some : (xs : List ℕ) → is_filled xs ≡ true → (xs ≢ [])
is_filled-some [] h = absurd cc
is_filled-some (b ∷ bs) h = λ e. cc

pub filled-is : (xs : List ℕ) → (xs ≢ []) → is_filled xs ≡ true
filled-is [] h = absurd (h refl)
filled-is (b ∷ bs) h = refl

-- ---- texts between quotes

quote_takes : (bs : List ℕ) (q : ℕ) (rest : List ℕ) → quote_at bs ≡ Some (q, rest) → (bs ≡ q ∷ rest) × IsQuote q
unfolding quote_at
quote_takes [] q rest e = absurd cc
quote_takes (b ∷ bs) q rest e =
    let c = cond_some (eqb b 34 || eqb b 39) (b, bs) (q, rest) e in
    let same : (b, bs) ≡ (q, rest) = c.1 in
    let heads : b ≡ q = ap (λ (p : ℕ × List ℕ). p.0) same in
    let tails : bs ≡ rest = ap (λ (p : ℕ × List ℕ). p.1) same in
    (rw (heads, tails) refl, rw (← heads) (is_quote b c.0)) where
      is_quote : (b : ℕ) → (eqb b 34 || eqb b 39) ≡ true → IsQuote b
      is_quote b h =
          elim (cases_Bool (eqb b 34)) [
            | inl y ↦ inl (eqb-true b 34 y)
            | inr n ↦ inr (eqb-true b 39 (rw n at h))
          ]

quote_again : (q : ℕ) (rest : List ℕ) → IsQuote q → quote_at (q ∷ rest) ≡ Some (q, rest)
unfolding quote_at
quote_again q rest (inl e) = rw e refl
quote_again q rest (inr e) = rw e refl

-- the text of a `=` with a value, and what follows it
abbrev pub equated_then : List ℕ → List ℕ → ℕ → List ℕ → List ℕ → List ℕ
equated_then left right quote value rest = left ++ (61 ∷ (right ++ (quote ∷ (value ++ (quote ∷ rest)))))

pub record IsEquated (left right : List ℕ) (quote : ℕ) (value : List ℕ) : Type 0 where
  pub on_left : IsSpace left
  pub on_right : IsSpace right
  pub is_quote : IsQuote quote
  pub no_quote : list_all (is_other quote) value ≡ true

-- what was read of it
pub record Equates (bs value rest : List ℕ) : Type 0 where
  pub left : List ℕ
  pub right : List ℕ
  pub quote : ℕ
  pub whole : bs ≡ equated_then left right quote value rest
  pub legal : IsEquated left right quote value

quoted_takes : (bs : List ℕ) (x : List ℕ × List ℕ) → quoted_at bs ≡ Some x → (q : ℕ) × (bs ≡ q ∷ (x.0 ++ (q ∷ x.1))) × IsQuote q × (list_all (is_other q) x.0 ≡ true)
unfolding quoted_at
quoted_takes bs x e =
    let q = bind_some (quote_at bs) (λ quote. field_at quote.0 quote.1) x e in
    let t = quote_takes bs q.0.0 q.0.1 q.1 in
    (q.0.0, t.0 ∙ ap (λ (z : List ℕ). q.0.0 ∷ z) (field_takes q.0.0 q.0.1 x q.2), t.1, field_lacks q.0.0 q.0.1 x q.2)

quoted_again : (q : ℕ) (value rest : List ℕ) → IsQuote q → list_all (is_other q) value ≡ true → quoted_at (q ∷ (value ++ (q ∷ rest))) ≡ Some (value, rest)
unfolding quoted_at
quoted_again q value rest h no_quote =
    rw (quote_again q (value ++ (q ∷ rest)) h) (field_again q value rest no_quote)

pub equated_takes : (bs : List ℕ) (x : List ℕ × List ℕ) → equated_at bs ≡ Some x → Equates bs x.0 x.1
unfolding equated_at
equated_takes bs x e =
    let m = bind_some (behind (codes "=") (after is_space bs)) (λ more. quoted_at (after is_space more)) x e in
    let v = quoted_takes (after is_space m.0) x m.2 in
    let left = front is_space bs in
    let right = front is_space m.0 in
    let at_value : m.0 ≡ right ++ (v.0 ∷ (x.0 ++ (v.0 ∷ x.1))) = sym (front-after is_space m.0) ∙ ap (λ (z : List ℕ). right ++ z) v.1 in
    let at_sign : bs ≡ left ++ (61 ∷ m.0) = sym (front-after is_space bs) ∙ ap (λ (z : List ℕ). left ++ z) (behind_takes (codes "=") (after is_space bs) m.0 m.1) in
    record {
      left = left;
      right = right;
      quote = v.0;
      whole = at_sign ∙ ap (λ (z : List ℕ). left ++ (61 ∷ z)) at_value;
      legal = record { on_left = front_passes is_space bs; on_right = front_passes is_space m.0; is_quote = v.2; no_quote = v.3 };
    }

pub equated_again : (left right : List ℕ) (q : ℕ) (value rest : List ℕ) → IsEquated left right q value → equated_at (equated_then left right q value rest) ≡ Some (value, rest)
unfolding equated_at
equated_again left right q value rest h =
    let quoted : List ℕ = q ∷ (value ++ (q ∷ rest)) in
    let on_left = after_again is_space left (61 ∷ (right ++ quoted)) h.on_left (equals_is_no_space (right ++ quoted)) in
    let on_right = after_again is_space right quoted h.on_right (quote_is_no_space q (value ++ (q ∷ rest)) h.is_quote) in
    rw (on_left, on_right, quoted_again q value rest h.is_quote h.no_quote) refl

-- ---- attributes

attribute_takes : (gap bs : List ℕ) (x : (Name × List ℕ) × List ℕ) → (gap ≢ []) → IsSpace gap → attribute_at bs ≡ Some x → (a : Attribute) × (gap ++ bs ≡ attribute_then a x.1) × IsAttribute a × (named_value a ≡ x.0)
unfolding attribute_at is_value
attribute_takes gap bs x filled spaces e =
    let n = bind_some (name_at bs) (λ name. equated_at name.1 >>= λ value. cond (is_value value.0) (Some ((name.0, value.0), value.1)) None) x e in
    let v = bind_some (equated_at n.0.1) (λ value. cond (is_value value.0) (Some ((n.0.0, value.0), value.1)) None) x n.2 in
    let c = cond_some (is_value v.0.0) ((n.0.0, v.0.0), v.0.1) x v.2 in
    let both = and_parts (list_all (is_other 60) v.0.0) (has_references v.0.0) c.0 in
    let name = name_takes bs n.0 n.1 in
    let value = equated_takes n.0.1 v.0 v.1 in
    let a : Attribute = record { gap = gap; name = n.0.0; left = value.left; right = value.right; quote = value.quote; value = v.0.0 } in
    let whole : gap ++ bs ≡ attribute_then a v.0.1 = ap (λ (z : List ℕ). gap ++ z) (name.0 ∙ ap (λ (z : List ℕ). name_text n.0.0 ++ z) value.whole) in (
      a,
      whole ∙ ap (λ (y : (Name × List ℕ) × List ℕ). attribute_then a y.1) c.1,
      record { gap = (filled, spaces); name = name.1; left = value.legal.on_left; right = value.legal.on_right; quote = value.legal.is_quote; no_quote = value.legal.no_quote; no_tag = both.0; references = both.1 },
      ap (λ (y : (Name × List ℕ) × List ℕ). y.0) c.1,
    )

pub attribute_again : (a : Attribute) (rest : List ℕ) → IsAttribute a → attribute_at (name_text a.name ++ equated_then a.left a.right a.quote a.value rest) ≡ Some (named_value a, rest)
unfolding attribute_at is_value
attribute_again a rest h =
    let quoted : List ℕ = a.quote ∷ (a.value ++ (a.quote ∷ rest)) in
    let stop = spaces_end_name a.left (61 ∷ (a.right ++ quoted)) h.left (equals_ends_name (a.right ++ quoted)) in
    let value = equated_again a.left a.right a.quote a.value rest (record { on_left = h.left; on_right = h.right; is_quote = h.quote; no_quote = h.no_quote }) in
    rw (name_again a.name (equated_then a.left a.right a.quote a.value rest) h.name stop, value, h.no_tag, h.references) refl

-- ---- the first attribute of a tail

-- the attribute that is read stands there, with what comes after it
pub first_takes : (bs : List ℕ) (x : (Name × List ℕ) × List ℕ) → attribute_in bs ≡ Some x → (a : Attribute) × (bs ≡ attribute_then a x.1) × IsAttribute a × (named_value a ≡ x.0)
unfolding attribute_in
first_takes bs x e =
    elim (cases_Bool (is_filled (front is_space bs))) [
      | inl filled ↦
          let t = attribute_takes (front is_space bs) (after is_space bs) x (is_filled-some (front is_space bs) filled) (front_passes is_space bs) (rw filled at e) in
          (t.0, sym (front-after is_space bs) ∙ t.1, t.2, t.3)
      | inr lacks ↦ absurd (none-some x (rw lacks at e))
    ]

-- an attribute that stands there is read, with what comes after it
pub first_again : (a : Attribute) (rest : List ℕ) → IsAttribute a → attribute_in (attribute_then a rest) ≡ Some (named_value a, rest)
unfolding attribute_in
first_again a rest h =
    let body : List ℕ = name_text a.name ++ equated_then a.left a.right a.quote a.value rest in
    let stop = name_is_no_space a.name (equated_then a.left a.right a.quote a.value rest) h.name in
    let gap = front_again is_space a.gap body h.gap.1 stop in
    let here = after_again is_space a.gap body h.gap.1 stop in
    rw (gap, here, filled-is a.gap h.gap.0, attribute_again a rest h) refl

-- reading an attribute leaves fewer bytes
pub first_shorter : (bs : List ℕ) (x : (Name × List ℕ) × List ℕ) → attribute_in bs ≡ Some x → length x.1 < length bs
first_shorter bs x e = let t = first_takes bs x e in omega (arith, ap length t.1, length-append {A = ℕ})

-- the white space before it, and what follows that
pub first_behind : (tail gap bs : List ℕ) (o : Option ((Name × List ℕ) × List ℕ)) → gap ≡ front is_space tail → bs ≡ after is_space tail → attribute_behind gap bs ≡ o → attribute_in tail ≡ o
unfolding attribute_in
first_behind tail gap bs o before behind e = rw (before, behind) at e

-- ---- the end of a tail

high_ends_no_tag : (b : ℕ) (rest : List ℕ) → 65 ≤ b → ends_tag (b ∷ rest) ≡ false
unfolding ends_tag
high_ends_no_tag b rest h = grind (arith, nat_tests)

name_ends_no_tag : (n : Name) (rest : List ℕ) → IsName n → ends_tag (name_text n ++ rest) ≡ false
name_ends_no_tag n rest h =
    let head = name_head n h in
    ap (λ (z : List ℕ). ends_tag (z ++ rest)) head.3 ∙ high_ends_no_tag head.0 (head.1 ++ rest) head.2

pub end_is_no_space : (rest : List ℕ) → ends_tag rest ≡ true → stops is_space rest ≡ true
unfolding ends_tag is_space
end_is_no_space [] h = refl
end_is_no_space (b ∷ rest) h = grind (arith, nat_tests)

-- ---- turns

step_ends : (s : Tail) → ends_tag (after is_space s.1) ≡ true → tail_step s ≡ done (Some (s.0, after is_space s.1))
unfolding tail_step
step_ends s e = rw e refl

step_goes : (s : Tail) (a : (Name × List ℕ) × List ℕ) → ends_tag (after is_space s.1) ≡ false → attribute_in s.1 ≡ Some a → tail_step s ≡ next (s.0 ++ a.0.0 ∷ [], a.1)
unfolding tail_step
step_goes s a e g = rw (e, g) refl

step_fails : (s : Tail) → ends_tag (after is_space s.1) ≡ false → attribute_in s.1 ≡ None → tail_step s ≡ done None
unfolding tail_step
step_fails s e g = rw (e, g) refl

-- what was read of a tail
pub record Reads (s : Tail) (x : Tail) : Type 0 where
  pub attributes : List Attribute
  pub space : List ℕ
  pub whole : s.1 ≡ attributes_then attributes (space ++ x.1)
  pub each : AllByRecursion IsAttribute attributes
  pub is_space : IsSpace space
  pub names : x.0 ≡ s.0 ++ map (λ a. a.name) attributes
  pub end : ends_tag x.1 ≡ true

reads_end : (s x : Tail) → ends_tag (after is_space s.1) ≡ true → Some (s.0, after is_space s.1) ≡ Some x → Reads s x
reads_end s x end e =
    subst (λ (y : Tail). Reads s y) (same_Some (s.0, after is_space s.1) x e)
    (record { attributes = []; space = front is_space s.1; whole = sym (front-after is_space s.1); each = tt; is_space = front_passes is_space s.1; names = sym (append-nil s.0); end = end })

reads_more : (s x : Tail) (a : (Name × List ℕ) × List ℕ) → attribute_in s.1 ≡ Some a → Reads (s.0 ++ a.0.0 ∷ [], a.1) x → Reads s x
reads_more s x a e r =
    let t = first_takes s.1 a e in
    let name : t.0.name ≡ a.0.0 = ap (λ (v : Name × List ℕ). v.0) t.3 in
    record {
      attributes = t.0 ∷ r.attributes;
      space = r.space;
      whole = t.1 ∙ ap (attribute_then t.0) r.whole;
      each = (t.2, r.each);
      is_space = r.is_space;
      names = r.names ∙ append_assoc s.0 (a.0.0 ∷ []) (map (λ (b : Attribute). b.name) r.attributes) ∙ ap (λ (n : Name). s.0 ++ (n ∷ map (λ (b : Attribute). b.name) r.attributes)) (sym name);
      end = r.end;
    }

-- what any number of turns give is what the tail reads as
pub tail_takes_turns : (n : ℕ) (s x : Tail) → turns tail_step n s ≡ Some x → Reads s x
tail_takes_turns zero s x e = absurd cc
tail_takes_turns (suc n) s x e =
    elim (cases_Bool (ends_tag (after is_space s.1))) [
      | inl end ↦ reads_end s x end (rw (step_ends s end) at e)
      | inr other ↦ by_attribute n s x other (attribute_in s.1) refl e (tail_takes_turns n)
    ] where
      by_attribute : (n : ℕ) (s x : Tail) → ends_tag (after is_space s.1) ≡ false → (o : Option ((Name × List ℕ) × List ℕ)) → attribute_in s.1 ≡ o → turn (tail_step s) (turns tail_step n) ≡ Some x → ((t y : Tail) → turns tail_step n t ≡ Some y → Reads t y) → Reads s x
      by_attribute n s x other None g e more = absurd (none-some x (rw (step_fails s other g) at e))
      by_attribute n s x other (Some a) g e more = reads_more s x a g (more (s.0 ++ a.0.0 ∷ [], a.1) x (rw (step_goes s a other g) at e))

pub tail_again_turns : (attrs : List Attribute) (n : ℕ) (names : List Name) (space rest : List ℕ) → length attrs < n → AllByRecursion IsAttribute attrs → IsSpace space → ends_tag rest ≡ true
    → turns tail_step n (names, attributes_then attrs (space ++ rest)) ≡ Some (names ++ map (λ a. a.name) attrs, rest)
tail_again_turns attrs zero names space rest lt each spaces end = absurd (omega arith)
tail_again_turns [] (suc n) names space rest lt each spaces end =
    let here = after_again is_space space rest spaces (end_is_no_space rest end) in
    let step = step_ends (names, space ++ rest) (rw here end) in
    rw (step, here) (ap (λ (ns : List Name). Some (ns, rest)) (sym (append-nil names)))
tail_again_turns (a ∷ attrs) (suc n) names space rest lt each spaces end =
    let more = attributes_then attrs (space ++ rest) in
    let behind_name : List ℕ = equated_then a.left a.right a.quote a.value more in
    let here = after_again is_space a.gap (name_text a.name ++ behind_name) each.0.gap.1 (name_is_no_space a.name behind_name each.0.name) in
    let other : ends_tag (after is_space (attribute_then a more)) ≡ false = rw here (name_ends_no_tag a.name behind_name each.0.name) in
    let step = step_goes (names, attribute_then a more) (named_value a, more) other (first_again a more each.0) in
    rw step (tail_again_turns attrs n (names ++ a.name ∷ []) space rest (omega arith) each.1 spaces end ∙ ap (λ (ns : List Name). Some (ns, rest)) (append_assoc names (a.name ∷ []) (map (λ (b : Attribute). b.name) attrs)))

-- ---- the loop of the code

-- in this state the loop over attributes still gives those of all the bytes
abbrev pub Loop : Tail → List ℕ → Type 0
Loop s bs = Going tail_step (λ t. length t.1) s (attributes_at bs)

-- before the first turn
pub loop_begins : (bs : List ℕ) → Loop ([], bs) bs
unfolding attributes_at
loop_begins bs = begins tail_step (λ t. length t.1) ([], bs)

-- where the tag ends, the names so far are all
pub loop_ends : (s : Tail) (more bs : List ℕ) → Loop s bs → more ≡ after is_space s.1 → ends_tag more ≡ true → attributes_at bs ≡ Some (s.0, more)
loop_ends s more bs g e end =
    rw e (ends tail_step (λ t. length t.1) s (Some (s.0, after is_space s.1)) (attributes_at bs) g (step_ends s (rw (← e) end)))

-- where neither the tag ends nor an attribute stands, there are no attributes
pub loop_fails : (s : Tail) (more bs : List ℕ) → Loop s bs → more ≡ after is_space s.1 → ends_tag more ≡ false → attribute_in s.1 ≡ None → attributes_at bs ≡ None
loop_fails s more bs g e other fails =
    ends tail_step (λ t. length t.1) s None (attributes_at bs) g (step_fails s (rw (← e) other) fails)

-- an attribute goes to the others, and the loop goes on after it
pub loop_goes : (s : Tail) (more bs : List ℕ) (a : (Name × List ℕ) × List ℕ) → Loop s bs → more ≡ after is_space s.1 → ends_tag more ≡ false → attribute_in s.1 ≡ Some a → Loop (s.0 ++ a.0.0 ∷ [], a.1) bs
loop_goes s more bs a g e other found =
    goes_on tail_step (λ t. length t.1) s (s.0 ++ a.0.0 ∷ [], a.1) (attributes_at bs) g (step_goes s a (rw (← e) other) found) (first_shorter s.1 a found)

-- ---- a value without references

plain_parts : (bs : List ℕ) → list_all is_plain bs ≡ true → (list_all (is_other 60) bs ≡ true) × (has_references bs ≡ true)
plain_parts [] h = (refl, refl)
plain_parts (b ∷ bs) h =
    let both = and_parts (is_plain b) (list_all is_plain bs) h in
    let here = and_parts (is_other 60 b) (is_other 38 b) both.0 in
    let more = plain_parts bs both.1 in
    (rw here.0 more.0, rw here.1 more.1)

-- plain bytes are a value
pub plain_value : (bs : List ℕ) → list_all is_plain bs ≡ true → is_value bs ≡ true
unfolding is_value
plain_value bs h = let parts = plain_parts bs h in rw parts.0 parts.1
