-- References to characters in a text stay references where more follows the text.
use Rattle.std.proofs.Common.{◌≡◌, ◌∙◌, refl, sym, ap, ℕ, List, [], ◌∷◌, ◌++◌, append_assoc, Bool, true, false, ◌&&◌, ◌||◌, not, ◌⊎◌, inl, inr, Option, Some, None, true≢false, codes, if◌then◌else◌}
use Rattle.std.specs.Prelude.{◌==◌}
use Rattle.std.proofs.lemmas.Bool.{and_parts, and_from, or_cases, or_left, or_right}
use Rattle.redl_grammar.specs.Characters.{is_character}
use Rattle.redl_grammar.specs.References.{valued, named_at, is_digit_in, number_of, numbered, number_at, numbered_by, reference_at, is_there, has_references}
use Rattle.redl_reading.specs.Lists.{behind, front, after, is_filled}
use Rattle.redl_reading.specs.Steps.{or_else}
use Rattle.redl_reading.proofs.Runs.{stops, front-after, front_passes, after_stops, front_again, after_again}
use Rattle.redl_reading.proofs.Words.{behind_takes, behind_again}

-- where the first is there, so is the second
abbrev Stays : Option (ℕ × List ℕ) → Option (ℕ × List ℕ) → Type 0
Stays old new = is_there old ≡ true → is_there new ≡ true

-- ---- words

behind-more : (word bs more rest : List ℕ) → behind word bs ≡ Some rest → behind word (bs ++ more) ≡ Some (rest ++ more)
behind-more word bs more rest e =
    ap (λ (x : List ℕ). behind word (x ++ more)) (behind_takes word bs rest e) ∙ ap (behind word) (append_assoc word rest more) ∙ behind_again word (rest ++ more)

valued-more : (c : ℕ) (word bs more : List ℕ) → Stays (valued c (behind word bs)) (valued c (behind word (bs ++ more)))
valued-more c word bs more = at (behind word bs) refl
  where
    at : (o : Option (List ℕ)) → behind word bs ≡ o → Stays (valued c o) (valued c (behind word (bs ++ more)))
    at None e h = absurd (true≢false (sym h))
    at (Some rest) e h = ap (λ (o : Option (List ℕ)). is_there (valued c o)) (behind-more word bs more rest e)

or-there : (a b : Option (ℕ × List ℕ)) → is_there (or_else a b) ≡ (is_there a || is_there b)
or-there None b = refl
or-there (Some x) b = refl

or-more : (a b c d : Option (ℕ × List ℕ)) → Stays a c → Stays b d → Stays (or_else a b) (or_else c d)
or-more a b c d first second h = or-there c d ∙ at (or_cases (is_there a) (is_there b) (sym (or-there a b) ∙ h))
  where
    at : (is_there a ≡ true) ⊎ (is_there b ≡ true) → (is_there c || is_there d) ≡ true
    at (inl x) = or_left (is_there c) (is_there d) (first x)
    at (inr x) = or_right (is_there c) (is_there d) (second x)

named-more : (bs more : List ℕ) → Stays (named_at bs) (named_at (bs ++ more))
unfolding named_at
named-more bs more =
    or-more _ _ _ _ (valued-more 38 (codes "amp;") bs more) (or-more _ _ _ _ (valued-more 60 (codes "lt;") bs more) (or-more _ _ _ _ (valued-more 62 (codes "gt;") bs more) (or-more _ _ _ _ (valued-more 34 (codes "quot;") bs more) (valued-more 39 (codes "apos;") bs more))))

-- ---- numbers

numbered-more : (base : ℕ) (digits rest more : List ℕ) → Stays (numbered base digits rest) (numbered base digits (rest ++ more))
numbered-more base digits rest more = at (is_filled digits && is_character (number_of base digits))
  where
    at : (b : Bool) → Stays (if b then valued (number_of base digits) (behind (codes ";") rest) else None) (if b then valued (number_of base digits) (behind (codes ";") (rest ++ more)) else None)
    at true h = valued-more (number_of base digits) (codes ";") rest more h
    at false h = absurd (true≢false (sym h))

numbered-none : (base : ℕ) (digits : List ℕ) → is_there (numbered base digits []) ≡ false
numbered-none base digits = at (is_filled digits && is_character (number_of base digits))
  where
    at : (b : Bool) → is_there (if b then valued (number_of base digits) None else None) ≡ false
    at true = refl
    at false = refl

-- the digits end within the text
record Ends (p : ℕ → Bool) (bs more : List ℕ) : Type 0 where
  pub front_same : front p (bs ++ more) ≡ front p bs
  pub after_more : after p (bs ++ more) ≡ after p bs ++ more

ends : (p : ℕ → Bool) (bs more : List ℕ) (c : ℕ) (rest : List ℕ) → after p bs ≡ c ∷ rest → Ends p bs more
ends p bs more c rest e =
    let whole : bs ++ more ≡ front p bs ++ (c ∷ (rest ++ more)) =
    ap (λ (x : List ℕ). x ++ more) (sym (front-after p bs)) ∙ append_assoc (front p bs) (after p bs) more ∙ ap (λ (x : List ℕ). front p bs ++ (x ++ more)) e in
    let stop : stops p (c ∷ (rest ++ more)) ≡ true = sym (ap (stops p) e) ∙ after_stops p bs in
    record {
      front_same = ap (front p) whole ∙ front_again p (front p bs) (c ∷ (rest ++ more)) (front_passes p bs) stop;
      after_more = ap (after p) whole ∙ after_again p (front p bs) (c ∷ (rest ++ more)) (front_passes p bs) stop ∙ ap (λ (x : List ℕ). x ++ more) (sym e);
    }

number-more : (base : ℕ) (bs more : List ℕ) → Stays (number_at base bs) (number_at base (bs ++ more))
unfolding number_at
number-more base bs more h = at (after (is_digit_in base) bs) refl
  where
    at : (a : List ℕ) → after (is_digit_in base) bs ≡ a → is_there (number_at base (bs ++ more)) ≡ true
    at [] e = absurd (true≢false (sym h ∙ ap (λ (a : List ℕ). is_there (numbered base (front (is_digit_in base) bs) a)) e ∙ numbered-none base (front (is_digit_in base) bs)))
    at (c ∷ rest) e =
        let it = ends (is_digit_in base) bs more c rest e in
        ap (λ (d : List ℕ). is_there (numbered base d (after (is_digit_in base) (bs ++ more)))) it.front_same
        ∙ ap (λ (a : List ℕ). is_there (numbered base (front (is_digit_in base) bs) a)) it.after_more
        ∙ numbered-more base (front (is_digit_in base) bs) (after (is_digit_in base) bs) more h

number-none : (base : ℕ) → is_there (number_at base []) ≡ false
unfolding number_at
number-none base = refl

-- what follows a `#` and another byte than `x`
other-than-x : (c : ℕ) (rest other : List ℕ) → behind (codes "#x") (35 ∷ c ∷ rest) ≡ None → behind (codes "#x") (35 ∷ c ∷ other) ≡ None
other-than-x c rest other = at (c == 120)
  where
    at : (b : Bool) → (if b then Some rest else None) ≡ None → (if b then Some other else None) ≡ None
    at true e = absurd (cc e)
    at false e = refl

by-more : (bs more : List ℕ) → Stays (numbered_by (behind (codes "#x") bs) (behind (codes "#") bs)) (numbered_by (behind (codes "#x") (bs ++ more)) (behind (codes "#") (bs ++ more)))
by-more bs more = at (behind (codes "#x") bs) (behind (codes "#") bs) refl refl
  where
    decimal : (d : List ℕ) → behind (codes "#x") (35 ∷ d) ≡ None → is_there (number_at 10 d) ≡ true
        → is_there (numbered_by (behind (codes "#x") (35 ∷ (d ++ more))) (behind (codes "#") (35 ∷ (d ++ more)))) ≡ true
    decimal [] none h = absurd (true≢false (sym h ∙ number-none 10))
    decimal (c ∷ d) none h =
        ap (λ (o : Option (List ℕ)). is_there (numbered_by o (Some (c ∷ (d ++ more))))) (other-than-x c d (d ++ more) none) ∙ number-more 10 (c ∷ d) more h

    at : (x d : Option (List ℕ)) → behind (codes "#x") bs ≡ x → behind (codes "#") bs ≡ d
        → Stays (numbered_by x d) (numbered_by (behind (codes "#x") (bs ++ more)) (behind (codes "#") (bs ++ more)))
    at (Some rest) d e f h =
        ap (λ (o : Option (List ℕ)). is_there (numbered_by o (behind (codes "#") (bs ++ more)))) (behind-more (codes "#x") bs more rest e) ∙ number-more 16 rest more h
    at None None e f h = absurd (true≢false (sym h))
    at None (Some rest) e f h =
        let begins_so = behind_takes (codes "#") bs rest f in
        ap (λ (z : List ℕ). is_there (numbered_by (behind (codes "#x") (z ++ more)) (behind (codes "#") (z ++ more)))) begins_so
        ∙ decimal rest (sym (ap (behind (codes "#x")) begins_so) ∙ e) h

reference-more : (bs more : List ℕ) → Stays (reference_at bs) (reference_at (bs ++ more))
unfolding reference_at
reference-more bs more = or-more _ _ _ _ (named-more bs more) (by-more bs more)

-- ---- texts

-- where each `&` of two texts begins a reference, so does each of both together
pub references-append : (x y : List ℕ) → has_references x ≡ true → has_references y ≡ true → has_references (x ++ y) ≡ true
references-append [] y h g = g
references-append (b ∷ x) y h g =
    let both = and_parts (not (b == 38) || is_there (reference_at x)) (has_references x) h in
    and_from (not (b == 38) || is_there (reference_at (x ++ y))) (has_references (x ++ y))
    (at (or_cases (not (b == 38)) (is_there (reference_at x)) both.0)) (references-append x y both.1 g)
  where
    at : (not (b == 38) ≡ true) ⊎ (is_there (reference_at x) ≡ true) → (not (b == 38) || is_there (reference_at (x ++ y))) ≡ true
    at (inl other) = or_left (not (b == 38)) (is_there (reference_at (x ++ y))) other
    at (inr there) = or_right (not (b == 38)) (is_there (reference_at (x ++ y))) (reference-more x y there)
