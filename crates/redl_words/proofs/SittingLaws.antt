-- The journals of two sittings: what was read is what the words are, and what the words are is read.
use Rattle.std.proofs.Common.{◌≡◌, ℕ, Bool, true, false, cond, List, [], ◌∷◌, ◌++◌, length, Some, None, Result, Ok, Err, Bor, refl, sym, ap, subst, ◌∙◌, arith, append-nil, append_assoc, IsTrue, IsUtf8}
use Rattle.std.specs.Prelude.{◌&&◌, codes, IsErrAnd}
use Rattle.std.specs.List.{flat_map, AllByRecursion}
use Rattle.std.specs.Str.{bytes_eq}
use Rattle.std.proofs.lemmas.Bool.{and_parts}
use Rattle.std.proofs.lemmas.Option.{same_Some, cond_some}
use Rattle.redl_words.specs.Items.{is_name}
use Rattle.redl_words.specs.Sittings.{SittingJournal, of_first, of_second, sitting_words, sitting_name, firsts_of, seconds_of}
use Rattle.redl_words.specs.Reading.Answers.{Fails}
use Rattle.redl_words.specs.Reading.Sittings.{Sittings, with_first, with_second, sittings_in, GoesOn}
use Rattle.redl_words.specs.declared.error.WordsError.{WordsError}
use Rattle.redl_words.proofs.SelectionLaws.{bytes_same}

-- ---- one turn of the loop

pub goes_second : (before : Sittings) (word : List ℕ) (later : List (List ℕ)) → is_name word ≡ true → sittings_in before (word ∷ later) ≡ sittings_in (with_second word before) later
unfolding sittings_in
goes_second before word [] name = rw name refl
goes_second before word (other ∷ later) name = rw name refl

pub goes_first : (before : Sittings) (word name : List ℕ) (later : List (List ℕ)) → is_name word ≡ false → (bytes_eq word (codes "--journal") && is_name name) ≡ true
    → sittings_in before (word ∷ name ∷ later) ≡ sittings_in (with_first name before) later
unfolding sittings_in
goes_first before word name later other is = rw (other, is) refl

pub stops_pair : (before : Sittings) (word name : List ℕ) (later : List (List ℕ)) → is_name word ≡ false → (bytes_eq word (codes "--journal") && is_name name) ≡ false
    → sittings_in before (word ∷ name ∷ later) ≡ None
unfolding sittings_in
stops_pair before word name later other is = rw (other, is) refl

pub stops_short : (before : Sittings) (word : List ℕ) → is_name word ≡ false → sittings_in before (word ∷ []) ≡ None
unfolding sittings_in
stops_short before word other = rw other refl

-- the same, where the names are those of a list that one was added to
pub second_read : (before : Sittings) (word : List ℕ) (later seconds : List (List ℕ)) → is_name word ≡ true → seconds ≡ before.seconds ++ word ∷ []
    → sittings_in before (word ∷ later) ≡ sittings_in (record before { seconds = seconds }) later
second_read before word later seconds name is = goes_second before word later name ∙ ap (λ (s : List (List ℕ)). sittings_in (record before { seconds = s }) later) (sym is)

pub first_read : (before : Sittings) (word name : List ℕ) (later firsts : List (List ℕ)) → is_name word ≡ false → (bytes_eq word (codes "--journal") && is_name name) ≡ true
    → firsts ≡ before.firsts ++ name ∷ [] → sittings_in before (word ∷ name ∷ later) ≡ sittings_in (record before { firsts = firsts }) later
first_read before word name later firsts other pair is =
    goes_first before word name later other pair ∙ ap (λ (f : List (List ℕ)). sittings_in (record before { firsts = f }) later) (sym is)

pub none_left : (before : Sittings) (words : List (List ℕ)) → length words ≡ 0 → sittings_in before words ≡ Some before
unfolding sittings_in
none_left before [] e = refl
none_left before (word ∷ words) e = absurd (omega arith)

-- an error that is passed on
pub error_goes : (before after : Sittings) (words : List (List ℕ)) (r : Result (Bor (List (List ℕ))) WordsError) (e : WordsError) → IsErrAnd r (λ x. x ≡ e)
    → Fails e (sittings_in before words) → GoesOn before words after r
error_goes before after words (Ok rest) e is h = absurd is
error_goes before after words (Err x) e is h = subst (λ (y : WordsError). Fails y (sittings_in before words)) (sym is) h

-- ---- what is read

-- the words name these journals, and what was read after is on top of what was read before
pub record Named (before after : Sittings) (words : List (List ℕ)) : Type 0 where
  pub journals : List SittingJournal
  pub written : words ≡ flat_map sitting_words journals
  pub names : AllByRecursion (λ journal. IsTrue (is_name (sitting_name journal))) journals
  pub firsts : after.firsts ≡ before.firsts ++ firsts_of journals
  pub seconds : after.seconds ≡ before.seconds ++ seconds_of journals

second_more : (before after : Sittings) (word : List ℕ) (later : List (List ℕ)) → is_name word ≡ true → Named (with_second word before) after later → Named before after (word ∷ later)
second_more before after word later name more = record {
  journals = of_second word ∷ more.journals;
  written = ap (λ (words : List (List ℕ)). word ∷ words) more.written;
  names = (name, more.names);
  firsts = more.firsts;
  seconds = more.seconds ∙ append_assoc before.seconds (word ∷ []) (seconds_of more.journals);
}

first_more : (before after : Sittings) (name : List ℕ) (later : List (List ℕ)) → is_name name ≡ true → Named (with_first name before) after later
    → Named before after (codes "--journal" ∷ name ∷ later)
first_more before after name later is more = record {
  journals = of_first name ∷ more.journals;
  written = ap (λ (words : List (List ℕ)). codes "--journal" ∷ name ∷ words) more.written;
  names = (is, more.names);
  firsts = more.firsts ∙ append_assoc before.firsts (name ∷ []) (firsts_of more.journals);
  seconds = more.seconds;
}

-- two words, by what they are
taken : (before after : Sittings) (word name : List ℕ) (later : List (List ℕ)) (t u : Bool) → is_name word ≡ t → (bytes_eq word (codes "--journal") && is_name name) ≡ u
    → (sittings_in (with_second word before) (name ∷ later) ≡ Some after → Named (with_second word before) after (name ∷ later))
    → (sittings_in (with_first name before) later ≡ Some after → Named (with_first name before) after later)
    → cond t (sittings_in (with_second word before) (name ∷ later)) (cond u (sittings_in (with_first name before) later) None) ≡ Some after
    → Named before after (word ∷ name ∷ later)
taken before after word name later true u is pair second first e = second_more before after word (name ∷ later) is (second e)
taken before after word name later false true is pair second first e =
    let both = and_parts (bytes_eq word (codes "--journal")) (is_name name) pair in
    subst (λ (w : List ℕ). Named before after (w ∷ name ∷ later)) (sym (bytes_same word (codes "--journal") both.0))
    (first_more before after name later both.1 (first e))
taken before after word name later false false is pair second first e = absurd cc

pub sittings_take : (before after : Sittings) (words : List (List ℕ)) → sittings_in before words ≡ Some after → Named before after words
unfolding sittings_in
sittings_take before after [] e = record {
  journals = [];
  written = refl;
  names = tt;
  firsts = sym (ap (λ (s : Sittings). s.firsts) (same_Some before after e)) ∙ sym (append-nil before.firsts);
  seconds = sym (ap (λ (s : Sittings). s.seconds) (same_Some before after e)) ∙ sym (append-nil before.seconds);
}
sittings_take before after (word ∷ []) e =
    let is = cond_some (is_name word) (with_second word before) after e in
    second_more before after word [] is.0 (sittings_take (with_second word before) after [] (ap Some is.1))
sittings_take before after (word ∷ name ∷ later) e =
    taken before after word name later (is_name word) (bytes_eq word (codes "--journal") && is_name name) refl refl
    (λ h. sittings_take (with_second word before) after (name ∷ later) h) (λ h. sittings_take (with_first name before) after later h) e

-- what these journals say after others
abbrev pub after_all : Sittings → List SittingJournal → Sittings
after_all before journals = record { firsts = before.firsts ++ firsts_of journals; seconds = before.seconds ++ seconds_of journals }

pub sittings_again : (before : Sittings) (journals : List SittingJournal) → AllByRecursion (λ journal. IsTrue (is_name (sitting_name journal))) journals
    → sittings_in before (flat_map sitting_words journals) ≡ Some (after_all before journals)
unfolding sittings_in
sittings_again before [] h = same before.firsts before.seconds (before.firsts ++ []) (before.seconds ++ []) (sym (append-nil before.firsts)) (sym (append-nil before.seconds))
  where
    same : (f s g t : List (List ℕ)) → f ≡ g → s ≡ t → Some (let r : Sittings = record { firsts = f; seconds = s } in r) ≡ Some (record { firsts = g; seconds = t })
    same f s g t a b = cc
sittings_again before (of_first name ∷ journals) h =
    goes_first before (codes "--journal") name (flat_map sitting_words journals) refl h.0
    ∙ sittings_again (with_first name before) journals h.1
    ∙ ap (λ (f : List (List ℕ)). Some (let r : Sittings = record { firsts = f; seconds = before.seconds ++ seconds_of journals } in r)) (append_assoc before.firsts (name ∷ []) (firsts_of journals))
sittings_again before (of_second name ∷ journals) h =
    goes_second before name (flat_map sitting_words journals) h.0
    ∙ sittings_again (with_second name before) journals h.1
    ∙ ap (λ (s : List (List ℕ)). Some (let r : Sittings = record { firsts = before.firsts ++ firsts_of journals; seconds = s } in r)) (append_assoc before.seconds (name ∷ []) (seconds_of journals))

-- the names are words
pub firsts_utf8 : (journals : List SittingJournal) → AllByRecursion IsUtf8 (flat_map sitting_words journals) → AllByRecursion IsUtf8 (firsts_of journals)
firsts_utf8 [] u = tt
firsts_utf8 (of_first name ∷ journals) u = (u.1.0, firsts_utf8 journals u.1.1)
firsts_utf8 (of_second name ∷ journals) u = firsts_utf8 journals u.1

pub seconds_utf8 : (journals : List SittingJournal) → AllByRecursion IsUtf8 (flat_map sitting_words journals) → AllByRecursion IsUtf8 (seconds_of journals)
seconds_utf8 [] u = tt
seconds_utf8 (of_first name ∷ journals) u = seconds_utf8 journals u.1.1
seconds_utf8 (of_second name ∷ journals) u = (u.0, seconds_utf8 journals u.1)
