-- The numbers and the words of choices, one choice after another.
use Rattle.std.proofs.Common.{◌≡◌, ℕ, ◌+◌, ◌<◌, ◌==◌, ◌||◌, Bool, true, false, List, [], ◌∷◌, ◌++◌, map, length, take, get_or, fold, reverse, Option, Some, All, Ordering, Less, Equal, Greater, refl, sym, ap, ◌∙◌, append-nil, cond, if◌then◌else◌}
use Rattle.std.proofs.lemmas.Bool.{eq-eqb, eqb-true, false_from_ne_true, or_from, or_parts}
use Rattle.std.proofs.lemmas.List.{append_assoc, map-append, reverse-append, take_more}
use Rattle.std.proofs.lemmas.List.Elements.{All-head, All-tail}
use Rattle.std.proofs.lemmas.List.Folds.{list_any-append}
use Rattle.std.proofs.lemmas.List.Sums.{fold-append, fold_push}
use Rattle.std.proofs.lemmas.Grind.{flat_map-append}
use Rattle.std.specs.BTreeMap.{insert_entry}
use Rattle.std.specs.BTreeSet.{insert_key}
use Rattle.std.specs.List.{filter_map, find, flat_map, list_any}
use Rattle.std.proofs.lemmas.Map.Lookups.{exact_unsigned}
use Rattle.std.specs.Cmp.{nat_cmp_is}
use Rattle.std.specs.Map.{keys_of}
use Rattle.std.specs.Option.{option_map}
use Rattle.std.specs.Ordering.{nat_cmp, match_ordering, is_eq}
use Rattle.std.proofs.Math.Bool.{or-false}
use Rattle.redl_commands.specs.Choices.{ask_edits, chosen_entries, chosen_numbers, entry_with, is_among, word_on}
use Rattle.redl_index.specs.declared.revision.Revision.{Revision}
use Rattle.redl_journal.specs.declared.entry.Word.{Word}
use Rattle.redl_kinds.specs.Selections.{Selection}
use Rattle.redl_select.specs.Selections.{asks_edits, chosen, in_order}
use Rattle.redl_select.proofs.ChosenLaws.{chosen-unasked}
use Rattle.redl_kinds.specs.Views.{selection_of}
use Rattle.redl_kinds.specs.declared.selection.Selection as code
use Rattle.redl_words.specs.Views.{choices_view}

-- ---- one number set

-- the keys of a map with one more
pub keys-insert_entry : {K X : Type 0} (order : K → K → Ordering) (key : K) (value : X) (entries : List (K × X))
    → keys_of (insert_entry order entries key value) ≡ insert_key order (keys_of entries) key
keys-insert_entry order key value [] = refl
keys-insert_entry {K} {X} order key value (entry ∷ entries) = by (order key entry.0) (keys-insert_entry order key value entries)
  where
    by : (o : Ordering) → keys_of (insert_entry order entries key value) ≡ insert_key order (keys_of entries) key
        → keys_of (match_ordering o ((key, value) ∷ entry ∷ entries) ((entry.0, value) ∷ entries) (entry ∷ insert_entry order entries key value))
        ≡ match_ordering o (key ∷ entry.0 ∷ keys_of entries) (entry.0 ∷ keys_of entries) (entry.0 ∷ insert_key order (keys_of entries) key)
    by Less ih = refl
    by Equal ih = refl
    by Greater ih = ap (λ ks. entry.0 ∷ ks) ih

-- the numbers with one more at the end
pub keys_more : (numbers keys : List ℕ) (number : ℕ)
    → fold (insert_key nat_cmp) keys (numbers ++ number ∷ []) ≡ insert_key nat_cmp (fold (insert_key nat_cmp) keys numbers) number
keys_more numbers keys number = fold_push (insert_key nat_cmp) keys numbers number

-- a number is among these and one more
pub among_more : (numbers : List ℕ) (last number : ℕ) → is_among (numbers ++ last ∷ []) number ≡ (is_among numbers number || last == number)
among_more numbers last number = list_any-append (λ one. one == number) numbers (last ∷ []) ∙ ap (λ b. is_among numbers number || b) (or-false (last == number))

-- numbers that compare as equal are the same
compared : (a b : ℕ) → is_eq (nat_cmp a b) ≡ (a == b)
compared a b = by (nat_cmp a b) refl
  where
    less≢equal : Less ≡ Equal → ⊥
    less≢equal e = cc e

    greater≢equal : Greater ≡ Equal → ⊥
    greater≢equal e = cc e

    by : (o : Ordering) → nat_cmp a b ≡ o → is_eq o ≡ (a == b)
    by Less is = sym (false_from_ne_true (a == b) (λ e. less≢equal (sym is ∙ sym (nat_cmp_is a b Equal (eqb-true a b e)))))
    by Equal is = sym (eq-eqb a b (exact_unsigned a b is))
    by Greater is = sym (false_from_ne_true (a == b) (λ e. greater≢equal (sym is ∙ sym (nat_cmp_is a b Equal (eqb-true a b e)))))

-- what a number has when one more was set
pub word_set : {X : Type 0} (before now : List ℕ) (last number : ℕ) → now ≡ before ++ last ∷ [] → (word first old new : X)
    → old ≡ (if is_among before number then word else first) → new ≡ cond (is_eq (nat_cmp last number)) word old
    → new ≡ (if is_among now number then word else first)
word_set {X} before now last number more word first old new was is =
    is ∙ ap (λ b. cond b word old) (compared last number) ∙ ap (cond (last == number) word) was
    ∙ either (is_among before number) (last == number)
    ∙ ap (λ b. cond b word first) (sym (ap (λ numbers. is_among numbers number) more ∙ among_more before last number))
  where
    either : (among same : Bool) → cond same word (cond among word first) ≡ cond (among || same) word first
    either true true = refl
    either true false = refl
    either false true = refl
    either false false = refl

-- ---- one choice more

pub numbers_more : (revisions : List Revision) (edits : List ℕ) (choices : List (Word × Selection)) (choice : Word × Selection)
    → chosen_numbers revisions edits (choices ++ choice ∷ []) ≡ fold (insert_key nat_cmp) (chosen_numbers revisions edits choices) (chosen revisions edits choice.1)
numbers_more revisions edits choices choice =
    ap in_order (flat_map-append (λ (c : Word × Selection). chosen revisions edits c.1) choices (choice ∷ [])
    ∙ ap (λ last. flat_map (λ (c : Word × Selection). chosen revisions edits c.1) choices ++ last) (append-nil (chosen revisions edits choice.1)))
    ∙ fold-append (insert_key nat_cmp) [] (flat_map (λ (c : Word × Selection). chosen revisions edits c.1) choices) (chosen revisions edits choice.1)

pub word_more : (revisions : List Revision) (edits : List ℕ) (choices : List (Word × Selection)) (choice : Word × Selection) (number : ℕ)
    → word_on revisions edits (choices ++ choice ∷ []) number ≡ (if is_among (chosen revisions edits choice.1) number then Some choice.0 else word_on revisions edits choices number)
word_more revisions edits choices choice number =
    ap (λ cs. option_map (λ (c : Word × Selection). c.0) (find (λ (c : Word × Selection). is_among (chosen revisions edits c.1) number) cs)) (reverse-append choices (choice ∷ []))
    ∙ by (is_among (chosen revisions edits choice.1) number)
  where
    by : (b : Bool) → option_map (λ (c : Word × Selection). c.0) (cond b (Some choice) (find (λ (c : Word × Selection). is_among (chosen revisions edits c.1) number) (reverse choices)))
        ≡ (if b then Some choice.0 else word_on revisions edits choices number)
    by true = refl
    by false = refl

-- ---- entries

-- what is made of each key and the value that it has is made of the entries
pub made_of_entries : {X Y : Type 0} (make : ℕ → X → Y) (value : ℕ → Option X) (entries : List (ℕ × X)) → All (λ entry. value entry.0 ≡ Some entry.1) entries
    → filter_map (λ key. option_map (make key) (value key)) (keys_of entries) ≡ map (λ entry. make entry.0 entry.1) entries
made_of_entries make value [] all = refl
made_of_entries {X} make value (entry ∷ entries) all =
    let here : value entry.0 ≡ Some entry.1 = All-head (λ (e : ℕ × X). value e.0 ≡ Some e.1) entry entries all in
    rw here (ap (λ made. make entry.0 entry.1 ∷ made) (made_of_entries make value entries (All-tail (λ (e : ℕ × X). value e.0 ≡ Some e.1) entry entries all)))

-- two readings of the keys that agree make the same
pub made_same : {X Y : Type 0} (make : ℕ → X → Y) (value other : ℕ → Option X) → ((key : ℕ) → value key ≡ other key) → (keys : List ℕ)
    → filter_map (λ key. option_map (make key) (value key)) keys ≡ filter_map (λ key. option_map (make key) (other key)) keys
made_same make value other same [] = refl
made_same make value other same (key ∷ keys) = rw (same key, made_same make value other same keys) refl

-- what is made of one entry more, and of those that are left
pub made_more : {X Y : Type 0} (make : X → Y) (made now : List Y) (one : Y) (x : X) (left rest whole : List X)
    → now ≡ made ++ one ∷ [] → one ≡ make x → left ≡ x ∷ rest → made ++ map make left ≡ map make whole → now ++ map make rest ≡ map make whole
made_more make made now one x left rest whole more is steps so_far =
    ap (λ ys. ys ++ map make rest) (more ∙ ap (λ y. made ++ y ∷ []) is) ∙ append_assoc made (make x ∷ []) (map make rest)
    ∙ ap (λ xs. made ++ map make xs) (sym steps) ∙ so_far

-- the word of the choices up to one more
pub choices_more : (choices : List (Word × code.Selection)) (i : ℕ) (choice : Word × code.Selection) → i < length choices → choice ≡ get_or choices i choice
    → choices_view (take (i + 1) choices) ≡ choices_view (take i choices) ++ (choice.0, selection_of choice.1) ∷ []
choices_more choices i choice within is =
    ap choices_view (take_more choices i choice within ∙ ap (λ c. take i choices ++ c ∷ []) (sym is))
    ∙ map-append (λ (c : Word × code.Selection). (c.0, selection_of c.1)) (take i choices) (choice ∷ [])

-- ---- choices of which none asks for edits

-- none of them in the other order does
any-reverse : {X : Type 0} (p : X → Bool) (xs : List X) → list_any p xs ≡ false → list_any p (reverse xs) ≡ false
any-reverse p [] none = refl
any-reverse p (x ∷ xs) none =
    let parts = or_parts (p x) (list_any p xs) none in
    ap (list_any p) (reverse-append (x ∷ []) xs) ∙ list_any-append p (reverse xs) (x ∷ [])
    ∙ or_from (list_any p (reverse xs)) (list_any p (x ∷ [])) (any-reverse p xs parts.1) (or_from (p x) false parts.0 refl)

module _ (revisions : List Revision) (edits others : List ℕ) where
  numbers-unasked : (choices : List (Word × Selection)) → ask_edits choices ≡ false
      → flat_map (λ (c : Word × Selection). chosen revisions edits c.1) choices ≡ flat_map (λ (c : Word × Selection). chosen revisions others c.1) choices
  numbers-unasked [] none = refl
  numbers-unasked (choice ∷ choices) none =
      let parts = or_parts (asks_edits choice.1) (ask_edits choices) none in
      rw (chosen-unasked revisions edits others choice.1 parts.0, numbers-unasked choices parts.1) refl

  found-unasked : (number : ℕ) (choices : List (Word × Selection)) → ask_edits choices ≡ false
      → find (λ (c : Word × Selection). is_among (chosen revisions edits c.1) number) choices ≡ find (λ (c : Word × Selection). is_among (chosen revisions others c.1) number) choices
  found-unasked number [] none = refl
  found-unasked number (choice ∷ choices) none =
      let parts = or_parts (asks_edits choice.1) (ask_edits choices) none in
      rw (chosen-unasked revisions edits others choice.1 parts.0, found-unasked number choices parts.1) refl

  word-unasked : (choices : List (Word × Selection)) → ask_edits choices ≡ false → (number : ℕ) → word_on revisions edits choices number ≡ word_on revisions others choices number
  word-unasked choices none number =
      ap (option_map (λ (c : Word × Selection). c.0)) (found-unasked number (reverse choices) (any-reverse (λ (c : Word × Selection). asks_edits c.1) choices none))

  -- by any edits they make the same entries
  pub entries-unasked : (reviewer : List ℕ) (rank seq : ℕ) (choices : List (Word × Selection)) → ask_edits choices ≡ false
      → chosen_entries reviewer rank seq revisions edits choices ≡ chosen_entries reviewer rank seq revisions others choices
  entries-unasked reviewer rank seq choices none =
      made_same (entry_with reviewer rank seq) (word_on revisions edits choices) (word_on revisions others choices) (word-unasked choices none) (chosen_numbers revisions edits choices)
      ∙ ap (λ (numbers : List ℕ). filter_map (λ number. option_map (entry_with reviewer rank seq number) (word_on revisions others choices number)) (in_order numbers)) (numbers-unasked choices none)

-- edits that are looked for where a choice asks for them make the entries of all of them
pub entries-asked : (revisions : List Revision) (edits : List ℕ) (reviewer : List ℕ) (rank seq : ℕ) (choices : List (Word × Selection))
    → chosen_entries reviewer rank seq revisions (if ask_edits choices then edits else []) choices ≡ chosen_entries reviewer rank seq revisions edits choices
entries-asked revisions edits reviewer rank seq choices = by (ask_edits choices) refl
  where
    by : (asked : Bool) → ask_edits choices ≡ asked
        → chosen_entries reviewer rank seq revisions (if asked then edits else []) choices ≡ chosen_entries reviewer rank seq revisions edits choices
    by true is = refl
    by false is = entries-unasked revisions [] edits reviewer rank seq choices is
