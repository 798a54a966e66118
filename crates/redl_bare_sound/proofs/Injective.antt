-- Two lists of units with the same text are the same units.
use Rattle.std.proofs.Common.{◌≡◌, ℕ, List, [], ◌∷◌, ◌++◌, map, Bool, true, false, ◌&&◌, codes, bytes_eq, Option, Some, None, refl, sym, ap, ◌∙◌, append_assoc, eqb, if◌then◌else◌}
use Rattle.std.specs.Option.{option_map}
use Rattle.std.proofs.lemmas.Bool.{and_parts, eqb-false, eqb-true}
use Rattle.std.proofs.lemmas.Slice.Eq.{bytes_eq-Decides}
use Rattle.redl_bare.specs.Marks.{Stamp, Mark, Marks, sign_place, same_mark, same_marks}
use Rattle.redl_bare.specs.Units.{byte, object, BareUnit, text, thing, member, story}
use Rattle.redl_bare.specs.BareText.{byte_escaped, stamp_text, marks_text, story_name, member_name, closing, lines, line_after_all, units_text}
use Rattle.redl_bare.specs.declared.units.Story.{Story}
use Rattle.redl_tree.specs.declared.kinds.Kind.{Kind}
use Rattle.redl_bare_sound.specs.Said.{said_stamp, said_marks, said_unit, AreNamed}
use Rattle.redl_bare_sound.proofs.Splits.{head_of, tail_of, byte_split, byte_no_line}
use Rattle.redl_bare_sound.proofs.MarkSplits.{same_sign, of_text, of_thing, marks_split, stamp_before_line, sort_of, sort_marks}
use Rattle.redl_bare_sound.proofs.Names.{Own, own_thing, own_object, own_name, own_split, story_split, kind_split}

-- ---- equal marks are one

mark_is : (m k : Mark) → same_mark m k ≡ true → m ≡ k
mark_is m k e =
    let outer = and_parts (eqb (sign_place m.sign) (sign_place k.sign)) (bytes_eq m.stamp.author k.stamp.author && bytes_eq m.stamp.minute k.stamp.minute) e in
    let inner = and_parts (bytes_eq m.stamp.author k.stamp.author) (bytes_eq m.stamp.minute k.stamp.minute) outer.1 in
    let sign : m.sign ≡ k.sign = same_sign m.sign k.sign (eqb-true (sign_place m.sign) (sign_place k.sign) outer.0) in
    ap (λ s. record { sign = s; stamp = m.stamp }) sign
    ∙ ap (λ a. record { sign = k.sign; stamp = record { author = a; minute = m.stamp.minute } }) ((bytes_eq-Decides m.stamp.author k.stamp.author).0 inner.0)
    ∙ ap (λ n. record { sign = k.sign; stamp = record { author = k.stamp.author; minute = n } }) ((bytes_eq-Decides m.stamp.minute k.stamp.minute).0 inner.1)

marks_are : (m k : Marks) → same_marks m k ≡ true → m ≡ k
marks_are [] [] e = refl
marks_are [] (b ∷ k) e = absurd cc
marks_are (a ∷ m) [] e = absurd cc
marks_are (a ∷ m) (b ∷ k) e =
    let both = and_parts (same_mark a b) (same_marks m k) e in
    ap (λ x. x ∷ m) (mark_is a b both.0) ∙ ap (λ l. b ∷ l) (marks_are m k both.1)

-- ---- what follows a line that is open or none

abbrev rest : Option Marks → List BareUnit → List ℕ
rest line us = lines line us ++ closing (line_after_all line us)

character_begins : (m : Marks) (c : ℕ) (us : List BareUnit) → rest None (text m (byte c) ∷ us) ≡ marks_text m ++ (124 ∷ (byte_escaped c ++ rest (Some m) us))
character_begins m c us = simp append_assoc

-- what has a line of its own, as a unit
abbrev own_unit : Marks → Own → BareUnit
own_unit m (own_thing t) = thing m t
own_unit m (own_object o) = text m (object o)

own_begins : (m : Marks) (o : Own) (us : List BareUnit) → rest None (own_unit m o ∷ us) ≡ marks_text m ++ (42 ∷ (own_name o ++ (10 ∷ rest None us)))
own_begins m (own_thing t) us = simp append_assoc
own_begins m (own_object o) us = simp append_assoc

member_begins : (k : Kind) (s : Stamp) (us : List BareUnit) → rest None (member k s ∷ us) ≡ 43 ∷ (member_name k ++ (9 ∷ (stamp_text s ++ (10 ∷ rest None us))))
member_begins k s us = simp append_assoc

story_begins : (s : Story) (us : List BareUnit) → rest None (story s ∷ us) ≡ 61 ∷ 32 ∷ (story_name s ++ (10 ∷ rest None us))
story_begins s us = simp append_assoc

abbrev sort_unit : BareUnit → ℕ
sort_unit (text m t) = 3
sort_unit (thing m t) = 3
sort_unit (member k s) = 1
sort_unit (story s) = 2

sort_own : (m : Marks) (o : Own) (us : List BareUnit) → sort_of (rest None (own_unit m o ∷ us)) ≡ 3
sort_own m o us = ap sort_of (own_begins m o us) ∙ sort_marks m 42 (own_name o ++ (10 ∷ rest None us)) of_thing

sort_rest : (u : BareUnit) (us : List BareUnit) → sort_of (rest None (u ∷ us)) ≡ sort_unit u
sort_rest (text m (byte c)) us = ap sort_of (character_begins m c us) ∙ sort_marks m 124 (byte_escaped c ++ rest (Some m) us) of_text
sort_rest (text m (object o)) us = sort_own m (own_object o) us
sort_rest (thing m t) us = sort_own m (own_thing t) us
sort_rest (member k s) us = ap sort_of (member_begins k s us)
sort_rest (story s) us = ap sort_of (story_begins s us)

-- units of other sorts have other texts
sorts : (u v : BareUnit) (us vs : List BareUnit) → rest None (u ∷ us) ≡ rest None (v ∷ vs) → sort_unit u ≡ sort_unit v
sorts u v us vs h = sym (sort_rest u us) ∙ ap sort_of h ∙ sort_rest v vs

sort_some : (u : BareUnit) → sort_unit u ≡ 0 → ⊥
sort_some (text m t) e = eqb-false 3 0 refl e
sort_some (thing m t) e = eqb-false 3 0 refl e
sort_some (member k s) e = eqb-false 1 0 refl e
sort_some (story s) e = eqb-false 2 0 refl e

not_empty : (u : BareUnit) (us : List BareUnit) → rest None (u ∷ us) ≡ [] → ⊥
not_empty u us h = sort_some u (sym (sort_rest u us) ∙ ap sort_of h)

-- ---- a line that is open

-- the first of these goes on in it
abbrev goes : Marks → List BareUnit → Bool
goes l [] = false
goes l (text m (byte c) ∷ us) = same_marks l m
goes l (text m (object o) ∷ us) = false
goes l (thing m t ∷ us) = false
goes l (member k s ∷ us) = false
goes l (story s ∷ us) = false

-- what follows where the line of a character with these marks is open, or isn't
abbrev going : Marks → Marks → ℕ → List BareUnit → Bool → List ℕ
going l m c us b =
    (((if b then [] else (10 ∷ []) ++ (marks_text m ++ codes "|")) ++ byte_escaped c) ++ lines (if b then Some l else Some m) us)
    ++ closing (line_after_all (if b then Some l else Some m) us)

breaks : (l : Marks) (us : List BareUnit) → goes l us ≡ false → rest (Some l) us ≡ 10 ∷ rest None us
breaks l [] e = refl
breaks l (text m (byte c) ∷ us) e = ap (going l m c us) e
breaks l (text m (object o) ∷ us) e = refl
breaks l (thing m t ∷ us) e = refl
breaks l (member k s ∷ us) e = refl
breaks l (story s ∷ us) e = refl

goes_character : (l m : Marks) (c : ℕ) (us : List BareUnit) → same_marks l m ≡ true → rest (Some l) (text m (byte c) ∷ us) ≡ byte_escaped c ++ rest (Some l) us
goes_character l m c us e = ap (going l m c us) e ∙ append_assoc (byte_escaped c) (lines (Some l) us) (closing (line_after_all (Some l) us))

-- ---- the same units

abbrev said_line : Option Marks → Option Marks
said_line line = option_map said_marks line

abbrev Same : List BareUnit → Type 0
Same xs = (line other : Option Marks) → said_line line ≡ said_line other → (ys : List BareUnit) → AreNamed xs → AreNamed ys → rest line xs ≡ rest other ys
    → map said_unit xs ≡ map said_unit ys

joined : (x y : BareUnit) (xs ys : List BareUnit) → said_unit x ≡ said_unit y → map said_unit xs ≡ map said_unit ys → map said_unit (x ∷ xs) ≡ map said_unit (y ∷ ys)
joined x y xs ys e f = ap (λ u. u ∷ map said_unit xs) e ∙ ap (λ us. said_unit y ∷ us) f

said_own : (m : Marks) (o : Own) → said_unit (own_unit m o) ≡ own_unit (said_marks m) o
said_own m (own_thing t) = refl
said_own m (own_object o) = refl

own_step : (m k : Marks) (o p : Own) (xs ys : List BareUnit) → Same xs → AreNamed xs → AreNamed ys → rest None (own_unit m o ∷ xs) ≡ rest None (own_unit k p ∷ ys)
    → map said_unit (own_unit m o ∷ xs) ≡ map said_unit (own_unit k p ∷ ys)
own_step m k o p xs ys same a b h =
    let marks = marks_split m k 42 42 (own_name o ++ (10 ∷ rest None xs)) (own_name p ++ (10 ∷ rest None ys)) of_thing of_thing (sym (own_begins m o xs) ∙ h ∙ own_begins k p ys) in
    let name = own_split o p (rest None xs) (rest None ys) (ap tail_of marks.1) in
    joined (own_unit m o) (own_unit k p) xs ys (said_own m o ∙ ap (λ n. own_unit n o) marks.0 ∙ ap (own_unit (said_marks k)) name.0 ∙ sym (said_own k p))
    (same None None refl ys a b name.1)

-- a character is not what has a line of its own
not_own : (m k : Marks) (c : ℕ) (p : Own) (xs ys : List BareUnit) → rest None (text m (byte c) ∷ xs) ≡ rest None (own_unit k p ∷ ys) → ⊥
not_own m k c p xs ys h =
    let marks = marks_split m k 124 42 (byte_escaped c ++ rest (Some m) xs) (own_name p ++ (10 ∷ rest None ys)) of_text of_thing (sym (character_begins m c xs) ∙ h ∙ own_begins k p ys) in
    eqb-false 124 42 refl (ap head_of marks.1)

none_step : (x : BareUnit) (xs : List BareUnit) → Same xs → (ys : List BareUnit) → AreNamed (x ∷ xs) → AreNamed ys → rest None (x ∷ xs) ≡ rest None ys → map said_unit (x ∷ xs) ≡ map said_unit ys
none_step x xs same [] a b h = absurd (not_empty x xs h)
none_step (text m (byte c)) xs same (text k (byte d) ∷ ys) a b h =
    let marks = marks_split m k 124 124 (byte_escaped c ++ rest (Some m) xs) (byte_escaped d ++ rest (Some k) ys) of_text of_text (sym (character_begins m c xs) ∙ h ∙ character_begins k d ys) in
    let body = byte_split c d (rest (Some m) xs) (rest (Some k) ys) (ap tail_of marks.1) in
    joined (text m (byte c)) (text k (byte d)) xs ys (ap (λ n. text n (byte c)) marks.0 ∙ ap (λ e. text (said_marks k) (byte e)) body.0)
    (same (Some m) (Some k) (ap (λ n. Some n) marks.0) ys a.1 b.1 body.1)
none_step (text m (byte c)) xs same (text k (object p) ∷ ys) a b h = absurd (not_own m k c (own_object p) xs ys h)
none_step (text m (byte c)) xs same (thing k u ∷ ys) a b h = absurd (not_own m k c (own_thing u) xs ys h)
none_step (text m (object o)) xs same (text k (byte d) ∷ ys) a b h = absurd (not_own k m d (own_object o) ys xs (sym h))
none_step (text m (object o)) xs same (text k (object p) ∷ ys) a b h = own_step m k (own_object o) (own_object p) xs ys same a.1 b.1 h
none_step (text m (object o)) xs same (thing k u ∷ ys) a b h = own_step m k (own_object o) (own_thing u) xs ys same a.1 b.1 h
none_step (text m t) xs same (member k s ∷ ys) a b h = absurd (eqb-false 3 1 refl (sorts (text m t) (member k s) xs ys h))
none_step (text m t) xs same (story s ∷ ys) a b h = absurd (eqb-false 3 2 refl (sorts (text m t) (story s) xs ys h))
none_step (thing m t) xs same (text k (byte d) ∷ ys) a b h = absurd (not_own k m d (own_thing t) ys xs (sym h))
none_step (thing m t) xs same (text k (object p) ∷ ys) a b h = own_step m k (own_thing t) (own_object p) xs ys same a.1 b.1 h
none_step (thing m t) xs same (thing k u ∷ ys) a b h = own_step m k (own_thing t) (own_thing u) xs ys same a.1 b.1 h
none_step (thing m t) xs same (member k s ∷ ys) a b h = absurd (eqb-false 3 1 refl (sorts (thing m t) (member k s) xs ys h))
none_step (thing m t) xs same (story s ∷ ys) a b h = absurd (eqb-false 3 2 refl (sorts (thing m t) (story s) xs ys h))
none_step (member k s) xs same (text m t ∷ ys) a b h = absurd (eqb-false 1 3 refl (sorts (member k s) (text m t) xs ys h))
none_step (member k s) xs same (thing m t ∷ ys) a b h = absurd (eqb-false 1 3 refl (sorts (member k s) (thing m t) xs ys h))
none_step (member k s) xs same (member l z ∷ ys) a b h =
    let name = kind_split k l a.0 b.0 (stamp_text s ++ (10 ∷ rest None xs)) (stamp_text z ++ (10 ∷ rest None ys)) (ap tail_of (sym (member_begins k s xs) ∙ h ∙ member_begins l z ys)) in
    let stamp = stamp_before_line s z (rest None xs) (rest None ys) name.1 in
    joined (member k s) (member l z) xs ys (ap (λ n. member n (said_stamp s)) name.0 ∙ ap (member l) stamp.0) (same None None refl ys a.1 b.1 stamp.1)
none_step (member k s) xs same (story z ∷ ys) a b h = absurd (eqb-false 1 2 refl (sorts (member k s) (story z) xs ys h))
none_step (story s) xs same (text m t ∷ ys) a b h = absurd (eqb-false 2 3 refl (sorts (story s) (text m t) xs ys h))
none_step (story s) xs same (thing m t ∷ ys) a b h = absurd (eqb-false 2 3 refl (sorts (story s) (thing m t) xs ys h))
none_step (story s) xs same (member k z ∷ ys) a b h = absurd (eqb-false 2 1 refl (sorts (story s) (member k z) xs ys h))
none_step (story s) xs same (story z ∷ ys) a b h =
    let name = story_split s z (rest None xs) (rest None ys) (ap (λ l. tail_of (tail_of l)) (sym (story_begins s xs) ∙ h ∙ story_begins z ys)) in
    joined (story s) (story z) xs ys (ap story name.0) (same None None refl ys a.1 b.1 name.1)

none_empty : (ys : List BareUnit) → [] ≡ rest None ys → [] ≡ map said_unit ys
none_empty [] h = refl
none_empty (y ∷ ys) h = absurd (not_empty y ys (sym h))

-- a character that goes on has no newline first
goes_no_line : (l : Marks) (ys : List BareUnit) (X : List ℕ) → goes l ys ≡ true → rest (Some l) ys ≡ 10 ∷ X → ⊥
goes_no_line l [] X g h = absurd cc
goes_no_line l (text m (byte c) ∷ ys) X g h = byte_no_line c (rest (Some l) ys) X (sym (goes_character l m c ys g) ∙ h)
goes_no_line l (text m (object o) ∷ ys) X g h = absurd cc
goes_no_line l (thing m t ∷ ys) X g h = absurd cc
goes_no_line l (member k s ∷ ys) X g h = absurd cc
goes_no_line l (story s ∷ ys) X g h = absurd cc

-- both go on
goes_both : (l k : Marks) → said_marks l ≡ said_marks k → (x : BareUnit) (xs : List BareUnit) → Same xs → (ys : List BareUnit) → AreNamed (x ∷ xs) → AreNamed ys
    → goes l (x ∷ xs) ≡ true → goes k ys ≡ true → rest (Some l) (x ∷ xs) ≡ rest (Some k) ys → map said_unit (x ∷ xs) ≡ map said_unit ys
goes_both l k e (text m (byte c)) xs same (text n (byte d) ∷ ys) a b g f h =
    let body = byte_split c d (rest (Some l) xs) (rest (Some k) ys) (sym (goes_character l m c xs g) ∙ h ∙ goes_character k n d ys f) in
    let marks : said_marks m ≡ said_marks n = ap said_marks (sym (marks_are l m g)) ∙ e ∙ ap said_marks (marks_are k n f) in
    joined (text m (byte c)) (text n (byte d)) xs ys (ap (λ z. text z (byte c)) marks ∙ ap (λ z. text (said_marks n) (byte z)) body.0)
    (same (Some l) (Some k) (ap (λ z. Some z) e) ys a.1 b.1 body.1)
goes_both l k e x xs same [] a b g f h = absurd cc
goes_both l k e x xs same (text n (object p) ∷ ys) a b g f h = absurd cc
goes_both l k e x xs same (thing n u ∷ ys) a b g f h = absurd cc
goes_both l k e x xs same (member n u ∷ ys) a b g f h = absurd cc
goes_both l k e x xs same (story s ∷ ys) a b g f h = absurd cc
goes_both l k e (text m (object o)) xs same (text n (byte d) ∷ ys) a b g f h = absurd cc
goes_both l k e (thing m t) xs same (text n (byte d) ∷ ys) a b g f h = absurd cc
goes_both l k e (member m t) xs same (text n (byte d) ∷ ys) a b g f h = absurd cc
goes_both l k e (story s) xs same (text n (byte d) ∷ ys) a b g f h = absurd cc

some_step : (l k : Marks) → said_marks l ≡ said_marks k → (x : BareUnit) (xs : List BareUnit) → Same xs → (ys : List BareUnit) → AreNamed (x ∷ xs) → AreNamed ys
    → rest (Some l) (x ∷ xs) ≡ rest (Some k) ys → map said_unit (x ∷ xs) ≡ map said_unit ys
some_step l k e x xs same ys a b h = at (goes l (x ∷ xs)) (goes k ys) refl refl
  where
    at : (g f : Bool) → goes l (x ∷ xs) ≡ g → goes k ys ≡ f → map said_unit (x ∷ xs) ≡ map said_unit ys
    at false false g f = none_step x xs same ys a b (ap tail_of (sym (breaks l (x ∷ xs) g) ∙ h ∙ breaks k ys f))
    at true false g f = absurd (goes_no_line l (x ∷ xs) (rest None ys) g (h ∙ breaks k ys f))
    at false true g f = absurd (goes_no_line k ys (rest None (x ∷ xs)) f (sym h ∙ breaks l (x ∷ xs) g))
    at true true g f = goes_both l k e x xs same ys a b g f h

some_empty : (k : Marks) (ys : List BareUnit) → 10 ∷ [] ≡ rest (Some k) ys → [] ≡ map said_unit ys
some_empty k ys h = at (goes k ys) refl
  where
    at : (f : Bool) → goes k ys ≡ f → [] ≡ map said_unit ys
    at false f = none_empty ys (ap tail_of (h ∙ breaks k ys f))
    at true f = absurd (goes_no_line k ys [] f (sym h))

same_units : (xs : List BareUnit) → Same xs
same_units [] None None e ys a b h = none_empty ys h
same_units [] (Some l) (Some k) e ys a b h = some_empty k ys h
same_units [] None (Some k) e ys a b h = absurd cc
same_units [] (Some l) None e ys a b h = absurd cc
same_units (x ∷ xs) None None e ys a b h = none_step x xs (same_units xs) ys a b h
same_units (x ∷ xs) (Some l) (Some k) e ys a b h = some_step l k (some_said e) x xs (same_units xs) ys a b h
  where
    some_said : Some (said_marks l) ≡ Some (said_marks k) → said_marks l ≡ said_marks k
    some_said f = cc
same_units (x ∷ xs) None (Some k) e ys a b h = absurd cc
same_units (x ∷ xs) (Some l) None e ys a b h = absurd cc

pub same_by_text : (xs ys : List BareUnit) → AreNamed xs → AreNamed ys → units_text xs ≡ units_text ys → map said_unit xs ≡ map said_unit ys
same_by_text xs ys a b h = same_units xs None None refl ys a b h
