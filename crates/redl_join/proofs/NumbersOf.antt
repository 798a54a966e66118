-- Numbers of reviewers.
use Rattle.std.proofs.Common.{◌≡◌, ℕ, suc, ◌+◌, ◌<◌, Bool, true, false, cond, eqb, List, [], ◌∷◌, length, Ordering, Less, Equal, Greater, Option, Some, None, refl, sym, subst, ◌∙◌, arith, inl, inr, ◌⊎◌}
use Rattle.std.specs.Prelude.{◌&&◌, ◌||◌, IfSome, IfNone}
use Rattle.std.specs.Global.{Vec}
use Rattle.std.specs.Map.{lookup}
use Rattle.std.specs.BTreeMap.{insert_entry}
use Rattle.std.specs.Cmp.Lexicographic.{slice_cmp}
use Rattle.std.specs.Ordering.{is_eq, nat_cmp, match_ordering}
use Rattle.std.specs.Str.{bytes_eq}
use Rattle.std.proofs.lemmas.Bool.{eqb-true, and_parts, or_cases, or_parts, eq-eqb}
use Rattle.std.proofs.lemmas.Cmp.{nat_list_cmp_total, tied_itself}
use Rattle.std.proofs.lemmas.Map.Lookups.{exact_bytes}
use Rattle.std.proofs.lemmas.Slice.Eq.{bytes_eq-Decides}
use Rattle.std.proofs.Math.Bool.{or-true}
use Rattle.std.specs.Cmp.{Equal-is}
use Rattle.redl_join.proofs.Lists.{or_swap}
use Rattle.redl_join.specs.Inside.Numbers.{Numbered, AreNumbers, has_number, is_numbered, is_taken}

-- the order of names
abbrev name_order : Vec ℕ → Vec ℕ → Ordering
name_order name other = slice_cmp nat_cmp name.items other.items

-- a test for a name
abbrev is_name : List ℕ → Vec ℕ → Bool
is_name name other = is_eq (slice_cmp nat_cmp name other.items)

-- texts whose bytes compare as equal are the same
pub same_bytes : (a b : List ℕ) → bytes_eq a b ≡ true → a ≡ b
same_bytes a b h = (bytes_eq-Decides a b).0 h

-- equal texts compare as equal
pub bytes_same : (a b : List ℕ) → a ≡ b → bytes_eq a b ≡ true
bytes_same a b h = (bytes_eq-Decides a b).1 h

-- ---- names and numbers

pub number_of : (es : List Numbered) (name : List ℕ) → is_numbered es name ≡ true → (n : ℕ) × (has_number es name n ≡ true)
number_of [] name h = absurd cc
number_of (e ∷ es) name h = by (bytes_eq e.0.items name) refl h (number_of es name) where
  by : (b : Bool) → bytes_eq e.0.items name ≡ b → (b || is_numbered es name) ≡ true → (is_numbered es name ≡ true → (n : ℕ) × (has_number es name n ≡ true))
      → (n : ℕ) × (has_number (e ∷ es) name n ≡ true)
  by true is h rec = (e.1, rw (is, eq-eqb e.1 e.1 refl) refl)
  by false is h rec = let rest = rec h in (rest.0, rw is rest.1)

pub name_of : (es : List Numbered) (n : ℕ) → is_taken es n ≡ true → (name : List ℕ) × (has_number es name n ≡ true)
name_of [] n h = absurd cc
name_of (e ∷ es) n h = by (eqb e.1 n) refl h (name_of es n) where
  by : (b : Bool) → eqb e.1 n ≡ b → (b || is_taken es n) ≡ true → (is_taken es n ≡ true → (name : List ℕ) × (has_number es name n ≡ true))
      → (name : List ℕ) × (has_number (e ∷ es) name n ≡ true)
  by true is h rec = (e.0.items, rw (is, bytes_same e.0.items e.0.items refl) refl)
  by false is h rec = let rest = rec h in (rest.0, rw rest.1 (or-true (bytes_eq e.0.items rest.0 && eqb e.1 n)))

pub is_numbered-by : (es : List Numbered) (name : List ℕ) (n : ℕ) → has_number es name n ≡ true → is_numbered es name ≡ true
is_numbered-by [] name n h = absurd cc
is_numbered-by (e ∷ es) name n h = by (is_numbered-by es name n) (or_cases (bytes_eq e.0.items name && eqb e.1 n) (has_number es name n) h) where
  by : (has_number es name n ≡ true → is_numbered es name ≡ true) → ((bytes_eq e.0.items name && eqb e.1 n) ≡ true) ⊎ (has_number es name n ≡ true)
      → (bytes_eq e.0.items name || is_numbered es name) ≡ true
  by rec (inl own) = let is = and_parts (bytes_eq e.0.items name) (eqb e.1 n) own in rw is.0 refl
  by rec (inr rest) = rw (rec rest) (or-true (bytes_eq e.0.items name))

pub is_taken-by : (es : List Numbered) (name : List ℕ) (n : ℕ) → has_number es name n ≡ true → is_taken es n ≡ true
is_taken-by [] name n h = absurd cc
is_taken-by (e ∷ es) name n h = by (is_taken-by es name n) (or_cases (bytes_eq e.0.items name && eqb e.1 n) (has_number es name n) h) where
  by : (has_number es name n ≡ true → is_taken es n ≡ true) → ((bytes_eq e.0.items name && eqb e.1 n) ≡ true) ⊎ (has_number es name n ≡ true) → (eqb e.1 n || is_taken es n) ≡ true
  by rec (inl own) = let is = and_parts (bytes_eq e.0.items name) (eqb e.1 n) own in rw is.1 refl
  by rec (inr rest) = rw (rec rest) (or-true (eqb e.1 n))

-- ---- a look-up

found : (es : List Numbered) (name : List ℕ) (n : ℕ) → lookup (is_name name) es ≡ Some n → has_number es name n ≡ true
found [] name n h = absurd cc
found (e ∷ es) name n h = by (is_name name e.0) refl h (found es name n) where
  by : (b : Bool) → is_name name e.0 ≡ b → cond b (Some e.1) (lookup (is_name name) es) ≡ Some n → (lookup (is_name name) es ≡ Some n → has_number es name n ≡ true)
      → has_number (e ∷ es) name n ≡ true
  by true is h rec =
      let same : name ≡ e.0.items = exact_bytes name e.0.items ((Equal-is (slice_cmp nat_cmp name e.0.items)).0 is) in
      let number : e.1 ≡ n = cc in
      rw (bytes_same e.0.items name (sym same), number, eq-eqb n n refl) refl
  by false is h rec = rw (rec h) (or-true (bytes_eq e.0.items name && eqb e.1 n))

missing : (es : List Numbered) (name : List ℕ) → lookup (is_name name) es ≡ None → is_numbered es name ≡ false
missing [] name h = refl
missing (e ∷ es) name h = by (is_name name e.0) refl h (missing es name) where
  itself : (a : List ℕ) → is_eq (slice_cmp nat_cmp a a) ≡ true
  itself a = rw (tied_itself nat_list_cmp_total a) refl

  by : (b : Bool) → is_name name e.0 ≡ b → cond b (Some e.1) (lookup (is_name name) es) ≡ None → (lookup (is_name name) es ≡ None → is_numbered es name ≡ false)
      → (bytes_eq e.0.items name || is_numbered es name) ≡ false
  by true is h rec = absurd cc
  by false is h rec = other (bytes_eq e.0.items name) refl where
    other : (b : Bool) → bytes_eq e.0.items name ≡ b → (b || is_numbered es name) ≡ false
    other false own = rec h
    other true own =
        let same = subst (λ (a : List ℕ). is_eq (slice_cmp nat_cmp name a) ≡ true) (sym (same_bytes e.0.items name own)) (itself name) in
        absurd cc

pub find_some : (es : List Numbered) (name : List ℕ) (r : Option ℕ) → r ≡ lookup (is_name name) es → IfSome r (λ n. has_number es name n ≡ true)
find_some es name None h = tt
find_some es name (Some n) h = found es name n (sym h)

pub find_none : (es : List Numbered) (name : List ℕ) (r : Option ℕ) → r ≡ lookup (is_name name) es → IfNone r (is_numbered es name ≡ false)
find_none es name None h = missing es name (sym h)
find_none es name (Some n) h = tt

-- ---- a new number

pub given : (es : List Numbered) (key : Vec ℕ) (v : ℕ) (name : List ℕ) (n : ℕ) → is_numbered es key.items ≡ false
    → has_number (insert_entry name_order es key v) name n ≡ ((bytes_eq key.items name && eqb v n) || has_number es name n)
given [] key v name n lacks = refl
given (e ∷ es) key v name n lacks = by (name_order key e.0) refl (given es key v name n) where
  rest : (bytes_eq e.0.items key.items ≡ false) × (is_numbered es key.items ≡ false)
  rest = or_parts (bytes_eq e.0.items key.items) (is_numbered es key.items) lacks

  by : (r : Ordering) → name_order key e.0 ≡ r
      → (is_numbered es key.items ≡ false → has_number (insert_entry name_order es key v) name n ≡ ((bytes_eq key.items name && eqb v n) || has_number es name n))
      → has_number (match_ordering r ((key, v) ∷ e ∷ es) ((e.0, v) ∷ es) (e ∷ insert_entry name_order es key v)) name n
      ≡ ((bytes_eq key.items name && eqb v n) || ((bytes_eq e.0.items name && eqb e.1 n) || has_number es name n))
  by Less is rec = refl
  by Equal is rec =
      let same : bytes_eq e.0.items key.items ≡ true = bytes_same e.0.items key.items (sym (exact_bytes key.items e.0.items is)) in
      let none = rest.0 in
      absurd cc
  by Greater is rec = rw (rec rest.1) (or_swap (bytes_eq e.0.items name && eqb e.1 n) (bytes_eq key.items name && eqb v n) (has_number es name n))

longer : (es : List Numbered) (key : Vec ℕ) (v : ℕ) → is_numbered es key.items ≡ false → length (insert_entry name_order es key v) ≡ length es + 1
longer [] key v lacks = refl
longer (e ∷ es) key v lacks = by (name_order key e.0) refl (bytes_eq e.0.items key.items) refl lacks (longer es key v) where
  by : (r : Ordering) → name_order key e.0 ≡ r → (b : Bool) → bytes_eq e.0.items key.items ≡ b → (b || is_numbered es key.items) ≡ false
      → (is_numbered es key.items ≡ false → length (insert_entry name_order es key v) ≡ length es + 1)
      → length (match_ordering r ((key, v) ∷ e ∷ es) ((e.0, v) ∷ es) (e ∷ insert_entry name_order es key v)) ≡ suc (length es) + 1
  by r is true own lacks rec = absurd cc
  by Less is false own lacks rec = omega arith
  by Equal is false own lacks rec =
      let same : bytes_eq e.0.items key.items ≡ true = bytes_same e.0.items key.items (sym (exact_bytes key.items e.0.items is)) in
      absurd cc
  by Greater is false own lacks rec = let more = rec lacks in omega arith

pub are_more : (es : List Numbered) (key : Vec ℕ) (v : ℕ) → AreNumbers es → is_numbered es key.items ≡ false → v ≡ length es → AreNumbers (insert_entry name_order es key v)
are_more es key v are lacks counts = record {
  one_number = λ name m n h g.
      one name m n (or_cases (bytes_eq key.items name && eqb v m) (has_number es name m) (sym (given es key v name m lacks) ∙ h))
      (or_cases (bytes_eq key.items name && eqb v n) (has_number es name n) (sym (given es key v name n lacks) ∙ g));
  one_name = λ name other n h g.
      only name other n (or_cases (bytes_eq key.items name && eqb v n) (has_number es name n) (sym (given es key v name n lacks) ∙ h))
      (or_cases (bytes_eq key.items other && eqb v n) (has_number es other n) (sym (given es key v other n lacks) ∙ g));
  below = λ n h.
      let owner = name_of (insert_entry name_order es key v) n h in
      low n owner.0 (or_cases (bytes_eq key.items owner.0 && eqb v n) (has_number es owner.0 n) (sym (given es key v owner.0 n lacks) ∙ owner.1));
} where
  unknown : (name : List ℕ) (n : ℕ) → bytes_eq key.items name ≡ true → has_number es name n ≡ true → ⊥
  unknown name n own h =
      let there : is_numbered es key.items ≡ true = subst (λ (a : List ℕ). is_numbered es a ≡ true) (sym (same_bytes key.items name own)) (is_numbered-by es name n h) in
      absurd cc

  fresh : (name : List ℕ) (n : ℕ) → eqb v n ≡ true → has_number es name n ≡ true → ⊥
  fresh name n own h =
      let same : v ≡ n = eqb-true v n own in
      let low : n < length es = are.below n (is_taken-by es name n h) in
      absurd (omega arith)

  one : (name : List ℕ) (m n : ℕ) → ((bytes_eq key.items name && eqb v m) ≡ true) ⊎ (has_number es name m ≡ true)
      → ((bytes_eq key.items name && eqb v n) ≡ true) ⊎ (has_number es name n ≡ true) → m ≡ n
  one name m n (inl h) (inl g) =
      sym (eqb-true v m (and_parts (bytes_eq key.items name) (eqb v m) h).1) ∙ eqb-true v n (and_parts (bytes_eq key.items name) (eqb v n) g).1
  one name m n (inl h) (inr g) = absurd (unknown name n (and_parts (bytes_eq key.items name) (eqb v m) h).0 g)
  one name m n (inr h) (inl g) = absurd (unknown name m (and_parts (bytes_eq key.items name) (eqb v n) g).0 h)
  one name m n (inr h) (inr g) = are.one_number name m n h g

  only : (name other : List ℕ) (n : ℕ) → ((bytes_eq key.items name && eqb v n) ≡ true) ⊎ (has_number es name n ≡ true)
      → ((bytes_eq key.items other && eqb v n) ≡ true) ⊎ (has_number es other n ≡ true) → name ≡ other
  only name other n (inl h) (inl g) =
      sym (same_bytes key.items name (and_parts (bytes_eq key.items name) (eqb v n) h).0) ∙ same_bytes key.items other (and_parts (bytes_eq key.items other) (eqb v n) g).0
  only name other n (inl h) (inr g) = absurd (fresh other n (and_parts (bytes_eq key.items name) (eqb v n) h).1 g)
  only name other n (inr h) (inl g) = absurd (fresh name n (and_parts (bytes_eq key.items other) (eqb v n) g).1 h)
  only name other n (inr h) (inr g) = are.one_name name other n h g

  low : (n : ℕ) (name : List ℕ) → ((bytes_eq key.items name && eqb v n) ≡ true) ⊎ (has_number es name n ≡ true) → n < length (insert_entry name_order es key v)
  low n name (inl h) =
      let same : v ≡ n = eqb-true v n (and_parts (bytes_eq key.items name) (eqb v n) h).1 in
      let more = longer es key v lacks in
      omega arith
  low n name (inr h) =
      let under : n < length es = are.below n (is_taken-by es name n h) in
      let more = longer es key v lacks in
      omega arith

pub no_numbers : AreNumbers []
no_numbers = record { one_number = λ name m n h g. absurd cc; one_name = λ name other n h g. absurd cc; below = λ n h. absurd cc }
