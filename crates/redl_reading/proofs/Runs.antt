-- The longest leading run that passes a test, and what follows it.
use Rattle.std.proofs.Common.{◌≡◌, ℕ, zero, suc, ◌<◌, ◌≤◌, Bool, true, false, cond, List, [], ◌∷◌, ◌++◌, length, get_or, take, drop, refl, sym, ap, ◌∙◌, eqb, inl, inr, arith}
use Rattle.std.specs.Prelude.{not, ◌==◌, Option, Some, None, is_some}
use Rattle.std.specs.Option.{unwrap_or}
use Rattle.std.specs.List.{list_all}
use Rattle.std.proofs.lemmas.Bool.{not-true, and_parts, and_from, cases_Bool}
use Rattle.std.proofs.lemmas.List.Folds.{list_all_at, list_all-append}
use Rattle.bstr.specs.Find.{IsFirstByte, is_byte}
use Rattle.redl_reading.specs.Lists.{AnswersAs, front, after, is_other}

-- the rest is empty or begins with an element that fails
abbrev pub stops : (ℕ → Bool) → List ℕ → Bool
stops p [] = true
stops p (b ∷ bs) = not (p b)

front-after-step : (t : Bool) (b : ℕ) (f a bs : List ℕ) → f ++ a ≡ bs → cond t (b ∷ f) [] ++ cond t a (b ∷ bs) ≡ b ∷ bs
front-after-step true b f a bs e = ap (λ (x : List ℕ). b ∷ x) e
front-after-step false b f a bs e = refl

-- the leading run and what follows are the whole
pub front-after : (p : ℕ → Bool) (bs : List ℕ) → front p bs ++ after p bs ≡ bs
front-after p [] = refl
front-after p (b ∷ bs) = front-after-step (p b) b (front p bs) (after p bs) bs (front-after p bs)

front_passes_step : (p : ℕ → Bool) (t : Bool) (b : ℕ) (f : List ℕ) → p b ≡ t → list_all p f ≡ true → list_all p (cond t (b ∷ f) []) ≡ true
front_passes_step p true b f e h = rw e h
front_passes_step p false b f e h = refl

-- each byte of the leading run passes
pub front_passes : (p : ℕ → Bool) (bs : List ℕ) → list_all p (front p bs) ≡ true
front_passes p [] = refl
front_passes p (b ∷ bs) = front_passes_step p (p b) b (front p bs) refl (front_passes p bs)

after_stops_step : (p : ℕ → Bool) (t : Bool) (b : ℕ) (a bs : List ℕ) → p b ≡ t → stops p a ≡ true → stops p (cond t a (b ∷ bs)) ≡ true
after_stops_step p true b a bs e h = h
after_stops_step p false b a bs e h = rw e refl

-- what follows the leading run begins with no byte that passes
pub after_stops : (p : ℕ → Bool) (bs : List ℕ) → stops p (after p bs) ≡ true
after_stops p [] = refl
after_stops p (b ∷ bs) = after_stops_step p (p b) b (after p bs) bs refl (after_stops p bs)

-- a list that passes, followed by a rest that does not continue it, is the longest leading run
pub front_again : (p : ℕ → Bool) (a rest : List ℕ) → list_all p a ≡ true → stops p rest ≡ true → front p (a ++ rest) ≡ a
front_again p [] [] all stop = refl
front_again p [] (b ∷ bs) all stop = rw (not-true (p b) stop) refl
front_again p (b ∷ bs) rest all stop =
    let both = and_parts (p b) (list_all p bs) all in
    rw both.0 (ap (λ (x : List ℕ). b ∷ x) (front_again p bs rest both.1 stop))

-- bytes that pass before a stop are the leading run
pub after_again : (p : ℕ → Bool) (a rest : List ℕ) → list_all p a ≡ true → stops p rest ≡ true → after p (a ++ rest) ≡ rest
after_again p [] [] all stop = refl
after_again p [] (b ∷ bs) all stop = rw (not-true (p b) stop) refl
after_again p (b ∷ bs) rest all stop =
    let both = and_parts (p b) (list_all p bs) all in
    rw both.0 (after_again p bs rest both.1 stop)

-- two lists that pass, one before the other
pub passes-append : (p : ℕ → Bool) (xs ys : List ℕ) → list_all p xs ≡ true → list_all p ys ≡ true → list_all p (xs ++ ys) ≡ true
passes-append p [] ys h g = g
passes-append p (x ∷ xs) ys h g =
    let both = and_parts (p x) (list_all p xs) h in
    and_from (p x) (list_all p (xs ++ ys)) both.0 (passes-append p xs ys both.1 g)

-- the two parts of a list that passes
pub list_all-parts : (p : ℕ → Bool) (xs ys : List ℕ) → list_all p (xs ++ ys) ≡ true → (list_all p xs ≡ true) × (list_all p ys ≡ true)
list_all-parts p xs ys h = and_parts (list_all p xs) (list_all p ys) (sym (list_all-append p xs ys) ∙ h)

-- the longest leading run, by index
pub front_at : (p : ℕ → Bool) (bs : List ℕ) (n : ℕ) → n ≤ length bs → ((k : ℕ) → k < n → p (get_or bs k 0) ≡ true) → (n < length bs → p (get_or bs n 0) ≡ false) → take n bs ≡ front p bs
front_at p [] zero le all stop = refl
front_at p [] (suc n) le all stop = absurd (omega arith)
front_at p (b ∷ bs) zero le all stop = rw (stop (omega arith)) refl
front_at p (b ∷ bs) (suc n) le all stop =
    rw (all 0 (omega arith)) (ap (λ (x : List ℕ). b ∷ x) (front_at p bs n (omega arith) (λ k h. all (suc k) (omega arith)) (λ h. stop (omega arith))))

pub after_at : (p : ℕ → Bool) (bs : List ℕ) (n : ℕ) → n ≤ length bs → ((k : ℕ) → k < n → p (get_or bs k 0) ≡ true) → (n < length bs → p (get_or bs n 0) ≡ false) → drop n bs ≡ after p bs
after_at p [] zero le all stop = refl
after_at p [] (suc n) le all stop = absurd (omega arith)
after_at p (b ∷ bs) zero le all stop = rw (stop (omega arith)) refl
after_at p (b ∷ bs) (suc n) le all stop =
    rw (all 0 (omega arith)) (after_at p bs n (omega arith) (λ k h. all (suc k) (omega arith)) (λ h. stop (omega arith)))

-- the same where calls of a test have told of each byte
pub front_told : (p : ℕ → Bool) (Told : ℕ → Bool → Type 0) (bs : List ℕ) (n : ℕ) → AnswersAs p Told
    → n ≤ length bs → ((k : ℕ) → k < n → (get_or bs k 0 < 256) × Told (get_or bs k 0) true) → (n < length bs → (get_or bs n 0 < 256) × Told (get_or bs n 0) false)
    → take n bs ≡ front p bs
front_told p Told bs n decides le all stop =
    front_at p bs n le (λ k lt. decides (get_or bs k 0) true (all k lt).0 (all k lt).1) (λ lt. decides (get_or bs n 0) false (stop lt).0 (stop lt).1)

pub after_told : (p : ℕ → Bool) (Told : ℕ → Bool → Type 0) (bs : List ℕ) (n : ℕ) → AnswersAs p Told
    → n ≤ length bs → ((k : ℕ) → k < n → (get_or bs k 0 < 256) × Told (get_or bs k 0) true) → (n < length bs → (get_or bs n 0 < 256) × Told (get_or bs n 0) false)
    → drop n bs ≡ after p bs
after_told p Told bs n decides le all stop =
    after_at p bs n le (λ k lt. decides (get_or bs k 0) true (all k lt).0 (all k lt).1) (λ lt. decides (get_or bs n 0) false (stop lt).0 (stop lt).1)

-- ---- the bytes before the first byte of one kind

-- where a search ends, and what comes before it and there
record IsFound (byte : ℕ) (bs : List ℕ) (n : ℕ) : Type 0 where
  within : n ≤ length bs
  before : (k : ℕ) → k < n → is_other byte (get_or bs k 0) ≡ true
  there : n < length bs → is_other byte (get_or bs n 0) ≡ false

not-false : (t : Bool) → ¬ (t ≡ true) → not t ≡ true
not-false true h = absurd (h refl)
not-false false h = refl

found : (byte : ℕ) (bs : List ℕ) (r : Option ℕ) → IsFirstByte (is_byte byte) bs r → IsFound byte bs (unwrap_or r (length bs))
found byte bs None h = record {
  within = omega arith;
  before = λ k lt. not-false (get_or bs k 0 == byte) (h k (omega arith) lt);
  there = λ lt. absurd (omega (arith, lt));
}
found byte bs (Some n) h = record {
  within = omega (arith, h.0.high);
  before = λ k lt. not-false (get_or bs k 0 == byte) (h.0.before k (omega arith) lt);
  there = λ lt. ap not h.1;
}

pub front_found : (byte : ℕ) (bs : List ℕ) (r : Option ℕ) → IsFirstByte (is_byte byte) bs r → take (unwrap_or r (length bs)) bs ≡ front (is_other byte) bs
front_found byte bs r h = let f = found byte bs r h in front_at (is_other byte) bs _ f.within f.before f.there

pub after_found : (byte : ℕ) (bs : List ℕ) (r : Option ℕ) → IsFirstByte (is_byte byte) bs r → drop (unwrap_or r (length bs)) bs ≡ after (is_other byte) bs
after_found byte bs r h = let f = found byte bs r h in after_at (is_other byte) bs _ f.within f.before f.there

-- a list whose elements pass, each by its index
each_passes : (p : ℕ → Bool) (bs : List ℕ) → ((k : ℕ) → k < length bs → p (get_or bs k 0) ≡ true) → list_all p bs ≡ true
each_passes p [] all = refl
each_passes p (b ∷ bs) all = and_from (p b) (list_all p bs) (all 0 (omega arith)) (each_passes p bs (λ k lt. all (suc k) (omega arith)))

-- a search finds the byte where it is
pub finds : (byte : ℕ) (bs : List ℕ) (r : Option ℕ) → IsFirstByte (is_byte byte) bs r → is_some r ≡ not (list_all (is_other byte) bs)
finds byte bs None h = let f = found byte bs None h in rw (each_passes (is_other byte) bs f.before) refl
finds byte bs (Some n) h =
    let f = found byte bs (Some n) h in
    let within : n < length bs = omega (arith, h.0.high) in
    rw (list_all_at (is_other byte) bs n 0 within (f.there within)) refl

-- ---- from the first byte of one kind on

-- what follows the leading run is no longer than the whole
pub after_fits : (byte : ℕ) (bs : List ℕ) → length (after (is_other byte) bs) ≤ length bs
after_fits byte [] = omega arith
after_fits byte (b ∷ bs) =
    elim (cases_Bool (eqb b byte)) [
      | inl same ↦ rw same (omega arith)
      | inr other ↦ rw other (omega (arith, after_fits byte bs))
    ]

-- at the byte that ends it, the leading run is empty
pub after_here : (byte b : ℕ) (bs : List ℕ) → eqb b byte ≡ true → after (is_other byte) (b ∷ bs) ≡ b ∷ bs
after_here byte b bs same = rw same refl
