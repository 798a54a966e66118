-- Files that are fetched up to one byte more than a limit.
use Rattle.std.proofs.Common.{◌≡◌, ◌⊎◌, ◌∷◌, [], inl, inr, take, length-take, ◌<◌, ◌≤◌, ◌+◌, ℕ, List, length, nat_lt, Option, None, Some, IsSomeAnd, IsErrOf, Contains, Result, Ok, Err, refl, sym, ap, ◌∙◌, subst, arith}
use Rattle.std.proofs.lemmas.Bool.{lt-ltb, le-ltb, cond-true, cond-false}
use Rattle.std.proofs.lemmas.List.{take_all}
use Rattle.std.proofs.lemmas.List.Elements.{Contains-push}
use Rattle.redl_inputs.proofs.AskLaws.{asks_in_vain, asks_one}
use Rattle.redl_inputs.specs.Reading.{IsMade, IsUnread, MayHold, ReadsFiles, UnlessUnread, front_of}
use Rattle.redl_inputs.specs.Steps.{fetch_failure, held, within, ◌>>=◌}
use Rattle.redl_io.specs.Faults.{Rose}
use Rattle.redl_io.specs.Shelf.{CountsFetch, Files, IsFront, Lacks, NotesFetch, ask_more, request_for}
use Rattle.redl_io.specs.declared.shelf.Request.{Request}
use Rattle.redl_io.specs.declared.shelf.ShelfError.{ShelfError}
use Rattle.redl_io.specs.declared.shelf.ShelfError.TheVariants as error
use Rattle.redl_lines.specs.Failures.{Failure, caused, unread, no_memory, over}
use Rattle.redl_lines.specs.declared.failure.Limit.{Limit}

too_long : (most : ℕ) (limit : Limit) (whole : List ℕ) → most < length whole → within most limit whole ≡ Err (caused (over limit))
too_long most limit whole longer = cond-true (nat_lt most (length whole)) _ _ (lt-ltb most (length whole) longer)

short_enough : (most : ℕ) (limit : Limit) (whole : List ℕ) → length whole ≤ most → within most limit whole ≡ Ok whole
short_enough most limit whole short = cond-false (nat_lt most (length whole)) _ _ (le-ltb most (length whole) short)

-- where more than the limit came, the file is over it
pub front_too_long : (most : ℕ) (limit : Limit) (found : Result (List ℕ) Failure) (bytes : List ℕ) → front_of (most + 1) found ≡ Ok bytes → most < length bytes
    → (found >>= within most limit) ≡ Err (caused (over limit))
front_too_long most limit (Err other) bytes front longer = absurd (cc front)
front_too_long most limit (Ok whole) bytes front longer =
    let cut : bytes ≡ take (most + 1) whole = cc front in
    too_long most limit whole (omega (arith, longer, ap length cut, length-take (most + 1) whole))

-- where no more than the limit came, it is the whole file
pub front_whole : (most : ℕ) (limit : Limit) (found : Result (List ℕ) Failure) (bytes : List ℕ) → front_of (most + 1) found ≡ Ok bytes → length bytes ≤ most
    → (found >>= within most limit) ≡ Ok bytes
front_whole most limit (Err other) bytes front short = absurd (cc front)
front_whole most limit (Ok whole) bytes front short =
    let cut : bytes ≡ take (most + 1) whole = cc front in
    let few : length whole ≤ most = omega (arith, short, ap length cut, length-take (most + 1) whole) in
    let all : bytes ≡ whole = cut ∙ take_all (most + 1) whole (omega (arith, few)) in
    short_enough most limit whole few ∙ ap Ok (sym all)

uncut : (cap : ℕ) (found : Result (List ℕ) Failure) (failure : Failure) → front_of cap found ≡ Err failure → found ≡ Err failure
uncut cap (Ok whole) failure is = absurd (cc is)
uncut cap (Err other) failure is = is

-- where no byte came, the fetch failed
pub front_failed : (cap : ℕ) (found : Result (List ℕ) Failure) (failure : Failure) (failed : Type 0)
    → IsMade {Y = List ℕ} (Err failure) (front_of cap found) failed → IsMade {Y = List ℕ} (Err failure) found failed
front_failed cap found no_memory failed h = tt
front_failed cap found (unread name) failed (inl h) = inl h
front_failed cap found (unread name) failed (inr h) = inr (uncut cap found (unread name) h)
front_failed cap found (caused cause) failed h = uncut cap found (caused cause) h

-- ---- one fetch

held_front : (found : Option (List ℕ)) (name : List ℕ) (cap : ℕ) (bytes : List ℕ) → IsSomeAnd found (λ text. bytes ≡ take cap text) → front_of cap (held name found) ≡ Ok bytes
held_front None name cap bytes front = absurd front
held_front (Some text) name cap bytes front = ap Ok (sym front)

made_of_front : (told : Option Files) (request : Request) (files : Files) (name : List ℕ) (cap : ℕ) (bytes : List ℕ) → IsFront told name cap bytes → MayHold told (request ∷ []) files
    → front_of cap (held name (files name)) ≡ Ok bytes
made_of_front told request files name cap bytes front (inl is) = held_front (files name) name cap bytes (subst (λ t. IsFront t name cap bytes) is front)
made_of_front told request files name cap bytes front (inr none) = absurd (cc none)

-- the first bytes of a file came
pub fetched : {S : Type 0} {told : S → Option Files} {faults : S → ℕ} {asked : S → Option (List Request)} {old new : S} (name : List ℕ) (cap : ℕ) (bytes : List ℕ)
    → IsFront (told old) name cap bytes → told new ≡ told old → faults new ≡ faults old → asked new ≡ ask_more (asked old) (request_for name cap ∷ [])
    → ReadsFiles told faults asked old new (request_for name cap ∷ []) (Ok bytes) (λ reader files. front_of cap (held name (files name)))
fetched {told = told} {old = old} name cap bytes front same stood noted = record {
  as_due = λ files may reader is. made_of_front (told old) (request_for name cap) files name cap bytes front may;
  unread = tt;
  same_files = same;
  stands = stood;
  asks = asks_one (request_for name cap) bytes noted;
}

lacks_made : (told : Option Files) (request : Request) (files : Files) (name : List ℕ) (cap : ℕ) → Lacks told name → MayHold told (request ∷ []) files → front_of cap (held name (files name)) ≡ Err (unread name)
lacks_made told request files name cap lacks (inl is) = ap (λ found. front_of cap (held name found)) (subst (λ t. Lacks t name) is lacks)
lacks_made told request files name cap lacks (inr none) = absurd (cc none)

made_in_vain : (T : Type 0) (told : Option Files) (request : Request) (files : Files) (name : List ℕ) (cap before now : ℕ) (why : ShelfError)
    → (IsErrOf {T = T} (Err why) error.Missing → Lacks told name) → CountsFetch {T = T} before now (Err why) → MayHold told (request ∷ []) files
    → IsMade {Y = List ℕ} (Err (fetch_failure name why)) (front_of cap (held name (files name))) (Rose before now)
made_in_vain T told request files name cap before now error.NoMemory missing counts may = tt
made_in_vain T told request files name cap before now error.Failed missing counts may = inl counts
made_in_vain T told request files name cap before now error.Missing missing counts may = inr (lacks_made told request files name cap (missing refl) may)

unread_in_vain : (T : Type 0) (told : Option Files) (name : List ℕ) (before now : ℕ) (why : ShelfError)
    → (IsErrOf {T = T} (Err why) error.Missing → Lacks told name) → CountsFetch {T = T} before now (Err why)
    → IsUnread {Y = List ℕ} (Err (fetch_failure name why)) (name ∷ []) told (Rose before now)
unread_in_vain T told name before now error.NoMemory missing counts = tt
unread_in_vain T told name before now error.Failed missing counts = (Contains-push [] name, inl counts)
unread_in_vain T told name before now error.Missing missing counts = (Contains-push [] name, inr (missing refl))

stands_in_vain : (T : Type 0) (name : List ℕ) (before now : ℕ) (why : ShelfError) → CountsFetch {T = T} before now (Err why)
    → UnlessUnread {Y = List ℕ} (Err (fetch_failure name why)) (now ≡ before)
stands_in_vain T name before now error.NoMemory counts = counts
stands_in_vain T name before now error.Failed counts = tt
stands_in_vain T name before now error.Missing counts = tt

-- no byte of a file came
pub fetched_in_vain : (T : Type 0) {S : Type 0} {told : S → Option Files} {faults : S → ℕ} {asked : S → Option (List Request)} {old new : S} (name : List ℕ) (cap : ℕ) (why : ShelfError)
    → (IsErrOf {T = T} (Err why) error.Missing → Lacks (told old) name) → told new ≡ told old → CountsFetch {T = T} (faults old) (faults new) (Err why)
    → NotesFetch {T = T} (asked old) (asked new) (request_for name cap) (Err why)
    → ReadsFiles {Y = List ℕ} told faults asked old new (request_for name cap ∷ []) (Err (fetch_failure name why)) (λ reader files. front_of cap (held name (files name)))
fetched_in_vain T {told = told} {faults = faults} {old = old} {new = new} name cap why missing same counts noted = record {
  as_due = λ files may reader is. made_in_vain T (told old) (request_for name cap) files name cap (faults old) (faults new) why missing counts may;
  unread = unread_in_vain T (told old) name (faults old) (faults new) why missing counts;
  same_files = same;
  stands = stands_in_vain T name (faults old) (faults new) why counts;
  asks = asks_in_vain T (List ℕ) name cap why noted;
}
