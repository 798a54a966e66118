-- What steps ask a shelf for, one step after another.
use Rattle.std.proofs.Common.{◌≡◌, ◌⊎◌, ◌≤◌, ◌+◌, ◌++◌, ◌∷◌, ℕ, List, [], map, Option, None, Some, IfSome, Result, Ok, Err, inl, inr, refl, sym, ap, ◌∙◌, subst, arith}
use Rattle.std.proofs.lemmas.List.{append_assoc, append-nil}
use Rattle.redl_inputs.proofs.NameLaws.{none_before}
use Rattle.redl_inputs.specs.Asking.{AreWithin, AsksAll, AsksFor, EndsAsking, IsLast, file_within, files_within, refused_journal}
use Rattle.redl_inputs.specs.Reading.{IsOfNoFile}
use Rattle.redl_inputs.specs.Steps.{fetch_failure}
use Rattle.redl_io.specs.Shelf.{NotesFetch, ask_more, names_of, request_for}
use Rattle.redl_io.specs.declared.shelf.Request.{Request}
use Rattle.redl_io.specs.declared.shelf.ShelfError.{ShelfError}
use Rattle.redl_io.specs.declared.shelf.ShelfError.TheVariants as error
use Rattle.redl_lines.specs.Failures.{Cause, Failure, caused, unread, no_memory}

-- ---- requests

pub names_of-append : (wanted more : List Request) → names_of (wanted ++ more) ≡ names_of wanted ++ names_of more
names_of-append [] more = refl
names_of-append (request ∷ wanted) more = ap (λ names. request.name ∷ names) (names_of-append wanted more)

pub files_within-append : (most : ℕ) (names more : List (List ℕ)) → files_within most (names ++ more) ≡ files_within most names ++ files_within most more
files_within-append most [] more = refl
files_within-append most (name ∷ names) more = ap (λ rest. file_within most name ∷ rest) (files_within-append most names more)

-- where nothing is asked for, there is no name
pub no_files : (most : ℕ) (names : List (List ℕ)) → files_within most names ≡ [] → names ≡ []
no_files most [] none = refl
no_files most (name ∷ names) none = absurd (cc none)

pub names_of-files : (most : ℕ) (names : List (List ℕ)) → names_of (files_within most names) ≡ names
names_of-files most [] = refl
names_of-files most (name ∷ names) = ap (λ rest. name ∷ rest) (names_of-files most names)

-- ---- requests within others

-- each is for as many bytes as it may be for
pub as_wanted : (wanted : List Request) → AreWithin wanted wanted
as_wanted [] = tt
as_wanted (request ∷ wanted) = (record { name = refl; cap = omega arith }, as_wanted wanted)

-- a lower limit asks for less
pub within_more : {left most : ℕ} (names : List (List ℕ)) → left ≤ most → AreWithin (files_within left names) (files_within most names)
within_more [] less = tt
within_more (name ∷ names) less = (record { name = refl; cap = omega (arith, less) }, within_more names less)

-- the same behind a file that is asked for in either case
pub within_behind : {left most : ℕ} (request : Request) (names : List (List ℕ)) → left ≤ most → AreWithin (request ∷ files_within left names) (request ∷ files_within most names)
within_behind request names less = (record { name = refl; cap = omega arith }, within_more names less)

within_append : (requests wanted more rest : List Request) → AreWithin requests wanted → AreWithin more rest → AreWithin (requests ++ more) (wanted ++ rest)
within_append [] [] more rest first second = second
within_append [] (one ∷ wanted) more rest first second = absurd first
within_append (request ∷ requests) [] more rest first second = absurd first
within_append (request ∷ requests) (one ∷ wanted) more rest first second = (first.0, within_append requests wanted more rest first.1 second)

within_both : (requests wanted most : List Request) → AreWithin requests wanted → AreWithin wanted most → AreWithin requests most
within_both [] [] most first second = second
within_both [] (one ∷ wanted) most first second = absurd first
within_both (request ∷ requests) [] most first second = absurd first
within_both (request ∷ requests) (one ∷ wanted) [] first second = absurd second
within_both (request ∷ requests) (one ∷ wanted) (greatest ∷ most) first second =
    (record { name = first.0.name ∙ second.0.name; cap = omega (arith, first.0.cap, second.0.cap) }, within_both requests wanted most first.1 second.1)

-- they are for the same files
pub names_within : (requests wanted : List Request) → AreWithin requests wanted → names_of requests ≡ names_of wanted
names_within [] [] within = refl
names_within [] (one ∷ wanted) within = absurd within
names_within (request ∷ requests) [] within = absurd within
names_within (request ∷ requests) (one ∷ wanted) within =
    ap (λ name. name ∷ names_of requests) within.0.name ∙ ap (λ names. one.name ∷ names) (names_within requests wanted within.1)

none_within : (requests : List Request) → AreWithin requests [] → requests ≡ []
none_within [] within = refl
none_within (request ∷ requests) within = absurd within

pub none_more : (wanted : List Request) → AreWithin wanted [] → wanted ≡ []
none_more wanted within = none_within wanted within

-- ---- a shelf that notes

-- to ask for no more files changes nothing
ask_more-nothing : (asked : Option (List Request)) → asked ≡ ask_more asked []
ask_more-nothing None = refl
ask_more-nothing (Some before) = ap Some (sym (append-nil before))

ask_more-append : (asked : Option (List Request)) (requests more : List Request) → ask_more (ask_more asked requests) more ≡ ask_more asked (requests ++ more)
ask_more-append None requests more = refl
ask_more-append (Some before) requests more = ap Some (append_assoc before requests more)

-- a shelf was asked for nothing
pub asks_nothing : (asked : Option (List Request)) → AsksAll asked asked []
asks_nothing asked = record { requests = []; within = tt; noted = ask_more-nothing asked }

pub asked_nothing : {old new : Option (List Request)} → AsksAll old new [] → new ≡ old
asked_nothing {old = old} asks = asks.noted ∙ ap (ask_more old) (none_within asks.requests asks.within) ∙ sym (ask_more-nothing old)

-- a shelf was asked for some files, and then for more
pub asks_more : {old mid new : Option (List Request)} (wanted more : List Request) → AsksAll old mid wanted → AsksAll mid new more → AsksAll old new (wanted ++ more)
asks_more {old = old} wanted more first rest = record {
  requests = first.requests ++ rest.requests;
  within = within_append first.requests wanted rest.requests more first.within rest.within;
  noted = rest.noted ∙ ap (λ asked. ask_more asked rest.requests) first.noted ∙ ask_more-append old first.requests rest.requests;
}

-- a shelf that was asked for these files was asked for no more of them than this
pub asks_less : {old new : Option (List Request)} (wanted most : List Request) → AreWithin wanted most → AsksAll old new wanted → AsksAll old new most
asks_less wanted most less asks = record {
  requests = asks.requests;
  within = within_both asks.requests wanted most asks.within less;
  noted = asks.noted;
}

-- a shelf was asked for some files, and then for one more within a lower limit
pub asks_one_more : {old mid new : Option (List Request)} (most left : ℕ) (names : List (List ℕ)) (name : List ℕ) → left ≤ most
    → AsksAll old mid (files_within most names) → AsksAll mid new (file_within left name ∷ []) → AsksAll old new (files_within most (names ++ name ∷ []))
asks_one_more {old = old} {new = new} most left names name less first rest =
    subst (AsksAll old new) (sym (files_within-append most names (name ∷ [])))
    (asks_more (files_within most names) (file_within most name ∷ []) first (asks_less (file_within left name ∷ []) (file_within most name ∷ []) (within_more (name ∷ []) less) rest))

-- ---- the end of a step

last_behind : (names front : List (List ℕ)) (name : List ℕ) → IsLast front name → IsLast (names ++ front) name
last_behind names front name (before, is) = (names ++ before, ap (λ more. names ++ more) is ∙ sym (append_assoc names before (name ∷ [])))

refused_behind : (names front : List (List ℕ)) (journal : Option (List ℕ)) → IfSome journal (IsLast front) → IfSome journal (IsLast (names ++ front))
refused_behind names front None ends = tt
refused_behind names front (Some name) ends = last_behind names front name ends

ends_behind : {Y : Type 0} (made : Result Y Failure) (names front : List (List ℕ)) (later : List Request) → EndsAsking made front later → EndsAsking made (names ++ front) later
ends_behind (Ok y) names front later ends = ends
ends_behind (Err no_memory) names front later ends = tt
ends_behind (Err (unread name)) names front later ends = last_behind names front name ends
ends_behind (Err (caused cause)) names front later ends = refused_behind names front (refused_journal cause) ends

-- a failed step ends so whatever was to be made, and whatever more was to be asked for
ends_failed : (X Y : Type 0) (failure : Failure) (front : List (List ℕ)) (later more : List Request) → EndsAsking {Y = X} (Err failure) front later → EndsAsking {Y = Y} (Err failure) front more
ends_failed X Y no_memory front later more ends = tt
ends_failed X Y (unread name) front later more ends = ends
ends_failed X Y (caused cause) front later more ends = ends

-- a step that takes no file refuses at most the journal that was asked for last
refused_last : (names : List (List ℕ)) (journal refused : Option (List ℕ)) → IfSome journal (IsLast names) → IfSome refused (λ name. journal ≡ Some name) → IfSome refused (IsLast names)
refused_last names journal None last only = tt
refused_last names journal (Some name) last only = subst (λ one. IfSome one (IsLast names)) only last

ends_of_all : {Y : Type 0} (journal : Option (List ℕ)) (made : Result Y Failure) (front : List (List ℕ)) (later : List Request)
    → IfSome journal (IsLast front) → IsOfNoFile journal made → later ≡ [] → EndsAsking made front later
ends_of_all journal (Ok y) front later last of none = none
ends_of_all journal (Err no_memory) front later last of none = tt
ends_of_all journal (Err (unread name)) front later last of none = absurd of
ends_of_all journal (Err (caused cause)) front later last of none = refused_last front journal (refused_journal cause) last of

ends_at_once : (Y : Type 0) (failure : Failure) (front : List (List ℕ)) (later : List Request) → IsOfNoFile {Y = Y} None (Err failure) → EndsAsking {Y = Y} (Err failure) front later
ends_at_once Y no_memory front later of = tt
ends_at_once Y (unread name) front later of = absurd of
ends_at_once Y (caused cause) front later of = refused_last front None (refused_journal cause) tt of

ends_along : {Y : Type 0} (made : Result Y Failure) (front : List (List ℕ)) (later rest : List Request) → (later ≡ [] → rest ≡ []) → EndsAsking made front later → EndsAsking made front rest
ends_along (Ok y) front later rest none ends = none ends
ends_along (Err no_memory) front later rest none ends = tt
ends_along (Err (unread name)) front later rest none ends = ends
ends_along (Err (caused cause)) front later rest none ends = ends

-- ---- steps

-- where something was made, all files were asked for
pub asked_all : {Y : Type 0} {old new : Option (List Request)} {wanted : List Request} {y : Y} → AsksFor old new wanted (Ok y) → AsksAll old new wanted
asked_all {old = old} {new = new} step =
    subst (AsksAll old new) (sym (step.prefix ∙ ap (λ later. step.front ++ later) step.ends ∙ append-nil step.front)) step.asked

-- where there are no files, the shelf was asked for none
pub asked_none : {Y : Type 0} {old new : Option (List Request)} {made : Result Y Failure} → AsksFor old new [] made → new ≡ old
asked_none {old = old} {new = new} step = asked_nothing (subst (AsksAll old new) (none_before step.front step.later (sym step.prefix)) step.asked)

-- all files were asked for, and then no file could not be read, and no journal was refused but the last one
pub asks_for_all : {Y : Type 0} {old new : Option (List Request)} (journal : Option (List ℕ)) (made : Result Y Failure) (wanted : List Request)
    → IfSome journal (IsLast (names_of wanted)) → IsOfNoFile journal made → AsksAll old new wanted → AsksFor old new wanted made
asks_for_all journal made wanted last of asked = record {
  front = wanted;
  later = [];
  prefix = sym (append-nil wanted);
  asked = asked;
  ends = ends_of_all journal made (names_of wanted) [] last of refl;
}

-- a step failed before it asked for a file
pub asks_for_none : {Y : Type 0} {failure : Failure} (asked : Option (List Request)) (wanted : List Request) → IsOfNoFile {Y = Y} None (Err failure) → AsksFor {Y = Y} asked asked wanted (Err failure)
asks_for_none {Y = Y} {failure = failure} asked wanted of = record {
  front = [];
  later = wanted;
  prefix = refl;
  asked = asks_nothing asked;
  ends = ends_at_once Y failure [] wanted of;
}

-- ---- one fetch

one_asked : {old new : Option (List Request)} (request : Request) → new ≡ ask_more old (request ∷ []) → AsksAll old new (request ∷ [])
one_asked request noted = record { requests = request ∷ []; within = as_wanted (request ∷ []); noted = noted }

-- a file was fetched
pub asks_one : {Y : Type 0} {old new : Option (List Request)} (request : Request) (y : Y) → new ≡ ask_more old (request ∷ []) → AsksFor old new (request ∷ []) (Ok y)
asks_one request y noted = asks_for_all None (Ok y) (request ∷ []) tt tt (one_asked request noted)

asks_unread : (Y : Type 0) {old new : Option (List Request)} (name : List ℕ) (cap : ℕ) → new ≡ ask_more old (request_for name cap ∷ []) → AsksFor {Y = Y} old new (request_for name cap ∷ []) (Err (unread name))
asks_unread Y name cap noted = record {
  front = request_for name cap ∷ [];
  later = [];
  prefix = refl;
  asked = one_asked (request_for name cap) noted;
  ends = ([], refl);
}

asks_no_memory : (Y : Type 0) {old new : Option (List Request)} (request : Request) → (new ≡ old) ⊎ (new ≡ ask_more old (request ∷ [])) → AsksFor {Y = Y} old new (request ∷ []) (Err no_memory)
asks_no_memory Y {old = old} request (inl same) = subst (λ new. AsksFor {Y = Y} old new (request ∷ []) (Err no_memory)) (sym same) (asks_for_none old (request ∷ []) tt)
asks_no_memory Y request (inr noted) = asks_for_all None (Err no_memory) (request ∷ []) tt tt (one_asked request noted)

-- a file was not fetched
pub asks_in_vain : (T Y : Type 0) {old new : Option (List Request)} (name : List ℕ) (cap : ℕ) (error : ShelfError)
    → NotesFetch {T = T} old new (request_for name cap) (Err error) → AsksFor {Y = Y} old new (request_for name cap ∷ []) (Err (fetch_failure name error))
asks_in_vain T Y name cap error.NoMemory noted = asks_no_memory Y (request_for name cap) noted
asks_in_vain T Y name cap error.Failed noted = asks_unread Y name cap noted
asks_in_vain T Y name cap error.Missing noted = asks_unread Y name cap noted

-- ---- steps in a row

-- all of some files were asked for, and then a step asked for more
pub asks_behind : {Y : Type 0} {old mid new : Option (List Request)} {more : List Request} {made : Result Y Failure} (wanted : List Request)
    → AsksAll old mid wanted → AsksFor mid new more made → AsksFor old new (wanted ++ more) made
asks_behind {made = made} wanted first rest = record {
  front = wanted ++ rest.front;
  later = rest.later;
  prefix = ap (λ more. wanted ++ more) rest.prefix ∙ sym (append_assoc wanted rest.front rest.later);
  asked = asks_more wanted rest.front first rest.asked;
  ends = subst (λ names. EndsAsking made names rest.later) (sym (names_of-append wanted rest.front)) (ends_behind made (names_of wanted) (names_of rest.front) rest.later rest.ends);
}

-- a step failed before another one, which would have asked for more
pub asks_before : {X Y : Type 0} {old new : Option (List Request)} {wanted : List Request} {failure : Failure} (more : List Request)
    → AsksFor {Y = X} old new wanted (Err failure) → AsksFor {Y = Y} old new (wanted ++ more) (Err failure)
asks_before {X = X} {Y = Y} {failure = failure} more step = record {
  front = step.front;
  later = step.later ++ more;
  prefix = ap (λ wanted. wanted ++ more) step.prefix ∙ append_assoc step.front step.later more;
  asked = step.asked;
  ends = ends_failed X Y failure (names_of step.front) step.later (step.later ++ more) step.ends;
}

-- the same before one that asks for nothing
pub asks_failed : {X Y : Type 0} {old new : Option (List Request)} {wanted : List Request} {failure : Failure}
    → AsksFor {Y = X} old new wanted (Err failure) → AsksFor {Y = Y} old new wanted (Err failure)
asks_failed {X = X} {Y = Y} {failure = failure} step = record {
  front = step.front;
  later = step.later;
  prefix = step.prefix;
  asked = step.asked;
  ends = ends_failed X Y failure (names_of step.front) step.later step.later step.ends;
}

-- ---- a step that may ask for more

-- these files, some first and the others later, where each may be asked for more of
record Splits (front later most : List Request) : Type 0 where
  first : List Request
  rest : List Request
  prefix : most ≡ first ++ rest
  before : AreWithin front first
  behind : AreWithin later rest

splits : (front later most : List Request) → AreWithin (front ++ later) most → Splits front later most
splits [] later most within = record { first = []; rest = most; prefix = refl; before = tt; behind = within }
splits (request ∷ front) later [] within = absurd within
splits (request ∷ front) later (greatest ∷ most) within =
    let more = splits front later most within.1 in
    record {
      first = greatest ∷ more.first;
      rest = more.rest;
      prefix = ap (λ requests. greatest ∷ requests) more.prefix;
      before = (within.0, more.before);
      behind = more.behind;
    }

none_along : (later rest : List Request) → AreWithin later rest → later ≡ [] → rest ≡ []
none_along [] [] within none = refl
none_along [] (greatest ∷ rest) within none = absurd within
none_along (request ∷ later) rest within none = absurd (cc none)

-- a step that keeps within these caps keeps within greater ones
pub asks_within : {Y : Type 0} {old new : Option (List Request)} {made : Result Y Failure} (wanted most : List Request)
    → AreWithin wanted most → AsksFor old new wanted made → AsksFor old new most made
asks_within {made = made} wanted most within step =
    let parts = splits step.front step.later most (subst (λ requests. AreWithin requests most) step.prefix within) in
    record {
      front = parts.first;
      later = parts.rest;
      prefix = parts.prefix;
      asked = asks_less step.front parts.first parts.before step.asked;
      ends = ends_along made (names_of parts.first) step.later parts.rest (none_along step.later parts.rest parts.behind)
          (subst (λ names. EndsAsking made names step.later) (names_within step.front parts.first parts.before) step.ends);
    }
