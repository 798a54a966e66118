-- What a step of a call asks a shelf for.
use Rattle.std.specs.Prelude.{◌≡◌, ◌≤◌, ◌+◌, ◌++◌, ◌∷◌, ℕ, List, [], map, Option, None, Some, IfSome, Result, Ok, Err}
use Rattle.redl_io.specs.Shelf.{ask_more, names_of, request_for}
use Rattle.redl_io.specs.declared.shelf.Request.{Request}
use Rattle.redl_lines.specs.Failures.{Cause, Failure, caused, malformed, no_memory, other_count, other_document, unread}

-- ---- how much is asked for

-- the request for a file that may have `most` bytes: one byte more, so that a longer file shows
abbrev pub file_within : ℕ → List ℕ → Request
file_within most name = request_for name (most + 1)

-- the same for each of these files
abbrev pub files_within : ℕ → List (List ℕ) → List Request
files_within most names = map (file_within most) names

-- a request for the same file, and for at most as many bytes
pub record IsWithin (request greatest : Request) : Type 0 where
  pub name : request.name ≡ greatest.name
  pub cap : request.cap ≤ greatest.cap

-- requests for the same files in the same order, each for at most as many bytes
abbrev pub AreWithin : List Request → List Request → Type 0
AreWithin [] [] = Unit {0}
AreWithin [] (greatest ∷ more) = ⊥
AreWithin (request ∷ requests) [] = ⊥
AreWithin (request ∷ requests) (greatest ∷ more) = IsWithin request greatest × AreWithin requests more

-- a shelf was asked for these files, in their order, each once and within its cap
pub record AsksAll (old new : Option (List Request)) (wanted : List Request) : Type 0 where
  pub requests : List Request
  pub within : AreWithin requests wanted
  pub noted : new ≡ ask_more old requests

-- ---- up to which file

-- the last of these names
abbrev pub IsLast : List (List ℕ) → List ℕ → Type 0
IsLast names name = (before : List (List ℕ)) × (names ≡ before ++ name ∷ [])

-- the journal that this cause refuses by its name
abbrev pub refused_journal : Cause → Option (List ℕ)
refused_journal (malformed name) = Some name
refused_journal (other_document name found expected) = Some name
refused_journal (other_count name found expected) = Some name
refused_journal _ = None

-- Where something was made, no file is left. Where a file could not be read, or is a journal that was refused, it is the last one that was asked for.
abbrev pub EndsAsking : {Y : Type 0} → Result Y Failure → List (List ℕ) → List Request → Type 0
EndsAsking (Ok y) names later = later ≡ []
EndsAsking (Err (unread name)) names later = IsLast names name
EndsAsking (Err no_memory) names later = Unit {0}
EndsAsking (Err (caused cause)) names later = IfSome (refused_journal cause) (IsLast names)

-- A step asked a shelf for the first ones of these files, in their order, each once and within its cap, and then made something or failed.
pub record AsksFor {Y : Type 0} (old new : Option (List Request)) (wanted : List Request) (made : Result Y Failure) : Type 0 where
  pub front : List Request
  pub later : List Request
  pub prefix : wanted ≡ front ++ later
  pub asked : AsksAll old new front
  pub ends : EndsAsking made (names_of front) later
