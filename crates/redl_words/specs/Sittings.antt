-- The journals of two sittings, in the words of `resume` (our own rule).
use Rattle.std.specs.Prelude.{ℕ, List, [], ◌∷◌, codes}

-- a journal, by the package that it is one of
pub data SittingJournal : Type 0 where
  -- `--journal` and the name of a journal of the first package
  of_first : List ℕ → SittingJournal
  -- the name of a journal of the second package
  of_second : List ℕ → SittingJournal

-- its words
abbrev pub sitting_words : SittingJournal → List (List ℕ)
sitting_words (of_first name) = codes "--journal" ∷ name ∷ []
sitting_words (of_second name) = name ∷ []

abbrev pub sitting_name : SittingJournal → List ℕ
sitting_name (of_first name) = name
sitting_name (of_second name) = name

-- the journals of the first package, in their order
abbrev pub firsts_of : List SittingJournal → List (List ℕ)
firsts_of [] = []
firsts_of (of_first name ∷ journals) = name ∷ firsts_of journals
firsts_of (of_second name ∷ journals) = firsts_of journals

-- those of the second package
abbrev pub seconds_of : List SittingJournal → List (List ℕ)
seconds_of [] = []
seconds_of (of_first name ∷ journals) = seconds_of journals
seconds_of (of_second name ∷ journals) = name ∷ seconds_of journals
