-- The text of the format `words`: a line for each row, with its words in their paragraph between the signs of what became of them
-- (our own rule). A terminal of 100 columns shows most of it: number 5, kind 12, verdict 8 and author 13 places, a space behind each; then
-- 12 places before, 4 for the signs, 31 for the words, 11 behind. A row outside the document says where it is,
-- and a disputed one who said what.
use Rattle.std.specs.Prelude.{ℕ, ◌-◌, nat_le, false, List, [], ◌∷◌, ◌++◌, replicate, decimal, codes, Option, Some, None, if◌then◌else◌}
use Rattle.std.specs.List.{flat_map}
use Rattle.redl_said.specs.Lines.{characters_in, without_characters}
use Rattle.redl_said.specs.Phrases.{heard, kept_text, nothing_heard}
use Rattle.redl_excerpts.specs.declared.detail.Detail.{Detail}
use Rattle.redl_excerpts.specs.declared.last_word.LastWord.{LastWord}
use Rattle.redl_listing.specs.Remarks.{remarks_words}
use Rattle.redl_places.specs.Places.{is_document}
use Rattle.redl_places.specs.Texts.{place_text}
use Rattle.redl_places.specs.declared.place.StoryPlace.{StoryPlace}
use Rattle.redl_kinds.specs.KindNames.{kind_name}
use Rattle.redl_kinds.specs.declared.rev_kind.RevKind.{RevKind}
use Rattle.redl_kinds.specs.declared.rev_kind.RevKind.TheVariants.{Content, Move, Mark, Row as RowKind, Cell, Change}
use Rattle.redl_join.specs.declared.verdict.Verdict.{Verdict}
use Rattle.redl_join.specs.declared.verdict.Verdict.TheVariants.{Undecided, Accept, Reject, Disputed}
use Rattle.redl_journal.specs.Journals.{word_text}
use Rattle.redl_tree.specs.declared.kinds.Trace.{Trace}
use Rattle.redl_tree.specs.declared.kinds.Trace.TheVariants.{Ins, Del, From, To}
use Rattle.redl_listing.specs.declared.row.Row.{Row}
use Rattle.redl_formats.specs.Fields.{left_in, newline, right_in, space, verdict_name}
use Rattle.redl_terminal.specs.Masks.{masked}
use Rattle.redl_terminal.specs.declared.extent.Extent.TheVariants.{Field}

-- the signs of what was inserted, deleted, or moved
abbrev pub opening_of : Trace → List ℕ
opening_of Ins = codes "{+"
opening_of Del = codes "[-"
opening_of From = codes "[~"
opening_of To = codes "{~"

abbrev pub closing_of : Trace → List ℕ
closing_of Ins = codes "+}"
closing_of Del = codes "-]"
closing_of From = codes "~]"
closing_of To = codes "~}"

-- the signs of a revision's words; of a move the source is shown, and a change of properties has its own
abbrev pub opening : RevKind → List ℕ
opening (Content trace) = opening_of trace
opening Move = codes "[~"
opening (Mark trace) = opening_of trace
opening (RowKind trace) = opening_of trace
opening (Cell trace) = opening_of trace
opening (Change prop) = codes "{="

abbrev pub closing : RevKind → List ℕ
closing (Content trace) = closing_of trace
closing Move = codes "~]"
closing (Mark trace) = closing_of trace
closing (RowKind trace) = closing_of trace
closing (Cell trace) = closing_of trace
closing (Change prop) = codes "=}"

-- three dots (U+2026)
abbrev pub dots : List ℕ
dots = 226 ∷ 128 ∷ 166 ∷ []

-- the first characters of a text, and dots for the rest
abbrev pub shortened : ℕ → List ℕ → List ℕ
shortened room text = kept_text (heard (nothing_heard room false) text)

-- its last 11 characters, and dots for those before
abbrev pub near_end : List ℕ → List ℕ
near_end text = if nat_le (characters_in text) 11 then text else dots ++ without_characters (characters_in text - 11) text

-- at the left end of so many places, by its characters
abbrev pub in_places : ℕ → List ℕ → List ℕ
in_places width text = text ++ replicate (width - characters_in text) 32

-- number, kind, verdict and author in columns, with a space behind each
unfoldable pub numbered_columns : Row → List ℕ
numbered_columns row = right_in 5 (decimal row.number) ++ (space ++ (left_in 12 (kind_name row.kind) ++ space))

unfoldable pub words_columns : Row → List ℕ
words_columns row =
    numbered_columns row ++ (left_in 8 (verdict_name row.verdict) ++ (space ++ (in_places 13 (shortened 12 (masked Field row.author)) ++ space)))

-- between the signs stand the words; of a change of properties what it changes, and the words behind the signs
abbrev pub inside : RevKind → Detail → List ℕ
inside (Change prop) detail = masked Field detail.changed.line
inside _ detail = masked Field (shortened 30 detail.words)

abbrev pub outside : RevKind → Detail → List ℕ
outside (Change prop) detail = masked Field (shortened 30 detail.words)
outside _ detail = []

-- the clause, if there is one, and a space behind it
abbrev pub clause_text : Option (List ℕ) → List ℕ
clause_text None = []
clause_text (Some clause) = masked Field clause ++ space

-- the words in their paragraph
unfoldable pub in_paragraph : Row → List ℕ
in_paragraph row =
    masked Field (near_end row.detail.before) ++ (opening row.kind ++ (inside row.kind row.detail ++ (closing row.kind ++ (outside row.kind row.detail ++ masked Field (shortened 10 row.detail.after)))))

-- the clause, and the words in their paragraph
unfoldable pub quoted : Row → List ℕ
quoted row = clause_text row.detail.clause ++ in_paragraph row

-- where it is, with two spaces before that, unless it is in the document
abbrev pub place_words : StoryPlace → List ℕ
place_words place = if is_document place then [] else codes "  " ++ place_text place

-- who said what, with two spaces before each
abbrev pub said_text : LastWord → List ℕ
said_text said = codes "  " ++ (masked Field said.reviewer ++ (codes ": " ++ word_text said.word))

abbrev pub says_text : Verdict → List LastWord → List ℕ
says_text Disputed says = flat_map said_text says
says_text Undecided says = []
says_text Accept says = []
says_text Reject says = []

unfoldable pub words_row : Row → List ℕ
words_row row = words_columns row ++ (quoted row ++ (remarks_words row.detail.remarks.count ++ (place_words row.detail.place ++ (says_text row.verdict row.detail.says ++ newline))))
