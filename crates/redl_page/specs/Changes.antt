-- The list of changes beside the document (our own rule): an item for each revision in the order of the numbers, with its edit, the
-- comments on it, its clause, its place, what it changes where it is a change of properties, and the last words of each reviewer on it;
-- and the reviewers, each with the greatest sequence number of their entries.
use Prim.Native.String.{String}
use Rattle.std.specs.Prelude.{ℕ, ◌==◌, List, [], ◌∷◌, ◌++◌, Bool, true, false, Option, Some, None, codes, length, if◌then◌else◌}
use Rattle.std.specs.List.{flat_map}
use Rattle.std.specs.Str.{bytes_eq}
use Rattle.redl_kinds.specs.KindNames.{kind_name}
use Rattle.redl_index.specs.declared.revision.Revision.{Revision}
use Rattle.redl_journal.specs.declared.entry.Entry.{Entry}
use Rattle.redl_journal.specs.declared.entry.Word.{Word}
use Rattle.redl_journal.specs.declared.entry.Word.TheVariants.{Accept, Reject, Withdraw}
use Rattle.redl_join.specs.LastWords.{last_words}
use Rattle.redl_join.specs.Verdicts.{verdict_at, greatest_seq}
use Rattle.redl_join.specs.declared.verdict.Verdict.{Verdict}
use Rattle.redl_join.specs.declared.verdict.Verdict.TheVariants as verdict
use Rattle.redl_formats.specs.Dates.{date_text}
use Rattle.redl_html.specs.Escaping.{escaped}
use Rattle.redl_page.specs.declared.item.ItemWords.{ItemWords}
use Rattle.redl_html.specs.Pieces.{HtmlPiece, own, number, outside, ends_in, has_number}

-- ---- a revision

-- a reviewer's word on it
abbrev pub word_before : Word → String
word_before Accept = "<p data-word=\"accept\" data-rank=\""
word_before Reject = "<p data-word=\"reject\" data-rank=\""
word_before Withdraw = "<p data-word=\"withdraw\" data-rank=\""

abbrev pub word_after : Word → String
word_after Accept = "</bdi>: accepted"
word_after Reject = "</bdi>: rejected"
word_after Withdraw = "</bdi>: withdrawn"

-- the rank in words, but for the lowest one
abbrev pub rank_words : ℕ → List HtmlPiece
rank_words rank = if rank == 0 then [] else own " with rank " ∷ number rank ∷ []

abbrev pub saying_start : Entry → List HtmlPiece
saying_start entry = own (word_before entry.word) ∷ number entry.rank ∷ own "\"><bdi>" ∷ outside entry.reviewer ∷ []

abbrev pub saying_end : Word → ℕ → List HtmlPiece
saying_end word rank = own (word_after word) ∷ (rank_words rank ++ (own "</p>" ∷ []))

abbrev pub saying : Entry → List HtmlPiece
saying entry = saying_start entry ++ saying_end entry.word entry.rank

-- what was decided on it, and whether it is locked
abbrev pub verdict_before : Verdict → String
verdict_before verdict.Undecided = "\" data-verdict=\"open\" data-locked=\""
verdict_before verdict.Accept = "\" data-verdict=\"accept\" data-locked=\""
verdict_before verdict.Reject = "\" data-verdict=\"reject\" data-locked=\""
verdict_before verdict.Disputed = "\" data-verdict=\"disputed\" data-locked=\""

abbrev pub locked_before : Bool → String
locked_before true = "yes\">"
locked_before false = "no\">"

-- its number, kind, author and date
abbrev pub change_head : Revision → List HtmlPiece
change_head revision =
    own "<li id=\"revision-" ∷ number revision.number ∷ own "\" data-kind=\"" ∷ outside (kind_name revision.kind)
    ∷ own "\" data-author=\"" ∷ outside revision.author ∷ own "\" data-date=\"" ∷ outside (date_text revision.seconds) ∷ []

-- the ids of the comments on it, where there are any
abbrev pub remarks_attribute : List ℕ → List HtmlPiece
remarks_attribute ids = if length ids == 0 then [] else own "\" data-remarks=\"" ∷ outside ids ∷ []

-- the edit that it belongs to, and those comments
abbrev pub change_links : ItemWords → List HtmlPiece
change_links said = own "\" data-edit=\"" ∷ number said.edit ∷ remarks_attribute said.remarks

abbrev pub change_state : Verdict → Bool → List HtmlPiece
change_state verdict locked = own (verdict_before verdict) ∷ own (locked_before locked) ∷ []

-- a paragraph with this text from outside; without bytes there is none
abbrev pub words_in : String → List ℕ → List HtmlPiece
words_in before text = if length text == 0 then [] else own before ∷ outside text ∷ own "</bdi></p>" ∷ []

-- the same as it is written
abbrev pub words_text : List ℕ → List ℕ → List ℕ
words_text before text = if length text == 0 then [] else (before ++ escaped text) ++ codes "</bdi></p>"

-- the clause of a revision, its place, and what it changes
abbrev pub item_words : ItemWords → List HtmlPiece
item_words said =
    words_in "<p class=\"clause\"><bdi>" said.clause
    ++ (words_in "<p class=\"place\"><bdi>" said.place ++ words_in "<p class=\"changed\"><bdi>" said.changed)

abbrev pub change : Revision → Verdict → Bool → ItemWords → List Entry → List HtmlPiece
change revision verdict locked said words =
    change_head revision
    ++ (change_links said ++ (change_state verdict locked ++ (item_words said ++ (flat_map saying words ++ (own "</li>\n" ∷ [])))))

-- the revisions of a package, where these are locked or not and this is said of them, under the entries of a book
abbrev pub changes : List Entry → List Revision → List Bool → List ItemWords → List HtmlPiece
changes book [] locked said = []
changes book (revision ∷ later) [] said = []
changes book (revision ∷ later) (lock ∷ locked) [] = []
changes book (revision ∷ later) (lock ∷ locked) (words ∷ said) =
    change revision (verdict_at book revision.number) lock words (last_words book revision.number) ++ changes book later locked said

-- ---- reviewers

abbrev pub reviewer_item : List Entry → List ℕ → List HtmlPiece
reviewer_item book reviewer =
    own "<li data-sequence=\"" ∷ number (greatest_seq book reviewer) ∷ own "\">" ∷ outside reviewer ∷ own "</li>\n" ∷ []

abbrev pub is_last : Option (List ℕ) → List ℕ → Bool
is_last None reviewer = false
is_last (Some last) reviewer = bytes_eq last reviewer

-- The reviewers of these entries, after an entry of this one. The entries of a book are in the order of their reviewers, so each
-- reviewer comes once.
abbrev pub reviewers_after : List Entry → Option (List ℕ) → List Entry → List HtmlPiece
reviewers_after book last [] = []
reviewers_after book last (entry ∷ entries) =
    (if is_last last entry.reviewer then [] else reviewer_item book entry.reviewer) ++ reviewers_after book (Some entry.reviewer) entries

abbrev pub reviewers : List Entry → List HtmlPiece
reviewers book = reviewers_after book None book

-- ---- items with a number

-- the number of a revision comes next, as the name of its item in the list of changes
abbrev pub opens_item : HtmlPiece → Bool
opens_item (own text) = ends_in (codes "<li id=\"revision-") (codes text)
opens_item (number n) = false
opens_item (outside text) = false

-- the list of changes has an item of this revision
abbrev pub has_item : ℕ → List HtmlPiece → Bool
has_item rev pieces = has_number opens_item rev pieces
