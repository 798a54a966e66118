-- What the page writes of each kind of revision, as one rule for each table of texts (our own rule).
use Rattle.std.specs.Prelude.{◌≡◌, ◌++◌, ℕ, List, [], codes}
use Rattle.redl_formats.specs.Fields.{verdict_name}
use Rattle.redl_join.specs.declared.verdict.Verdict.{Verdict}
use Rattle.redl_journal.specs.Journals.{word_text}
use Rattle.redl_journal.specs.declared.entry.Word.{Word}
use Rattle.redl_kinds.specs.KindNames.{kind_name}
use Rattle.redl_kinds.specs.declared.rev_kind.RevKind.TheVariants.{Change}
use Rattle.redl_page.specs.Changes.{verdict_before, word_before}
use Rattle.redl_page_stories.specs.Signs.{cell_after_author, cell_before_author, change_after_author, change_before_author, content_before_author, content_end, mark_after_author, mark_before_author, row_after_author, row_before_author}
use Rattle.redl_tree.specs.declared.kinds.Prop.{Prop}
use Rattle.redl_tree.specs.declared.kinds.Prop.TheVariants as props
use Rattle.redl_tree.specs.declared.kinds.Trace.{Trace}
use Rattle.redl_tree.specs.declared.kinds.Trace.TheVariants.{Ins, Del, From, To}

-- what was inserted or moved here is an `ins`, what was deleted or moved away a `del`
abbrev pub element_of : Trace → List ℕ
element_of Ins = codes "ins"
element_of To = codes "ins"
element_of Del = codes "del"
element_of From = codes "del"

-- the class that both ends of a move have besides
abbrev pub move_of : Trace → List ℕ
move_of Ins = []
move_of Del = []
move_of From = codes " move"
move_of To = codes " move"

-- a start tag with this class, up to the number of the revision
abbrev pub opening : List ℕ → Trace → List ℕ
opening class trace = codes "<" ++ element_of trace ++ codes " class=\"" ++ class ++ move_of trace ++ codes "\" data-revision=\""

abbrev pub closing : Trace → List ℕ
closing trace = codes "</" ++ element_of trace ++ codes ">"

-- a change of a table's properties stands in the caption, one of a row's in a cell of its own
abbrev pub around_before : Prop → List ℕ
around_before props.Table = codes "<caption>"
around_before props.Except = codes "<td class=\"edge\">"
around_before props.Row = codes "<td class=\"edge\">"
around_before _ = []

abbrev pub around_after : Prop → List ℕ
around_after props.Table = codes "</caption>"
around_after props.Except = codes "</td>"
around_after props.Row = codes "</td>"
around_after _ = []

-- each sign has the element of what became of its text, and closes what it opened; a verdict and a word have the names that listings
-- and journals give them
pub record AreSigns : Type 0 where
  pub content : (trace : Trace) → codes (content_before_author trace) ≡ opening (codes "text") trace
  pub content_end : (trace : Trace) → codes (content_end trace) ≡ closing trace
  pub mark : (trace : Trace) → codes (mark_before_author trace) ≡ opening (codes "mark") trace
  pub mark_end : (trace : Trace) → codes (mark_after_author trace) ≡ codes "\">&para;" ++ closing trace
  pub row : (trace : Trace) → codes (row_before_author trace) ≡ codes "<td class=\"edge\">" ++ opening (codes "row") trace
  pub row_end : (trace : Trace) → codes (row_after_author trace) ≡ codes "\">row" ++ closing trace ++ codes "</td>"
  pub cell : (trace : Trace) → codes (cell_before_author trace) ≡ opening (codes "cell") trace
  pub cell_end : (trace : Trace) → codes (cell_after_author trace) ≡ codes "\">cell" ++ closing trace
  pub change : (prop : Prop) → codes (change_before_author prop) ≡ around_before prop ++ codes "<span class=\"props\" data-revision=\""
  pub change_end : (prop : Prop) → codes (change_after_author prop) ≡ codes "\">" ++ kind_name (Change prop) ++ codes "</span>" ++ around_after prop
  pub verdict : (one : Verdict) → codes (verdict_before one) ≡ codes "\" data-verdict=\"" ++ verdict_name one ++ codes "\" data-locked=\""
  pub word : (one : Word) → codes (word_before one) ≡ codes "<p data-word=\"" ++ word_text one ++ codes "\" data-rank=\""
