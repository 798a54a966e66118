-- Each text of a sign, by the rule of its table.
use Rattle.std.proofs.Common.{◌≡◌, ◌++◌, codes, refl}
use Rattle.redl_formats.specs.Fields.{verdict_name}
use Rattle.redl_join.specs.declared.verdict.Verdict.{Verdict}
use Rattle.redl_join.specs.declared.verdict.Verdict.TheVariants as verdict
use Rattle.redl_journal.specs.Journals.{word_text}
use Rattle.redl_journal.specs.declared.entry.Word.{Word}
use Rattle.redl_journal.specs.declared.entry.Word.TheVariants as word
use Rattle.redl_kinds.specs.KindNames.{kind_name}
use Rattle.redl_kinds.specs.declared.rev_kind.RevKind.TheVariants.{Change}
use Rattle.redl_page.specs.Changes.{verdict_before, word_before}
use Rattle.redl_page_stories.specs.Signs.{cell_after_author, cell_before_author, change_after_author, change_before_author, content_before_author, content_end, mark_after_author, mark_before_author, row_after_author, row_before_author}
use Rattle.redl_tree.specs.declared.kinds.Prop.{Prop}
use Rattle.redl_tree.specs.declared.kinds.Prop.TheVariants as props
use Rattle.redl_tree.specs.declared.kinds.Trace.{Trace}
use Rattle.redl_tree.specs.declared.kinds.Trace.TheVariants.{Ins, Del, From, To}
use Rattle.redl_worked.specs.Signs.{AreSigns, around_after, around_before, closing, opening}

content_opens : (trace : Trace) → codes (content_before_author trace) ≡ opening (codes "text") trace
content_opens Ins = refl
content_opens Del = refl
content_opens From = refl
content_opens To = refl

content_closes : (trace : Trace) → codes (content_end trace) ≡ closing trace
content_closes Ins = refl
content_closes Del = refl
content_closes From = refl
content_closes To = refl

mark_opens : (trace : Trace) → codes (mark_before_author trace) ≡ opening (codes "mark") trace
mark_opens Ins = refl
mark_opens Del = refl
mark_opens From = refl
mark_opens To = refl

mark_closes : (trace : Trace) → codes (mark_after_author trace) ≡ codes "\">&para;" ++ closing trace
mark_closes Ins = refl
mark_closes Del = refl
mark_closes From = refl
mark_closes To = refl

row_opens : (trace : Trace) → codes (row_before_author trace) ≡ codes "<td class=\"edge\">" ++ opening (codes "row") trace
row_opens Ins = refl
row_opens Del = refl
row_opens From = refl
row_opens To = refl

row_closes : (trace : Trace) → codes (row_after_author trace) ≡ codes "\">row" ++ closing trace ++ codes "</td>"
row_closes Ins = refl
row_closes Del = refl
row_closes From = refl
row_closes To = refl

cell_opens : (trace : Trace) → codes (cell_before_author trace) ≡ opening (codes "cell") trace
cell_opens Ins = refl
cell_opens Del = refl
cell_opens From = refl
cell_opens To = refl

cell_closes : (trace : Trace) → codes (cell_after_author trace) ≡ codes "\">cell" ++ closing trace
cell_closes Ins = refl
cell_closes Del = refl
cell_closes From = refl
cell_closes To = refl

change_opens : (prop : Prop) → codes (change_before_author prop) ≡ around_before prop ++ codes "<span class=\"props\" data-revision=\""
change_opens props.Run = refl
change_opens props.Para = refl
change_opens props.Sect = refl
change_opens props.Table = refl
change_opens props.Except = refl
change_opens props.Row = refl
change_opens props.Cell = refl

change_closes : (prop : Prop) → codes (change_after_author prop) ≡ codes "\">" ++ kind_name (Change prop) ++ codes "</span>" ++ around_after prop
change_closes props.Run = refl
change_closes props.Para = refl
change_closes props.Sect = refl
change_closes props.Table = refl
change_closes props.Except = refl
change_closes props.Row = refl
change_closes props.Cell = refl

verdict_is_named : (one : Verdict) → codes (verdict_before one) ≡ codes "\" data-verdict=\"" ++ verdict_name one ++ codes "\" data-locked=\""
verdict_is_named verdict.Undecided = refl
verdict_is_named verdict.Accept = refl
verdict_is_named verdict.Reject = refl
verdict_is_named verdict.Disputed = refl

word_is_named : (one : Word) → codes (word_before one) ≡ codes "<p data-word=\"" ++ word_text one ++ codes "\" data-rank=\""
word_is_named word.Accept = refl
word_is_named word.Reject = refl
word_is_named word.Withdraw = refl

pub are_signs : AreSigns
are_signs = record {
  content = content_opens;
  content_end = content_closes;
  mark = mark_opens;
  mark_end = mark_closes;
  row = row_opens;
  row_end = row_closes;
  cell = cell_opens;
  cell_end = cell_closes;
  change = change_opens;
  change_end = change_closes;
  verdict = verdict_is_named;
  word = word_is_named;
}
