-- Rows by hand, with their texts.
use Rattle.std.proofs.Common.{◌≡◌, true, false, [], ◌∷◌, ◌++◌, Some, None, pos, codes, refl}
use Rattle.std.specs.Fmt.{digits}
use Rattle.redl_tree.specs.declared.kinds.Trace.TheVariants.{Ins}
use Rattle.redl_kinds.specs.declared.rev_kind.RevKind.TheVariants.{Content, Move}
use Rattle.redl_join.specs.declared.verdict.Verdict.TheVariants.{Undecided, Disputed}
use Rattle.redl_excerpts.specs.Details.{no_detail}
use Rattle.redl_listing.specs.declared.row.Row.{Row}
use Rattle.redl_formats.specs.Dates.{year_and_day, month_and_day}
use Rattle.redl_formats.specs.Fields.{tab, newline, escape}
use Rattle.redl_terminal.specs.Masks.{hidden_length}
use Rattle.redl_listing.specs.Texts.{text_row, decided_columns, named_fields, decided_fields, tab_row, text_listing, tab_listing, json_listing}

-- an insertion of Ann's
insertion : Row
insertion = record {
  number = 1;
  kind = Content Ins;
  verdict = Undecided;
  author = codes "Ann";
  seconds = Some (pos 1_714_979_289);
  part = codes "/word/document.xml";
  members = 1;
  detail = no_detail;
}

-- a disputed move without a date, by an author with a tab, a backslash and a delete character
move : Row
move = record {
  number = 12345678;
  kind = Move;
  verdict = Disputed;
  author = 65 ∷ 9 ∷ 92 ∷ 127 ∷ [];
  seconds = None;
  part = codes "/a";
  members = 0;
  detail = no_detail;
}

row_text : text_listing (insertion ∷ []) true ≡ codes "      1 ins          open     2024-05-06T07:08:09Z Ann" ++ newline
unfolding insertion text_row decided_columns hidden_length digits year_and_day month_and_day
row_text = refl

row_text_long : text_listing (move ∷ []) false ≡ codes "12345678 move         disputed -                    A?\\?" ++ newline
unfolding move text_row decided_columns hidden_length digits
row_text_long = refl

row_tab : tab_listing (insertion ∷ []) true ≡ codes "1" ++ tab ++ codes "ins" ++ tab ++ codes "open" ++ tab ++ codes "2024-05-06T07:08:09Z" ++ tab ++ codes "1" ++ tab ++ codes "/word/document.xml" ++ tab ++ codes "Ann" ++ newline
unfolding insertion tab_row decided_fields named_fields escape digits year_and_day month_and_day
row_tab = refl

row_tab_escaped : tab_listing (move ∷ []) false ≡ codes "12345678" ++ tab ++ codes "move" ++ tab ++ codes "disputed" ++ tab ++ codes "-" ++ tab ++ codes "0" ++ tab ++ codes "/a" ++ tab ++ (codes "A\\t\\\\" ++ 127 ∷ []) ++ newline
unfolding move tab_row decided_fields named_fields escape digits
row_tab_escaped = refl

row_json_empty : json_listing [] true ≡ codes "[]" ++ newline
row_json_empty = refl

row_json_open : json_listing [] false ≡ codes "["
row_json_open = refl
