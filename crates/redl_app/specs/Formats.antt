-- The formats that the program brings to a call.
use Rattle.std.specs.Prelude.{ℕ, List, [], ◌∷◌, codes, true}
use Rattle.redl_outcome.specs.Brought.{Brought}
use Rattle.redl_commands_shown.specs.Formats.{Format}
use Rattle.redl_formats.specs.Formats.{lines_of, array_of}
use Rattle.redl_listing.specs.Full.{full_row}
use Rattle.redl_listing.specs.Texts.{text_row, tab_row, json_row}
use Rattle.redl_listing.specs.Words.{words_row}
use Rattle.redl_listing.specs.declared.row.Row.{Row}
use Rattle.redl_page.specs.PageViews.{skin_view}
use Rattle.redl_page.specs.declared.page.Skin as declared
use Rattle.redl_report.specs.declared.line.ReportLine.{ReportLine}
use Rattle.redl_report.specs.Tables.{table_report}
use Rattle.redl_report.specs.Texts.{text_line, json_line}

-- a line for each item
abbrev pub lines_format : {I : Type 0} → List ℕ → (I → List ℕ) → Format I
lines_format name piece_of = record { name = name; text = λ items. lines_of piece_of items true }

-- an array with a value for each item
abbrev pub array_format : {I : Type 0} → List ℕ → (I → List ℕ) → Format I
array_format name piece_of = record { name = name; text = λ items. array_of piece_of items true }

-- the formats of listings
abbrev pub row_formats : List (Format Row)
row_formats =
    lines_format (codes "text") text_row
    ∷ lines_format (codes "tab") tab_row
    ∷ array_format (codes "json") json_row
    ∷ lines_format (codes "words") words_row
    ∷ array_format (codes "full") full_row
    ∷ []

-- the formats of reports
abbrev pub report_formats : List (Format ReportLine)
report_formats =
    lines_format (codes "text") text_line
    ∷ array_format (codes "json") json_line
    ∷ record { name = codes "table"; text = λ lines. table_report lines true }
    ∷ []

-- what the program brings with these formats of listings and this skin of pages
abbrev pub brings : List (Format Row) → declared.Skin → Brought
brings formats skin = record { formats = formats; reports = report_formats; skin = skin_view skin }

-- what the program brings with this skin of pages
abbrev pub program_brings : declared.Skin → Brought
program_brings skin = brings row_formats skin
