-- What the program brings to a call, besides what it is asked for.
use Rattle.std.specs.Prelude.{ℕ, Bool, List}
use Rattle.redl_commands_shown.specs.Formats.{Format, formats_by}
use Rattle.redl_listing.specs.declared.row.Row.{Row}
use Rattle.redl_report.specs.declared.line.ReportLine.{ReportLine}
use Rattle.redl_page.specs.Page.{Skin}
use Rattle.redl_page.specs.PageViews.{skin_view}
use Rattle.redl_page.specs.declared.page.Skin as declared

-- the formats of listings and those of reports, and the skin of pages
pub record Brought : Type 0 where
  pub formats : List (Format Row)
  pub reports : List (Format ReportLine)
  pub skin : Skin

-- formats by the name of each and by the text that it gives for any rows, closed or not; the same of reports; and this skin
abbrev pub brought_by : {F R : Type 0} → (F → List ℕ) → (F → List Row → Bool → List ℕ) → List F → (R → List ℕ) → (R → List ReportLine → Bool → List ℕ) → List R → declared.Skin → Brought
brought_by name_of text_of formats report_name_of report_text_of reports skin = record {
  formats = formats_by name_of text_of formats;
  reports = formats_by report_name_of report_text_of reports;
  skin = skin_view skin;
}
