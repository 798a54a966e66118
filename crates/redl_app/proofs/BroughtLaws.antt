-- What the program brings, by the formats that it adds one after another.
use Rattle.std.proofs.Common.{◌≡◌, List, [], ◌∷◌, ◌++◌, map, ap, sym, subst, ◌∙◌, inl}
use Rattle.std.proofs.lemmas.List.{map-append}
use Rattle.std.specs.declared.dyn_box.DynBox.{DynBox}
use Rattle.redl_outcome.specs.Brought.{Brought}
use Rattle.redl_commands_shown.specs.Formats.{Format, LeavesFormats}
use Rattle.redl_lines.specs.declared.status.Status.{Status}
use Rattle.redl_lines.specs.declared.status.Status.TheVariants as status
use Rattle.redl_listing.specs.declared.row.Row.{Row}
use Rattle.redl_page.specs.Page.{Skin}
use Rattle.redl_report.specs.declared.line.ReportLine.{ReportLine}

-- what boxes are seen as after one more, which is seen as this whatever value of its type is in it
pub views-added : {X Z V : Type 0} {F : X → Type 0} (view : DynBox X Z F → V) (known : List V) (one : V) (old new : List (DynBox X Z F)) (box : DynBox X Z F) (type : X)
    → map view old ≡ known → new ≡ old ++ box ∷ [] → box.vtable ≡ type
    → ((value : F type) → view (record { ptr = box.ptr; vtable = type; alloc = box.alloc; value = value }) ≡ one)
    → map view new ≡ known ++ one ∷ []
views-added {X} {Z} {V} {F} view known one old new box type before added same all =
    let seen : view box ≡ one = subst (λ (at : X). (value : F at) → view (record { ptr = box.ptr; vtable = at; alloc = box.alloc; value = value }) ≡ one) (sym same) all box.value in
    ap (map view) added ∙ map-append view old (box ∷ [])
    ∙ ap (λ (front : List V). front ++ view box ∷ []) before ∙ ap (λ (last : V). known ++ last ∷ []) seen

-- what holds of what is brought with these formats of listings, holds of what they are known to be
pub with_formats : (Holds : Brought → Type 0) (formats known : List (Format Row)) (reports : List (Format ReportLine)) (skin : Skin)
    → Holds (record { formats = formats; reports = reports; skin = skin }) → formats ≡ known → Holds (record { formats = known; reports = reports; skin = skin })
with_formats Holds formats known reports skin here same =
    subst Holds (ap (λ (all : List (Format Row)). record { formats = all; reports = reports; skin = skin }) same) here

-- the same of the formats of reports
pub with_reports : (Holds : Brought → Type 0) (formats : List (Format Row)) (reports known : List (Format ReportLine)) (skin : Skin)
    → Holds (record { formats = formats; reports = reports; skin = skin }) → reports ≡ known → Holds (record { formats = formats; reports = known; skin = skin })
with_reports Holds formats reports known skin here same =
    subst Holds (ap (λ (all : List (Format ReportLine)). record { formats = formats; reports = all; skin = skin }) same) here

-- formats that stay as they were are those that a call leaves that asks for none
pub leaves_same : {F : Type 0} (ended : Status) (formats new : List F) → new ≡ formats → LeavesFormats ended formats formats new
leaves_same status.Done formats new is = is
leaves_same status.Refused formats new is = is
leaves_same status.Usage formats new is = is
leaves_same status.Package formats new is = is
leaves_same status.Journal formats new is = is
leaves_same status.ReadFault formats new is = is
leaves_same status.WriteFault formats new is = is
leaves_same status.Limit formats new is = is
leaves_same status.NoMemory formats new is = inl is
leaves_same status.Sequence formats new is = is
leaves_same status.NotWritten formats new is = is
leaves_same status.Differ formats new is = is
