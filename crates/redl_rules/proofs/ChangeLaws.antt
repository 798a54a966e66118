-- Changes of properties stand in properties alone.
use Rattle.std.proofs.Common.{◌≡◌, Bool, true, false, List, [], ◌∷◌, Option, Some, None, refl, sym, ap, ◌∙◌}
use Rattle.std.specs.List.{list_any}
use Rattle.std.specs.Option.{option_map}
use Rattle.std.proofs.lemmas.Bool.{or_parts}
use Rattle.redl_tree.specs.Model.Nodes.{Tag, Nodes, no_nodes, bytes, element}
use Rattle.redl_tree.specs.Roles.Names.{is}
use Rattle.redl_tree.specs.Roles.Kinds.{is_change}
use Rattle.redl_tree.specs.Roles.Places.{is_quiet, is_open, in_mark_props, in_row_props, in_cell_props, in_props, trace_of, row_trace_of, cell_trace_of, prop_of, placed, change_at, first_role, role}
use Rattle.redl_tree.specs.Roles.Arounds.{around_of}
use Rattle.redl_tree.specs.Rules.Tests.{only_last}
use Rattle.redl_tree.specs.declared.around.Around.{Around}
use Rattle.redl_tree.specs.declared.kinds.Trace.{Trace}
use Rattle.redl_tree.specs.declared.kinds.Prop.{Prop}
use Rattle.redl_tree.specs.declared.kinds.Prop.TheVariants.{Run, Para, Sect, Table, Except, Row as RowProp, Cell as CellProp}
use Rattle.redl_tree.specs.declared.kinds.Kind.{Kind}
use Rattle.redl_tree.specs.declared.kinds.Kind.TheVariants.{Content, Mark, Row, Cell}

-- an element other than the properties that may hold a change
record IsNoProps (tag : Tag) : Type 0 where
  para : is "pPr" tag ≡ false
  run : is "rPr" tag ≡ false
  sect : is "sectPr" tag ≡ false
  table : is "tblPr" tag ≡ false
  except : is "tblPrEx" tag ≡ false
  row : is "trPr" tag ≡ false
  cell : is "tcPr" tag ≡ false

no_props : (tag : Tag) → is_quiet tag ≡ false → IsNoProps tag
no_props tag h =
    let para = or_parts (is "pPr" tag) _ (or_parts _ _ h).0 in
    let run = or_parts (is "rPr" tag) _ para.1 in
    let sect = or_parts (is "sectPr" tag) _ run.1 in
    let table = or_parts (is "tblPr" tag) _ sect.1 in
    let except = or_parts (is "tblPrEx" tag) _ table.1 in
    let row = or_parts (is "trPr" tag) _ except.1 in
    let cell = or_parts (is "tcPr" tag) _ row.1 in
    record { para = para.0; run = run.0; sect = sect.0; table = table.0; except = except.0; row = row.0; cell = cell.0 }

-- where no ancestor is quiet, no change has its place
holds_none : (ancestors : List Tag) → list_any is_quiet ancestors ≡ false → (prop : Prop) → in_props prop ancestors ≡ false
holds_none [] h Run = refl
holds_none [] h Para = refl
holds_none [] h Sect = refl
holds_none [] h Table = refl
holds_none [] h Except = refl
holds_none [] h RowProp = refl
holds_none [] h CellProp = refl
holds_none (tag ∷ ancestors) h prop = of prop (no_props tag (or_parts (is_quiet tag) (list_any is_quiet ancestors) h).0) where
  of : (prop : Prop) → IsNoProps tag → in_props prop (tag ∷ ancestors) ≡ false
  of Run no_one = rw no_one.run refl
  of Para no_one = rw no_one.para refl
  of Sect no_one = rw no_one.sect refl
  of Table no_one = rw no_one.table refl
  of Except no_one = rw no_one.except refl
  of RowProp no_one = rw no_one.row refl
  of CellProp no_one = rw no_one.cell refl

no_change_at : (ancestors : List Tag) (prop : Option Prop) → list_any is_quiet ancestors ≡ false → change_at ancestors prop ≡ None
no_change_at ancestors None h = refl
no_change_at ancestors (Some prop) h = rw (holds_none ancestors h prop) refl

-- ---- the first role

-- where there is a role, it is a change
abbrev may_change : Option Kind → Bool
may_change None = false
may_change (Some kind) = is_change kind

past_first : (holds : Bool) (kind : Option Kind) (kinds : List (Option Kind)) → may_change kind ≡ false → is_change (first_role kinds) ≡ false → is_change (first_role (placed holds kind ∷ kinds)) ≡ false
past_first true None kinds h e = e
past_first true (Some kind) kinds h e = h
past_first false kind kinds h e = e

of_trace : (kind_of : Trace → Kind) (trace : Option Trace) → ((t : Trace) → is_change (kind_of t) ≡ false) → may_change (option_map kind_of trace) ≡ false
of_trace kind_of None h = refl
of_trace kind_of (Some t) h = h t

no_change : (ancestors : List Tag) (tag : Tag) → list_any is_quiet ancestors ≡ false → is_change (role ancestors tag) ≡ false
no_change ancestors tag h =
    let last : is_change (first_role (change_at ancestors (prop_of tag) ∷ [])) ≡ false = ap (λ (kind : Option Kind). is_change (first_role (kind ∷ []))) (no_change_at ancestors (prop_of tag) h) in
    let of_cell = past_first (in_cell_props ancestors) (option_map Cell (cell_trace_of tag)) (change_at ancestors (prop_of tag) ∷ []) (of_trace Cell (cell_trace_of tag) (λ t. refl)) last in
    let of_row = past_first (in_row_props ancestors) (option_map Row (row_trace_of tag)) _ (of_trace Row (row_trace_of tag) (λ t. refl)) of_cell in
    let of_mark = past_first (in_mark_props ancestors) (option_map Mark (trace_of tag)) _ (of_trace Mark (trace_of tag) (λ t. refl)) of_row in
    past_first (is_open ancestors) (option_map Content (trace_of tag)) _ (of_trace Content (trace_of tag) (λ t. refl)) of_mark

-- ---- lists of nodes

none_is_last : (test : Tag → Bool) (nodes : Nodes) → ((tag : Tag) → test tag ≡ false) → only_last test nodes ≡ true
none_is_last test no_nodes h = refl
none_is_last test (bytes b rest) h = none_is_last test rest h
none_is_last test (element tag kids rest) h = rw (h tag) (none_is_last test rest h)

pub no_change_in_content : (ancestors : List Tag) (around : Around) (nodes : Nodes) → around ≡ around_of ancestors → around.quiet ≡ false → only_last (λ kid. is_change (role ancestors kid)) nodes ≡ true
no_change_in_content ancestors around nodes e h =
    let none_quiet : list_any is_quiet ancestors ≡ false = ap (λ (a : Around). a.quiet) (sym e) ∙ h in
    none_is_last (λ kid. is_change (role ancestors kid)) nodes (λ tag. no_change ancestors tag none_quiet)
