-- An element has one role at most. The table of roles in docs/DEFINITIONS.md has for each role the names of its elements and
-- their place. Here the table is a function of the role, without an order of its lines. It is proved that no element fits
-- two of its lines, that an element which fits a line has that role, and that an element which fits no line has none. So
-- the order in which `role` looks at the lines does not matter.
use Prim.Native.String.{String}
use Rattle.std.proofs.Common.{◌≡◌, ◌⊎◌, inl, inr, List, [], ◌∷◌, Option, Some, None, option_map, Bool, true, false, true≢false, ◌&&◌, ◌||◌, not, if◌then◌else◌, refl, sym, ap, ◌∙◌}
use Rattle.std.specs.List.{list_any}
use Rattle.std.proofs.lemmas.Bool.{and_parts}
use Rattle.redl_tree.specs.Model.Nodes.{Tag}
use Rattle.redl_tree.specs.Roles.Names.{is, is_any, is_math}
use Rattle.redl_tree.specs.Roles.Places.{is_quiet, is_open, within, change_name, in_mark_props, in_row_props, in_cell_props, in_props, placed, change_at, first_role, role}
use Rattle.redl_tree.specs.declared.kinds.Trace.{Trace}
use Rattle.redl_tree.specs.declared.kinds.Trace.TheVariants.{Ins, Del, From, To}
use Rattle.redl_tree.specs.declared.kinds.Prop.{Prop}
use Rattle.redl_tree.specs.declared.kinds.Prop.TheVariants.{Run, Para, Sect, Table, Except, Row as RowProp, Cell as CellProp}
use Rattle.redl_tree.specs.declared.kinds.Kind.{Kind}
use Rattle.redl_tree.specs.declared.kinds.Kind.TheVariants.{Plain, Content, Mark, Row, Cell, Change, Marker}
use Rattle.redl_tree.proofs.Roles.Named.{by_names}
use Rattle.redl_tree.proofs.Roles.NameLaws.{is-other, is-among, all_among}

-- ---- the table

abbrev pub trace_name : Trace → String
trace_name Ins = "ins"
trace_name Del = "del"
trace_name From = "moveFrom"
trace_name To = "moveTo"

-- the names of the elements with a role; `Plain` is no role, and markers of moves are not in the table
abbrev pub names_of : Kind → List String
names_of Plain = []
names_of (Content trace) = trace_name trace ∷ []
names_of (Mark trace) = trace_name trace ∷ []
names_of (Row Ins) = "ins" ∷ []
names_of (Row Del) = "del" ∷ []
names_of (Row From) = []
names_of (Row To) = []
names_of (Cell Ins) = "cellIns" ∷ []
names_of (Cell Del) = "cellDel" ∷ []
names_of (Cell From) = []
names_of (Cell To) = []
names_of (Change prop) = change_name prop ∷ []
names_of Marker = []

-- where they stand
abbrev pub stand_in : Kind → List Tag → Bool
stand_in Plain ancestors = false
stand_in (Content trace) ancestors = is_open ancestors
stand_in (Mark trace) ancestors = in_mark_props ancestors
stand_in (Row trace) ancestors = in_row_props ancestors
stand_in (Cell trace) ancestors = in_cell_props ancestors
stand_in (Change prop) ancestors = in_props prop ancestors
stand_in Marker ancestors = false

-- an element with these ancestors fits the line of a role: it has one of the names, and stands at the place
abbrev pub fits : List Tag → Tag → Kind → Bool
fits ancestors tag kind = is_any (names_of kind) tag && stand_in kind ancestors

-- ---- places that exclude one another

abbrev quiet_names : List String
quiet_names = "pPr" ∷ "rPr" ∷ "sectPr" ∷ "tblPr" ∷ "tblPrEx" ∷ "trPr" ∷ "tcPr" ∷ "sdtPr" ∷ "sdtEndPr" ∷ "tblGrid" ∷ []

-- below properties an element is not open
closed : (name : String) (names : List String) (ancestors : List Tag) → within (name ∷ names) ancestors ≡ true
    → all_among (name ∷ []) quiet_names ≡ true → is_open ancestors ≡ false
closed name names [] here quiet = absurd (true≢false (sym here))
closed name names (tag ∷ ancestors) here quiet =
    ap (λ b. not ((b || is_math "ctrlPr" tag) || list_any is_quiet ancestors))
    (is-among name quiet_names tag (and_parts (is name tag) (within names ancestors) here).0 quiet)

mark_is_shut : (ancestors : List Tag) → in_mark_props ancestors ≡ true → is_open ancestors ≡ false
mark_is_shut ancestors here = closed "rPr" ("pPr" ∷ "p" ∷ []) ancestors here refl

row_is_shut : (ancestors : List Tag) → in_row_props ancestors ≡ true → is_open ancestors ≡ false
row_is_shut ancestors here = closed "trPr" ("tr" ∷ []) ancestors here refl

-- in the properties of a row an element is not in those of a paragraph's mark
no_mark : (ancestors : List Tag) → in_row_props ancestors ≡ true → in_mark_props ancestors ≡ false
no_mark [] here = refl
no_mark (tag ∷ ancestors) here =
    ap (λ b. b && within ("pPr" ∷ "p" ∷ []) ancestors)
    (is-other "trPr" "rPr" tag (and_parts (is "trPr" tag) (within ("tr" ∷ []) ancestors) here).0 refl)

-- ---- an element that fits a line has that role

placed-none : (here : Bool) → placed here None ≡ None
placed-none true = refl
placed-none false = refl

content_role : (o : Bool) (trace : Trace) (more : List (Option Kind)) → o ≡ true → first_role (placed o (Some (Content trace)) ∷ more) ≡ Content trace
content_role true trace more here = refl
content_role false trace more here = absurd (true≢false (sym here))

mark_role : (o m : Bool) (trace : Trace) (more : List (Option Kind)) → o ≡ false → m ≡ true
    → first_role (placed o (Some (Content trace)) ∷ placed m (Some (Mark trace)) ∷ more) ≡ Mark trace
mark_role true m trace more shut here = absurd (true≢false shut)
mark_role false true trace more shut here = refl
mark_role false false trace more shut here = absurd (true≢false (sym here))

row_role : (o m r : Bool) (trace : Trace) (more : List (Option Kind)) → o ≡ false → m ≡ false → r ≡ true
    → first_role (placed o (Some (Content trace)) ∷ placed m (Some (Mark trace)) ∷ placed r (Some (Row trace)) ∷ more) ≡ Row trace
row_role true m r trace more shut apart here = absurd (true≢false shut)
row_role false true r trace more shut apart here = absurd (true≢false apart)
row_role false false true trace more shut apart here = refl
row_role false false false trace more shut apart here = absurd (true≢false (sym here))

cell_role : (o m r c : Bool) (trace : Trace) (more : List (Option Kind)) → c ≡ true
    → first_role (placed o None ∷ placed m None ∷ placed r None ∷ placed c (Some (Cell trace)) ∷ more) ≡ Cell trace
cell_role o m r true trace more here = rw (placed-none o, placed-none m, placed-none r) refl
cell_role o m r false trace more here = absurd (true≢false (sym here))

change_role : (o m r c p : Bool) (prop : Prop) → p ≡ true
    → first_role (placed o None ∷ placed m None ∷ placed r None ∷ placed c None ∷ placed p (Some (Change prop)) ∷ []) ≡ Change prop
change_role o m r c true prop here = rw (placed-none o, placed-none m, placed-none r, placed-none c) refl
change_role o m r c false prop here = absurd (true≢false (sym here))

at_content : (ancestors : List Tag) (tag : Tag) (trace : Trace) → is_open ancestors ≡ true → is_any (trace_name trace ∷ []) tag ≡ true
    → role ancestors tag ≡ Content trace
at_content ancestors tag Ins here is = by_names (λ t. role ancestors t ≡ Content Ins) ("ins" ∷ []) tag is (content_role (is_open ancestors) Ins _ here, tt)
at_content ancestors tag Del here is = by_names (λ t. role ancestors t ≡ Content Del) ("del" ∷ []) tag is (content_role (is_open ancestors) Del _ here, tt)
at_content ancestors tag From here is = by_names (λ t. role ancestors t ≡ Content From) ("moveFrom" ∷ []) tag is (content_role (is_open ancestors) From _ here, tt)
at_content ancestors tag To here is = by_names (λ t. role ancestors t ≡ Content To) ("moveTo" ∷ []) tag is (content_role (is_open ancestors) To _ here, tt)

at_mark : (ancestors : List Tag) (tag : Tag) (trace : Trace) → in_mark_props ancestors ≡ true → is_any (trace_name trace ∷ []) tag ≡ true
    → role ancestors tag ≡ Mark trace
at_mark ancestors tag Ins here is = by_names (λ t. role ancestors t ≡ Mark Ins) ("ins" ∷ []) tag is (mark_role (is_open ancestors) (in_mark_props ancestors) Ins _ (mark_is_shut ancestors here) here, tt)
at_mark ancestors tag Del here is = by_names (λ t. role ancestors t ≡ Mark Del) ("del" ∷ []) tag is (mark_role (is_open ancestors) (in_mark_props ancestors) Del _ (mark_is_shut ancestors here) here, tt)
at_mark ancestors tag From here is = by_names (λ t. role ancestors t ≡ Mark From) ("moveFrom" ∷ []) tag is (mark_role (is_open ancestors) (in_mark_props ancestors) From _ (mark_is_shut ancestors here) here, tt)
at_mark ancestors tag To here is = by_names (λ t. role ancestors t ≡ Mark To) ("moveTo" ∷ []) tag is (mark_role (is_open ancestors) (in_mark_props ancestors) To _ (mark_is_shut ancestors here) here, tt)

at_row : (ancestors : List Tag) (tag : Tag) (trace : Trace) → in_row_props ancestors ≡ true → is_any (names_of (Row trace)) tag ≡ true
    → role ancestors tag ≡ Row trace
at_row ancestors tag Ins here is = by_names (λ t. role ancestors t ≡ Row Ins) ("ins" ∷ []) tag is (row_role (is_open ancestors) (in_mark_props ancestors) (in_row_props ancestors) Ins _ (row_is_shut ancestors here) (no_mark ancestors here) here, tt)
at_row ancestors tag Del here is = by_names (λ t. role ancestors t ≡ Row Del) ("del" ∷ []) tag is (row_role (is_open ancestors) (in_mark_props ancestors) (in_row_props ancestors) Del _ (row_is_shut ancestors here) (no_mark ancestors here) here, tt)
at_row ancestors tag From here is = absurd (true≢false (sym is))
at_row ancestors tag To here is = absurd (true≢false (sym is))

at_cell : (ancestors : List Tag) (tag : Tag) (trace : Trace) → in_cell_props ancestors ≡ true → is_any (names_of (Cell trace)) tag ≡ true
    → role ancestors tag ≡ Cell trace
at_cell ancestors tag Ins here is = by_names (λ t. role ancestors t ≡ Cell Ins) ("cellIns" ∷ []) tag is (cell_role (is_open ancestors) (in_mark_props ancestors) (in_row_props ancestors) (in_cell_props ancestors) Ins _ here, tt)
at_cell ancestors tag Del here is = by_names (λ t. role ancestors t ≡ Cell Del) ("cellDel" ∷ []) tag is (cell_role (is_open ancestors) (in_mark_props ancestors) (in_row_props ancestors) (in_cell_props ancestors) Del _ here, tt)
at_cell ancestors tag From here is = absurd (true≢false (sym is))
at_cell ancestors tag To here is = absurd (true≢false (sym is))

at_change : (ancestors : List Tag) (tag : Tag) (prop : Prop) → in_props prop ancestors ≡ true → is_any (change_name prop ∷ []) tag ≡ true
    → role ancestors tag ≡ Change prop
at_change ancestors tag Run here is = by_names (λ t. role ancestors t ≡ Change Run) ("rPrChange" ∷ []) tag is (change_role (is_open ancestors) (in_mark_props ancestors) (in_row_props ancestors) (in_cell_props ancestors) (in_props Run ancestors) Run here, tt)
at_change ancestors tag Para here is = by_names (λ t. role ancestors t ≡ Change Para) ("pPrChange" ∷ []) tag is (change_role (is_open ancestors) (in_mark_props ancestors) (in_row_props ancestors) (in_cell_props ancestors) (in_props Para ancestors) Para here, tt)
at_change ancestors tag Sect here is = by_names (λ t. role ancestors t ≡ Change Sect) ("sectPrChange" ∷ []) tag is (change_role (is_open ancestors) (in_mark_props ancestors) (in_row_props ancestors) (in_cell_props ancestors) (in_props Sect ancestors) Sect here, tt)
at_change ancestors tag Table here is = by_names (λ t. role ancestors t ≡ Change Table) ("tblPrChange" ∷ []) tag is (change_role (is_open ancestors) (in_mark_props ancestors) (in_row_props ancestors) (in_cell_props ancestors) (in_props Table ancestors) Table here, tt)
at_change ancestors tag Except here is = by_names (λ t. role ancestors t ≡ Change Except) ("tblPrExChange" ∷ []) tag is (change_role (is_open ancestors) (in_mark_props ancestors) (in_row_props ancestors) (in_cell_props ancestors) (in_props Except ancestors) Except here, tt)
at_change ancestors tag RowProp here is = by_names (λ t. role ancestors t ≡ Change RowProp) ("trPrChange" ∷ []) tag is (change_role (is_open ancestors) (in_mark_props ancestors) (in_row_props ancestors) (in_cell_props ancestors) (in_props RowProp ancestors) RowProp here, tt)
at_change ancestors tag CellProp here is = by_names (λ t. role ancestors t ≡ Change CellProp) ("tcPrChange" ∷ []) tag is (change_role (is_open ancestors) (in_mark_props ancestors) (in_row_props ancestors) (in_cell_props ancestors) (in_props CellProp ancestors) CellProp here, tt)

-- an element that fits a line has that role
pub role_fits : (ancestors : List Tag) (tag : Tag) (kind : Kind) → fits ancestors tag kind ≡ true → role ancestors tag ≡ kind
role_fits ancestors tag kind fit =
    let both = and_parts (is_any (names_of kind) tag) (stand_in kind ancestors) fit in
    of kind both.0 both.1
  where
    of : (kind : Kind) → is_any (names_of kind) tag ≡ true → stand_in kind ancestors ≡ true → role ancestors tag ≡ kind
    of Plain is here = absurd (true≢false (sym is))
    of (Content trace) is here = at_content ancestors tag trace here is
    of (Mark trace) is here = at_mark ancestors tag trace here is
    of (Row trace) is here = at_row ancestors tag trace here is
    of (Cell trace) is here = at_cell ancestors tag trace here is
    of (Change prop) is here = at_change ancestors tag prop here is
    of Marker is here = absurd (true≢false (sym is))

-- no element fits the lines of two roles
pub one_role : (ancestors : List Tag) (tag : Tag) (kind other : Kind) → fits ancestors tag kind ≡ true → fits ancestors tag other ≡ true → kind ≡ other
one_role ancestors tag kind other fit fits_other = sym (role_fits ancestors tag kind fit) ∙ role_fits ancestors tag other fits_other

-- ---- an element that fits no line has no role

no_trace : (a b c d here : Bool) (kind : Trace → Kind)
    → ((a || false) && here) ≡ false → ((b || false) && here) ≡ false → ((c || false) && here) ≡ false → ((d || false) && here) ≡ false
    → placed here (option_map kind (if a then Some Ins else if b then Some Del else if c then Some From else if d then Some To else None)) ≡ None
no_trace a b c d false kind na nb nc nd = refl
no_trace true b c d true kind na nb nc nd = absurd (true≢false na)
no_trace false true c d true kind na nb nc nd = absurd (true≢false nb)
no_trace false false true d true kind na nb nc nd = absurd (true≢false nc)
no_trace false false false true true kind na nb nc nd = absurd (true≢false nd)
no_trace false false false false true kind na nb nc nd = refl

no_short_trace : (a b here : Bool) (kind : Trace → Kind) → ((a || false) && here) ≡ false → ((b || false) && here) ≡ false
    → placed here (option_map kind (if a then Some Ins else if b then Some Del else None)) ≡ None
no_short_trace a b false kind na nb = refl
no_short_trace true b true kind na nb = absurd (true≢false na)
no_short_trace false true true kind na nb = absurd (true≢false nb)
no_short_trace false false true kind na nb = refl

placed-not : (here : Bool) (kind : Kind) → here ≡ false → placed here (Some kind) ≡ None
placed-not true kind out = absurd (true≢false out)
placed-not false kind out = refl

no_change : (ancestors : List Tag) (a b c d e f g : Bool)
    → ((a || false) && in_props Run ancestors) ≡ false → ((b || false) && in_props Para ancestors) ≡ false
    → ((c || false) && in_props Sect ancestors) ≡ false → ((d || false) && in_props Table ancestors) ≡ false
    → ((e || false) && in_props Except ancestors) ≡ false → ((f || false) && in_props RowProp ancestors) ≡ false
    → ((g || false) && in_props CellProp ancestors) ≡ false
    → change_at ancestors (if a then Some Run else if b then Some Para else if c then Some Sect else if d then Some Table else if e then Some Except else if f then Some RowProp else if g then Some CellProp else None) ≡ None
no_change ancestors true b c d e f g na nb nc nd ne nf ng = placed-not _ _ na
no_change ancestors false true c d e f g na nb nc nd ne nf ng = placed-not _ _ nb
no_change ancestors false false true d e f g na nb nc nd ne nf ng = placed-not _ _ nc
no_change ancestors false false false true e f g na nb nc nd ne nf ng = placed-not _ _ nd
no_change ancestors false false false false true f g na nb nc nd ne nf ng = placed-not _ _ ne
no_change ancestors false false false false false true g na nb nc nd ne nf ng = placed-not _ _ nf
no_change ancestors false false false false false false true na nb nc nd ne nf ng = placed-not _ _ ng
no_change ancestors false false false false false false false na nb nc nd ne nf ng = refl

none_of : (a b c d e : Option Kind) → a ≡ None → b ≡ None → c ≡ None → d ≡ None → e ≡ None → first_role (a ∷ b ∷ c ∷ d ∷ e ∷ []) ≡ Plain
none_of a b c d e na nb nc nd ne = rw (na, nb, nc, nd, ne) refl

-- an element that fits no line has no role
pub no_role : (ancestors : List Tag) (tag : Tag) → ((kind : Kind) → fits ancestors tag kind ≡ false) → role ancestors tag ≡ Plain
no_role ancestors tag unfit =
    none_of _ _ _ _ _
    (no_trace (is "ins" tag) (is "del" tag) (is "moveFrom" tag) (is "moveTo" tag) (is_open ancestors) Content
    (unfit (Content Ins)) (unfit (Content Del)) (unfit (Content From)) (unfit (Content To)))
    (no_trace (is "ins" tag) (is "del" tag) (is "moveFrom" tag) (is "moveTo" tag) (in_mark_props ancestors) Mark
    (unfit (Mark Ins)) (unfit (Mark Del)) (unfit (Mark From)) (unfit (Mark To)))
    (no_short_trace (is "ins" tag) (is "del" tag) (in_row_props ancestors) Row (unfit (Row Ins)) (unfit (Row Del)))
    (no_short_trace (is "cellIns" tag) (is "cellDel" tag) (in_cell_props ancestors) Cell (unfit (Cell Ins)) (unfit (Cell Del)))
    (no_change ancestors (is "rPrChange" tag) (is "pPrChange" tag) (is "sectPrChange" tag) (is "tblPrChange" tag) (is "tblPrExChange" tag)
    (is "trPrChange" tag) (is "tcPrChange" tag)
    (unfit (Change Run)) (unfit (Change Para)) (unfit (Change Sect)) (unfit (Change Table)) (unfit (Change Except)) (unfit (Change RowProp)) (unfit (Change CellProp)))

-- so the role of an element is that of the one line that it fits, or there is no such line and it has none
pub fits_or_plain : (ancestors : List Tag) (tag : Tag) → (fits ancestors tag (role ancestors tag) ≡ true) ⊎ (role ancestors tag ≡ Plain)
fits_or_plain ancestors tag = of (fits ancestors tag (role ancestors tag)) refl
  where
    fits_none : fits ancestors tag (role ancestors tag) ≡ false → (kind : Kind) (found : Bool) → fits ancestors tag kind ≡ found → found ≡ false
    fits_none unfit kind true fit = sym fit ∙ ap (fits ancestors tag) (sym (role_fits ancestors tag kind fit)) ∙ unfit
    fits_none unfit kind false fit = refl

    of : (found : Bool) → fits ancestors tag (role ancestors tag) ≡ found → (fits ancestors tag (role ancestors tag) ≡ true) ⊎ (role ancestors tag ≡ Plain)
    of true fit = inl fit
    of false fit = inr (no_role ancestors tag (λ kind. fits_none fit kind (fits ancestors tag kind) refl))
