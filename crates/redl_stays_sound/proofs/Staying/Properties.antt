-- What is kept in properties whose change is rejected stays: no change of properties covers it.
use Rattle.std.proofs.Common.{◌≡◌, List, [], ◌∷◌, Bool, true, false, ◌&&◌, ◌||◌, not, ◌⊎◌, inl, inr, Option, Some, None, is_some, refl, sym, ap, subst, ◌∙◌, true≢false, if◌then◌else◌}
use Rattle.std.proofs.lemmas.Bool.{and_left, and_parts, and_right, false_from_ne_true, or_parts}
use Rattle.redl_laws.proofs.Soundness.AlikeTags.{Like, like_any, own_renamed}
use Rattle.redl_laws.proofs.Soundness.Ancestors.{at_props, blocks_open, change_role}
use Rattle.redl_laws.proofs.Soundness.Walk.{Ground, change_props, content_fits, owner_of, owner_quiet, props_owner, rejected_found}
use Rattle.redl_stays_sound.proofs.Settled.Roles.{plain-here}
use Rattle.redl_stays_sound.proofs.Staying.Below.{deep-below, deep-here, none-deep, plain-not_kept}
use Rattle.redl_stays_sound.proofs.Staying.Elements.{Among, Has, InnerHas, OnPath, inner-has, kept-parts, no-paras}
use Rattle.redl_stays_sound.proofs.Staying.Lists.{HasIf, PiecesHaveIf, alone-has, has-left, has-right, if-only}
use Rattle.redl_stays_sound.proofs.Staying.Names.{cell-name, row-name, trace-name}
use Rattle.redl_stays_sound.specs.Kept.{is_kept}
use Rattle.redl_stays_sound.specs.Staying.{HasKept, HasTag, tags_of}
use Rattle.redl_tree.proofs.Roles.Fits.{Fits, true_false}
use Rattle.redl_tree.proofs.Roles.Named.{by_name}
use Rattle.redl_tree.specs.Decisions.Fates.{fate_of, renamed}
use Rattle.redl_tree.specs.Decisions.Pass.{kept_kids, pass, pieces}
use Rattle.redl_tree.specs.Decisions.Restored.{Rejected, after_change, is_uncovered, present, rejected, rejected_as, restored}
use Rattle.redl_tree.specs.Model.Kids.{has_element, only, without}
use Rattle.redl_tree.specs.Model.Nodes.{Nodes, Tag, bytes, element, no_nodes}
use Rattle.redl_tree.specs.Model.View.{Element}
use Rattle.redl_tree.specs.Roles.Kinds.{is_change, is_leave, is_restore}
use Rattle.redl_tree.specs.Roles.Lists.{in_blocks}
use Rattle.redl_tree.specs.Roles.Names.{is}
use Rattle.redl_tree.specs.Roles.Places.{cell_trace_of, has_run_props, in_cell_props, in_mark_props, in_para_props, in_row_props, is_open, prop_of, role, row_trace_of, trace_of, within}
use Rattle.redl_tree.specs.Rules.Sound.{test_4, test_8}
use Rattle.redl_tree.specs.Rules.Tests.{implies, only_last}
use Rattle.redl_tree.specs.declared.kinds.Kind.{Kind}
use Rattle.redl_tree.specs.declared.kinds.Kind.TheVariants.{Cell, Change, Content, Mark, Marker, Plain, Row}
use Rattle.redl_tree.specs.declared.kinds.Prop.{Prop}
use Rattle.redl_tree.specs.declared.kinds.Prop.TheVariants as props
use Rattle.redl_tree.specs.declared.kinds.Say.{Say}

-- ---- rule 4: there is one change

none-rejected : (says : List Say) (nodes : Nodes) → has_element nodes ≡ false → rejected says nodes ≡ None
none-rejected says no_nodes e = refl
none-rejected says (bytes b rest) e = none-rejected says rest e
none-rejected says (element tag kids rest) e = absurd (true≢false e)

none-among : (tag : Tag) (nodes : Nodes) → has_element nodes ≡ false → Among tag nodes → ⊥
none-among tag no_nodes e h = h
none-among tag (bytes b rest) e h = none-among tag rest e h
none-among tag (element own kids rest) e h = true≢false e

passed-over : (b : Bool) (k : Kind) (kids : Nodes) (later : Option Rejected) → is_change k ≡ false → rejected_as b k kids later ≡ later
passed-over false k kids later e = refl
passed-over true Plain kids later e = refl
passed-over true (Content x) kids later e = refl
passed-over true (Mark x) kids later e = refl
passed-over true (Row x) kids later e = refl
passed-over true (Cell x) kids later e = refl
passed-over true (Change p) kids later e = absurd (true≢false e)
passed-over true Marker kids later e = refl

implied : (a b : Bool) → implies a b ≡ true → a ≡ true → b ≡ true
implied true b h e = h
implied false b h e = absurd (true≢false (sym e))

not-none : (b : Bool) → not b ≡ true → b ≡ false
not-none true e = absurd (true≢false (sym e))
not-none false e = refl

no-second : (says : List Say) (old : List Tag) (nodes : Nodes) → Ground test_8 old nodes → only_last (λ kid. is_change (role old kid)) nodes ≡ true → (tag : Tag)
    → Among tag nodes → is_kept says tag ≡ true → is_change (role old tag) ≡ true → rejected says nodes ≡ None
no-second says old no_nodes g last tag among kept change = refl
no-second says old (bytes b rest) g last tag among kept change = no-second says old rest g last tag among kept change
no-second says old (element own kids rest) g last tag (inl is) kept change =
    let both = and_parts (implies (is_change (role old own)) (not (has_element rest))) (only_last (λ kid. is_change (role old kid)) rest) last in
    let here : is_change (role old own) ≡ true = ap (λ (x : Tag). is_change (role old x)) is ∙ change in
    let left : is_restore (fate_of says own) ≡ false = ap (λ (x : Tag). is_restore (fate_of says x)) is ∙ ap is_restore (kept-parts says tag kept).1 in
    ap (λ b. rejected_as b own.kind kids (rejected says rest)) left
    ∙ none-rejected says rest (not-none (has_element rest) (implied (is_change (role old own)) (not (has_element rest)) both.0 here))
no-second says old (element own kids rest) g last tag (inr later) kept change =
    let both = and_parts (implies (is_change (role old own)) (not (has_element rest))) (only_last (λ kid. is_change (role old kid)) rest) last in
    let other : is_change (role old own) ≡ false =
    false_from_ne_true (is_change (role old own)) (λ h.
    none-among tag rest (not-none (has_element rest) (implied (is_change (role old own)) (not (has_element rest)) both.0 h)) later)
    in
    passed-over (is_restore (fate_of says own)) own.kind kids (rejected says rest) (kind g.0.fits other)
    ∙ no-second says old rest g.2 both.1 tag later kept change
  where
    kind : Fits old own → is_change (role old own) ≡ false → is_change own.kind ≡ false
    kind (inl k) e = ap is_change k ∙ e
    kind (inr m) e = ap is_change m.kind

-- ---- what no change covers

-- no change of these properties covers the kid, and what is there now is not thinned before
record IsUncovered (prop : Prop) (old : List Tag) (own kid : Tag) : Type 0 where
  covered : is_uncovered prop kid ≡ true
  whole : (is "rPr" own && not (in_para_props old)) ≡ false

cell-three : (a b c : Bool) → (a || (b || false)) ≡ true → (a || (b || (c || false))) ≡ true
cell-three true b c e = refl
cell-three false true c e = refl
cell-three false false c e = absurd (true≢false (sym e))

module _ (old : List Tag) (own kid : Tag) where
  mark-kid : (prop : Prop) → is (owner_of prop) own ≡ true → in_mark_props (own ∷ old) ≡ true → is_some (trace_of kid) ≡ true → IsUncovered prop old own kid
  mark-kid prop e mark trace = record { covered = covered prop e; whole = and_right (is "rPr" own) (not (in_para_props old)) (ap not both.1) }
    where
      both : (is "rPr" own ≡ true) × (in_para_props old ≡ true)
      both = and_parts (is "rPr" own) (in_para_props old) mark

      covered : (prop : Prop) → is (owner_of prop) own ≡ true → is_uncovered prop kid ≡ true
      covered props.Run e = trace-name kid trace
      covered props.Para e = absurd (true_false (is "rPr" own) both.0 (by_name (λ x. is "rPr" x ≡ false) "pPr" own e refl))
      covered props.Sect e = absurd (true_false (is "rPr" own) both.0 (by_name (λ x. is "rPr" x ≡ false) "sectPr" own e refl))
      covered props.Table e = absurd (true_false (is "rPr" own) both.0 (by_name (λ x. is "rPr" x ≡ false) "tblPr" own e refl))
      covered props.Except e = absurd (true_false (is "rPr" own) both.0 (by_name (λ x. is "rPr" x ≡ false) "tblPrEx" own e refl))
      covered props.Row e = absurd (true_false (is "rPr" own) both.0 (by_name (λ x. is "rPr" x ≡ false) "trPr" own e refl))
      covered props.Cell e = absurd (true_false (is "rPr" own) both.0 (by_name (λ x. is "rPr" x ≡ false) "tcPr" own e refl))

  row-kid : (prop : Prop) → is (owner_of prop) own ≡ true → in_row_props (own ∷ old) ≡ true → is_some (row_trace_of kid) ≡ true → IsUncovered prop old own kid
  row-kid prop e row trace = record {
    covered = covered prop e;
    whole = and_left (is "rPr" own) (not (in_para_props old)) (by_name (λ x. is "rPr" x ≡ false) "trPr" own named refl);
  }
    where
      named : is "trPr" own ≡ true
      named = (and_parts (is "trPr" own) (within ("tr" ∷ []) old) row).0

      covered : (prop : Prop) → is (owner_of prop) own ≡ true → is_uncovered prop kid ≡ true
      covered props.Run e = absurd (true_false (is "trPr" own) named (by_name (λ x. is "trPr" x ≡ false) "rPr" own e refl))
      covered props.Para e = absurd (true_false (is "trPr" own) named (by_name (λ x. is "trPr" x ≡ false) "pPr" own e refl))
      covered props.Sect e = absurd (true_false (is "trPr" own) named (by_name (λ x. is "trPr" x ≡ false) "sectPr" own e refl))
      covered props.Table e = absurd (true_false (is "trPr" own) named (by_name (λ x. is "trPr" x ≡ false) "tblPr" own e refl))
      covered props.Except e = absurd (true_false (is "trPr" own) named (by_name (λ x. is "trPr" x ≡ false) "tblPrEx" own e refl))
      covered props.Row e = row-name kid trace
      covered props.Cell e = absurd (true_false (is "trPr" own) named (by_name (λ x. is "trPr" x ≡ false) "tcPr" own e refl))

  cell-kid : (prop : Prop) → is (owner_of prop) own ≡ true → in_cell_props (own ∷ old) ≡ true → is_some (cell_trace_of kid) ≡ true → IsUncovered prop old own kid
  cell-kid prop e cell trace = record {
    covered = covered prop e;
    whole = and_left (is "rPr" own) (not (in_para_props old)) (by_name (λ x. is "rPr" x ≡ false) "tcPr" own named refl);
  }
    where
      named : is "tcPr" own ≡ true
      named = (and_parts (is "tcPr" own) (within ("tc" ∷ []) old) cell).0

      covered : (prop : Prop) → is (owner_of prop) own ≡ true → is_uncovered prop kid ≡ true
      covered props.Run e = absurd (true_false (is "tcPr" own) named (by_name (λ x. is "tcPr" x ≡ false) "rPr" own e refl))
      covered props.Para e = absurd (true_false (is "tcPr" own) named (by_name (λ x. is "tcPr" x ≡ false) "pPr" own e refl))
      covered props.Sect e = absurd (true_false (is "tcPr" own) named (by_name (λ x. is "tcPr" x ≡ false) "sectPr" own e refl))
      covered props.Table e = absurd (true_false (is "tcPr" own) named (by_name (λ x. is "tcPr" x ≡ false) "tblPr" own e refl))
      covered props.Except e = absurd (true_false (is "tcPr" own) named (by_name (λ x. is "tcPr" x ≡ false) "tblPrEx" own e refl))
      covered props.Row e = absurd (true_false (is "tcPr" own) named (by_name (λ x. is "tcPr" x ≡ false) "trPr" own e refl))
      covered props.Cell e = cell-three (is "cellIns" kid) (is "cellDel" kid) (is "cellMerge" kid) (cell-name kid trace)

-- a kid of properties that is itself kept
kept-kid : (says : List Say) (prop : Prop) (old : List Tag) (own kid : Tag) → is (owner_of prop) own ≡ true → is_open (own ∷ old) ≡ false → Fits (own ∷ old) kid
    → is_kept says kid ≡ true → (is_change (role (own ∷ old) kid) ≡ true → ⊥) → IsUncovered prop old own kid
kept-kid says prop old own kid e shut (inr marker) kept one = absurd (true≢false (sym marker.open_place ∙ shut))
kept-kid says prop old own kid e shut (inl kind) kept one =
    at (in_mark_props (own ∷ old) && is_some (trace_of kid)) refl (in_row_props (own ∷ old) && is_some (row_trace_of kid)) refl
    (in_cell_props (own ∷ old) && is_some (cell_trace_of kid)) refl
  where
    at : (a : Bool) → (in_mark_props (own ∷ old) && is_some (trace_of kid)) ≡ a → (b : Bool) → (in_row_props (own ∷ old) && is_some (row_trace_of kid)) ≡ b
        → (c : Bool) → (in_cell_props (own ∷ old) && is_some (cell_trace_of kid)) ≡ c → IsUncovered prop old own kid
    at true p b q c r = let both = and_parts (in_mark_props (own ∷ old)) (is_some (trace_of kid)) p in mark-kid old own kid prop e both.0 both.1
    at false p true q c r = let both = and_parts (in_row_props (own ∷ old)) (is_some (row_trace_of kid)) q in row-kid old own kid prop e both.0 both.1
    at false p false q true r = let both = and_parts (in_cell_props (own ∷ old)) (is_some (cell_trace_of kid)) r in cell-kid old own kid prop e both.0 both.1
    at false p false q false r =
        let none : at_props (own ∷ old) (prop_of kid) ≡ false =
        false_from_ne_true (at_props (own ∷ old) (prop_of kid)) (λ h. one (change_role (own ∷ old) kid ∙ h))
        in
        absurd (plain-not_kept says kid (kind ∙ plain-here (own ∷ old) kid (record {
          content = and_left (is_open (own ∷ old)) (is_some (trace_of kid)) shut;
          mark = p;
          row = q;
          cell = r;
          change = none;
        })) kept)

-- a kid of properties that holds one that is kept
holding-kid : (says : List Say) (t : Tag) (prop : Prop) (old : List Tag) (own kid : Tag) (kids : Nodes) (above : List Element) → is (owner_of prop) own ≡ true
    → is_open (own ∷ old) ≡ false → Ground test_8 (kid ∷ own ∷ old) kids → HasKept says above kids t → IsUncovered prop old own kid
holding-kid says t prop old own kid kids above e shut ground kept = at prop e
  where
    none : (has_run_props own ≡ false) → (is "pPr" own ≡ false) → ⊥
    none run para =
        none-deep says above (kid ∷ own ∷ old) kids t
        (deep-below kid (own ∷ old) shut (and_left (has_run_props own) (is_open old) run) (and_left (is "pPr" own) (within ("p" ∷ []) old) para)) ground kept

    in-para : is "pPr" own ≡ true → (b : Bool) → is_uncovered props.Para kid ≡ b → IsUncovered props.Para old own kid
    in-para e true found = record { covered = found; whole = and_left (is "rPr" own) (not (in_para_props old)) (by_name (λ x. is "rPr" x ≡ false) "pPr" own e refl) }
    in-para e false found =
        let first = or_parts (is "rPr" kid) (is "sectPr" kid || false) found in
        let second = or_parts (is "sectPr" kid) false first.1 in
        absurd (none-deep says above (kid ∷ own ∷ old) kids t (deep-here kid (own ∷ old) shut first.0 second.0) ground kept)

    at : (prop : Prop) → is (owner_of prop) own ≡ true → IsUncovered prop old own kid
    at props.Run e = absurd (none (by_name (λ x. has_run_props x ≡ false) "rPr" own e refl) (by_name (λ x. is "pPr" x ≡ false) "rPr" own e refl))
    at props.Para e = in-para e (is_uncovered props.Para kid) refl
    at props.Sect e = absurd (none (by_name (λ x. has_run_props x ≡ false) "sectPr" own e refl) (by_name (λ x. is "pPr" x ≡ false) "sectPr" own e refl))
    at props.Table e = absurd (none (by_name (λ x. has_run_props x ≡ false) "tblPr" own e refl) (by_name (λ x. is "pPr" x ≡ false) "tblPr" own e refl))
    at props.Except e = absurd (none (by_name (λ x. has_run_props x ≡ false) "tblPrEx" own e refl) (by_name (λ x. is "pPr" x ≡ false) "tblPrEx" own e refl))
    at props.Row e = absurd (none (by_name (λ x. has_run_props x ≡ false) "trPr" own e refl) (by_name (λ x. is "pPr" x ≡ false) "trPr" own e refl))
    at props.Cell e = absurd (none (by_name (λ x. has_run_props x ≡ false) "tcPr" own e refl) (by_name (λ x. is "pPr" x ≡ false) "tcPr" own e refl))

-- ---- properties that are restored

uncovered-like : (prop : Prop) (a b : Tag) → Like a b → is_uncovered prop b ≡ is_uncovered prop a
uncovered-like props.Run a b l = like_any ("ins" ∷ "del" ∷ "moveFrom" ∷ "moveTo" ∷ []) a b l refl
uncovered-like props.Para a b l = like_any ("rPr" ∷ "sectPr" ∷ []) a b l refl
uncovered-like props.Sect a b l = like_any ("headerReference" ∷ "footerReference" ∷ []) a b l refl
uncovered-like props.Table a b l = refl
uncovered-like props.Except a b l = refl
uncovered-like props.Row a b l = like_any ("ins" ∷ "del" ∷ []) a b l refl
uncovered-like props.Cell a b l = like_any ("cellIns" ∷ "cellDel" ∷ "cellMerge" ∷ []) a b l refl

restored-has : (t : Tag) (prop : Prop) (current former : Nodes) → HasTag t (only (is_uncovered prop) current) → HasTag t (restored prop current former)
restored-has t props.Run current former h = has-left t (only (is_uncovered props.Run) current) (without (is_uncovered props.Run) former) h
restored-has t props.Para current former h = has-right t (without (is_uncovered props.Para) former) (only (is_uncovered props.Para) current) h
restored-has t props.Sect current former h = has-left t (only (is_uncovered props.Sect) current) (without (is_uncovered props.Sect) former) h
restored-has t props.Table current former h = absurd (none current h)
  where
    none : (xs : Nodes) → HasTag t (only (is_uncovered props.Table) xs) → ⊥
    none no_nodes h = h
    none (bytes b rest) h = none rest h
    none (element own kids rest) h = none rest h
restored-has t props.Except current former h = absurd (none current h)
  where
    none : (xs : Nodes) → HasTag t (only (is_uncovered props.Except) xs) → ⊥
    none no_nodes h = h
    none (bytes b rest) h = none rest h
    none (element own kids rest) h = none rest h
restored-has t props.Row current former h = has-right t (without (is_uncovered props.Row) former) (only (is_uncovered props.Row) current) h
restored-has t props.Cell current former h = has-right t (without (is_uncovered props.Cell) former) (only (is_uncovered props.Cell) current) h

-- the kids of an element that is left
pub made-has : (says : List Say) (t : Tag) (above : List Element) (own : Tag) (kids : Nodes) → Ground test_8 (own ∷ tags_of above) kids
    → test_4 (tags_of above) own kids ≡ true → OnPath says t (record { tag = own; kids = kids } ∷ above) kids
    → InnerHas says t (record { tag = own; kids = kids } ∷ above) kids
    → HasTag t (kept_kids says (tags_of above) own kids (pass says (own ∷ tags_of above) kids))
made-has says t above own kids ground rule_4 path inner = at (rejected says kids) refl
  where
    rejects : (u : Rejected) → rejected says kids ≡ Some u
        → HasTag t (restored u.prop (present (tags_of above) own (pass says (own ∷ tags_of above) kids)) u.former)
    rejects u e =
        let f = rejected_found test_8 says (own ∷ tags_of above) kids u ground e in
        let name = props_owner u.prop own (tags_of above) (change_props (own ∷ tags_of above) f.change u.prop f.role_is) in
        let shut : is_open (own ∷ tags_of above) ≡ false = rw (owner_quiet u.prop own name) refl in
        let blocks : in_blocks (own ∷ tags_of above) ≡ false = false_from_ne_true (in_blocks (own ∷ tags_of above)) (λ b. true_false (is_open (own ∷ tags_of above)) (blocks_open (own ∷ tags_of above) b) shut) in
        let found = uncovered u name shut path.own e in
        let passed = pass says (own ∷ tags_of above) kids in
        let has : HasIf (is_uncovered u.prop) t passed =
        alone-has (is_uncovered u.prop) t false (pieces says (own ∷ tags_of above) kids) (no-paras says t (own ∷ tags_of above) kids blocks) (names u blocks shut found path.has)
        in
        restored-has t u.prop (present (tags_of above) own passed) u.former
        (subst (λ (n : Nodes). HasTag t (only (is_uncovered u.prop) n))
        (sym (ap (λ b. if b then without (is_uncovered props.Run) passed else passed) found.whole)) (if-only (is_uncovered u.prop) t passed has))
      where
        uncovered : (u : Rejected) → is (owner_of u.prop) own ≡ true → is_open (own ∷ tags_of above) ≡ false
            → ((path.tag ≡ t) × (is_kept says path.tag ≡ true)) ⊎ HasKept says (record { tag = path.tag; kids = path.kids } ∷ (record { tag = own; kids = kids } ∷ above)) path.kids t
            → rejected says kids ≡ Some u → IsUncovered u.prop (tags_of above) own path.tag
        uncovered u name shut (inl here) e =
            kept-kid says u.prop (tags_of above) own path.tag name shut path.stand.fits here.1
            (λ change. let none = no-second says (own ∷ tags_of above) kids ground rule_4 path.tag path.among here.1 change in absurd (let wrong : None ≡ Some u = sym none ∙ e in cc))
        uncovered u name shut (inr inside) e =
            holding-kid says t u.prop (tags_of above) own path.tag path.kids (record { tag = path.tag; kids = path.kids } ∷ (record { tag = own; kids = kids } ∷ above)) name shut path.below inside

        names : (u : Rejected) → in_blocks (own ∷ tags_of above) ≡ false → is_open (own ∷ tags_of above) ≡ false → IsUncovered u.prop (tags_of above) own path.tag
            → Has says t (record { tag = own; kids = kids } ∷ above) path.tag (pieces says (own ∷ tags_of above) kids)
            → PiecesHaveIf (is_uncovered u.prop) t (pieces says (own ∷ tags_of above) kids)
        names u blocks shut found (inl h) =
            let both = and_parts (is "p" path.tag && in_blocks (own ∷ tags_of above)) (is_leave (fate_of says path.tag)) h.0 in
            absurd (true_false (in_blocks (own ∷ tags_of above)) (and_parts (is "p" path.tag) (in_blocks (own ∷ tags_of above)) both.0).1 blocks)
        names u blocks shut found (inr (inl h)) = absurd (true_false (is_open (own ∷ tags_of above)) (content_fits (own ∷ tags_of above) path.tag path.stand.fits h.0).0 shut)
        names u blocks shut found (inr (inr h)) =
            h (is_uncovered u.prop) (uncovered-like u.prop path.tag (renamed says (own ∷ tags_of above) path.tag) (own_renamed says (own ∷ tags_of above) path.tag).like ∙ found.covered)

    at : (o : Option Rejected) → rejected says kids ≡ o → HasTag t (after_change (tags_of above) own o (pass says (own ∷ tags_of above) kids))
    at None e = inner-has says t (record { tag = own; kids = kids } ∷ above) kids inner
    at (Some u) e = rejects u e
