-- Where no element is a member of a revision: below members and changes in properties, and in other properties than those of a mark, a row or a cell.
use Rattle.std.proofs.Common.{◌≡◌, List, [], ◌∷◌, Bool, true, false, ◌||◌, not, inl, inr, Option, Some, None, is_some, refl, sym, ap, ◌∙◌, true≢false}
use Rattle.std.proofs.lemmas.Bool.{and_left, and_parts, and_right}
use Rattle.redl_laws.proofs.Soundness.Ancestors.{at_props}
use Rattle.redl_laws.proofs.Soundness.Walk.{Ground}
use Rattle.redl_stays_sound.proofs.Settled.Former.{shut-more}
use Rattle.redl_stays_sound.proofs.Settled.Places.{shut-owner, shut-p, shut-tc, shut-tr}
use Rattle.redl_stays_sound.proofs.Settled.Roles.{plain-here}
use Rattle.redl_stays_sound.specs.Kept.{is_kept}
use Rattle.redl_stays_sound.specs.Staying.{HasKept}
use Rattle.redl_tree.proofs.Roles.Fits.{Fits}
use Rattle.redl_tree.proofs.Roles.Named.{by_name}
use Rattle.redl_tree.specs.Decisions.Fates.{fate_of}
use Rattle.redl_tree.specs.Decisions.Packages.{is_plain}
use Rattle.redl_tree.specs.Model.Nodes.{Nodes, Tag, bytes, element, no_nodes}
use Rattle.redl_tree.specs.Model.View.{Element}
use Rattle.redl_tree.specs.Roles.Kinds.{is_leave}
use Rattle.redl_tree.specs.Roles.Names.{is}
use Rattle.redl_tree.specs.Roles.Places.{cell_trace_of, has_run_props, in_cell_props, in_mark_props, in_props, in_row_props, in_run_owner, in_run_props, is_open, is_quiet, prop_of, row_trace_of, trace_of, within}
use Rattle.redl_tree.specs.Rules.Sound.{test_8}
use Rattle.redl_tree.specs.declared.kinds.Kind.TheVariants.{Plain}
use Rattle.redl_tree.specs.declared.kinds.Prop.{Prop}
use Rattle.redl_tree.specs.declared.kinds.Prop.TheVariants as props
use Rattle.redl_tree.specs.declared.kinds.Say.{Say}

-- ---- places

-- no place of a member, a marker or a change
pub record IsDeep (ancestors : List Tag) : Type 0 where
  pub shut : is_open ancestors ≡ false
  pub owner : in_run_owner ancestors ≡ false
  pub para : within ("pPr" ∷ "p" ∷ []) ancestors ≡ false
  pub mark : in_mark_props ancestors ≡ false
  pub row : in_row_props ancestors ≡ false
  pub cell : in_cell_props ancestors ≡ false
  pub props : (prop : Prop) → in_props prop ancestors ≡ false

shut-tbl : (ancestors : List Tag) → is_open ancestors ≡ false → within ("tbl" ∷ []) ancestors ≡ false
shut-tbl = shut-owner "tbl" (λ t e. by_name (λ t. is_quiet t ≡ false) "tbl" t e refl)

shut-body : (ancestors : List Tag) → is_open ancestors ≡ false → within ("body" ∷ []) ancestors ≡ false
shut-body = shut-owner "body" (λ t e. by_name (λ t. is_quiet t ≡ false) "body" t e refl)

none-or : (a b : Bool) → a ≡ false → b ≡ false → (a || b) ≡ false
none-or a b p q = rw (p, q) refl

-- the places of changes, each by its parts
props-none : (tag : Tag) (ancestors : List Tag) → in_run_props (tag ∷ ancestors) ≡ false → in_mark_props (tag ∷ ancestors) ≡ false
    → within ("pPr" ∷ "p" ∷ []) (tag ∷ ancestors) ≡ false
    → within ("sectPr" ∷ "body" ∷ []) (tag ∷ ancestors) ≡ false → within ("sectPr" ∷ "pPr" ∷ "p" ∷ []) (tag ∷ ancestors) ≡ false
    → within ("tblPr" ∷ "tbl" ∷ []) (tag ∷ ancestors) ≡ false → within ("tblPrEx" ∷ "tr" ∷ []) (tag ∷ ancestors) ≡ false
    → in_row_props (tag ∷ ancestors) ≡ false → in_cell_props (tag ∷ ancestors) ≡ false → (prop : Prop) → in_props prop (tag ∷ ancestors) ≡ false
props-none tag ancestors run mark para body sect table except row cell props.Run = none-or (in_run_props (tag ∷ ancestors)) (in_mark_props (tag ∷ ancestors)) run mark
props-none tag ancestors run mark para body sect table except row cell props.Para = para
props-none tag ancestors run mark para body sect table except row cell props.Sect =
    none-or (within ("sectPr" ∷ "body" ∷ []) (tag ∷ ancestors)) (within ("sectPr" ∷ "pPr" ∷ "p" ∷ []) (tag ∷ ancestors)) body sect
props-none tag ancestors run mark para body sect table except row cell props.Table = table
props-none tag ancestors run mark para body sect table except row cell props.Except = except
props-none tag ancestors run mark para body sect table except row cell props.Row = row
props-none tag ancestors run mark para body sect table except row cell props.Cell = cell

-- below a list that is in properties, whose elements are neither runs' properties nor those of a mark
pub deep-below : (tag : Tag) (ancestors : List Tag) → is_open ancestors ≡ false → in_run_owner ancestors ≡ false → within ("pPr" ∷ "p" ∷ []) ancestors ≡ false
    → IsDeep (tag ∷ ancestors)
deep-below tag ancestors shut owner para =
    let mark = and_right (is "rPr" tag) (within ("pPr" ∷ "p" ∷ []) ancestors) para in
    let in_para = and_right (is "pPr" tag) (within ("p" ∷ []) ancestors) (shut-p ancestors shut) in
    let row = and_right (is "trPr" tag) (within ("tr" ∷ []) ancestors) (shut-tr ancestors shut) in
    let cell = and_right (is "tcPr" tag) (within ("tc" ∷ []) ancestors) (shut-tc ancestors shut) in
    record {
      shut = shut-more tag ancestors shut;
      owner = and_right (has_run_props tag) (is_open ancestors) shut;
      para = in_para;
      mark = mark;
      row = row;
      cell = cell;
      props = props-none tag ancestors (and_right (is "rPr" tag) (in_run_owner ancestors) owner) mark in_para
          (and_right (is "sectPr" tag) (within ("body" ∷ []) ancestors) (shut-body ancestors shut))
          (and_right (is "sectPr" tag) (within ("pPr" ∷ "p" ∷ []) ancestors) para)
          (and_right (is "tblPr" tag) (within ("tbl" ∷ []) ancestors) (shut-tbl ancestors shut))
          (and_right (is "tblPrEx" tag) (within ("tr" ∷ []) ancestors) (shut-tr ancestors shut)) row cell;
    }

-- in an element in properties that is itself no `rPr` and no `sectPr`
pub deep-here : (tag : Tag) (ancestors : List Tag) → is_open ancestors ≡ false → is "rPr" tag ≡ false → is "sectPr" tag ≡ false → IsDeep (tag ∷ ancestors)
deep-here tag ancestors shut rPr sectPr =
    let mark = and_left (is "rPr" tag) (within ("pPr" ∷ "p" ∷ []) ancestors) rPr in
    let para = and_right (is "pPr" tag) (within ("p" ∷ []) ancestors) (shut-p ancestors shut) in
    let row = and_right (is "trPr" tag) (within ("tr" ∷ []) ancestors) (shut-tr ancestors shut) in
    let cell = and_right (is "tcPr" tag) (within ("tc" ∷ []) ancestors) (shut-tc ancestors shut) in
    record {
      shut = shut-more tag ancestors shut;
      owner = and_right (has_run_props tag) (is_open ancestors) shut;
      para = para;
      mark = mark;
      row = row;
      cell = cell;
      props = props-none tag ancestors (and_left (is "rPr" tag) (in_run_owner ancestors) rPr) mark para
          (and_left (is "sectPr" tag) (within ("body" ∷ []) ancestors) sectPr)
          (and_left (is "sectPr" tag) (within ("pPr" ∷ "p" ∷ []) ancestors) sectPr)
          (and_right (is "tblPr" tag) (within ("tbl" ∷ []) ancestors) (shut-tbl ancestors shut))
          (and_right (is "tblPrEx" tag) (within ("tr" ∷ []) ancestors) (shut-tr ancestors shut)) row cell;
    }

-- in a `pPr` that is no paragraph's
pub deep-pPr : (tag : Tag) (ancestors : List Tag) → is "pPr" tag ≡ true → within ("p" ∷ []) ancestors ≡ false → IsDeep (tag ∷ ancestors)
deep-pPr tag ancestors e no_p =
    let mark = and_left (is "rPr" tag) (within ("pPr" ∷ "p" ∷ []) ancestors) (by_name (λ t. is "rPr" t ≡ false) "pPr" tag e refl) in
    let para = and_right (is "pPr" tag) (within ("p" ∷ []) ancestors) no_p in
    let row = and_left (is "trPr" tag) (within ("tr" ∷ []) ancestors) (by_name (λ t. is "trPr" t ≡ false) "pPr" tag e refl) in
    let cell = and_left (is "tcPr" tag) (within ("tc" ∷ []) ancestors) (by_name (λ t. is "tcPr" t ≡ false) "pPr" tag e refl) in
    let sectPr = by_name (λ t. is "sectPr" t ≡ false) "pPr" tag e refl in
    record {
      shut = rw (by_name (λ t. is_quiet t ≡ true) "pPr" tag e refl) refl;
      owner = and_left (has_run_props tag) (is_open ancestors) (by_name (λ t. has_run_props t ≡ false) "pPr" tag e refl);
      para = para;
      mark = mark;
      row = row;
      cell = cell;
      props = props-none tag ancestors (and_left (is "rPr" tag) (in_run_owner ancestors) (by_name (λ t. is "rPr" t ≡ false) "pPr" tag e refl)) mark para
          (and_left (is "sectPr" tag) (within ("body" ∷ []) ancestors) sectPr)
          (and_left (is "sectPr" tag) (within ("pPr" ∷ "p" ∷ []) ancestors) sectPr)
          (and_left (is "tblPr" tag) (within ("tbl" ∷ []) ancestors) (by_name (λ t. is "tblPr" t ≡ false) "pPr" tag e refl))
          (and_left (is "tblPrEx" tag) (within ("tr" ∷ []) ancestors) (by_name (λ t. is "tblPrEx" t ≡ false) "pPr" tag e refl)) row cell;
    }

-- ---- no member there

at-none : (ancestors : List Tag) → IsDeep ancestors → (p : Option Prop) → at_props ancestors p ≡ false
at-none ancestors deep None = refl
at-none ancestors deep (Some prop) = deep.props prop

pub deep-plain : (ancestors : List Tag) (tag : Tag) → IsDeep ancestors → Fits ancestors tag → tag.kind ≡ Plain
deep-plain ancestors tag deep (inl kind) = kind ∙ plain-here ancestors tag (record {
  content = and_left (is_open ancestors) (is_some (trace_of tag)) deep.shut;
  mark = and_left (in_mark_props ancestors) (is_some (trace_of tag)) deep.mark;
  row = and_left (in_row_props ancestors) (is_some (row_trace_of tag)) deep.row;
  cell = and_left (in_cell_props ancestors) (is_some (cell_trace_of tag)) deep.cell;
  change = at-none ancestors deep (prop_of tag);
})
deep-plain ancestors tag deep (inr marker) = absurd (true≢false (sym marker.open_place ∙ deep.shut))

pub plain-not_kept : (says : List Say) (tag : Tag) → tag.kind ≡ Plain → is_kept says tag ≡ true → ⊥
plain-not_kept says tag plain kept = true≢false (sym (and_parts (not (is_plain tag.kind)) (is_leave (fate_of says tag)) kept).0 ∙ ap (λ k. not (is_plain k)) plain)

pub none-deep : (says : List Say) (above : List Element) (ancestors : List Tag) (nodes : Nodes) (t : Tag) → IsDeep ancestors → Ground test_8 ancestors nodes
    → HasKept says above nodes t → ⊥
none-deep says above ancestors no_nodes t deep g h = h
none-deep says above ancestors (bytes b rest) t deep g h = none-deep says above ancestors rest t deep g h
none-deep says above ancestors (element own kids rest) t deep g (inl (stand, inl kept)) = plain-not_kept says own (deep-plain ancestors own deep g.0.fits) kept.1
none-deep says above ancestors (element own kids rest) t deep g (inl (stand, inr below)) =
    none-deep says (record { tag = own; kids = kids } ∷ above) (own ∷ ancestors) kids t (deep-below own ancestors deep.shut deep.owner deep.para) g.1 below
none-deep says above ancestors (element own kids rest) t deep g (inr later) = none-deep says above ancestors rest t deep g.2 later
