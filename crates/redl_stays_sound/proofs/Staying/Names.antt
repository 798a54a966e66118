-- The names of members and markers.
use Rattle.std.proofs.Common.{◌≡◌, List, [], ◌∷◌, Bool, true, false, ◌||◌, inl, inr, is_some, refl, sym, ap, ◌∙◌, true≢false, Some, None, if◌then◌else◌}
use Rattle.redl_laws.proofs.Soundness.Ancestors.{at_props, by_prop}
use Rattle.redl_stays_sound.proofs.Settled.Roles.{plain-here}
use Rattle.redl_stays_sound.proofs.Staying.Lists.{is_beside}
use Rattle.redl_tree.proofs.Roles.Fits.{Fits}
use Rattle.redl_tree.proofs.Roles.Named.{by_names, by_trace}
use Rattle.redl_tree.specs.Decisions.Fates.{is_revived, live_name, renamed}
use Rattle.redl_tree.specs.Decisions.Packages.{is_plain}
use Rattle.redl_tree.specs.Model.Nodes.{Tag}
use Rattle.redl_tree.specs.Roles.Names.{is, is_any}
use Rattle.redl_tree.specs.Roles.Places.{cell_trace_of, in_cell_props, in_mark_props, in_row_props, is_open, prop_of, row_trace_of, trace_of}
use Rattle.redl_tree.specs.declared.kinds.Kind.TheVariants.{Plain}
use Rattle.redl_tree.specs.declared.kinds.Say.{Say}
use Rattle.redl_tree.specs.declared.kinds.Trace.TheVariants.{Del, From, Ins, To}
use Rattle.std.proofs.lemmas.Bool.{and_right}

-- a name that no pass changes, of no paragraph and of no properties
abbrev pub IsMember : Tag → Type 0
IsMember tag = (live_name tag ≡ tag) × (is_beside tag ≡ true) × (is "p" tag ≡ false) × (is "rPr" tag ≡ false) × (is "sectPr" tag ≡ false)

cell-some : (a b : Bool) → is_some (if a then Some Ins else if b then Some Del else None) ≡ (a || (b || false))
cell-some true b = refl
cell-some false true = refl
cell-some false false = refl

pub cell-name : (tag : Tag) → is_some (cell_trace_of tag) ≡ true → is_any ("cellIns" ∷ "cellDel" ∷ []) tag ≡ true
cell-name tag e = sym (cell-some (is "cellIns" tag) (is "cellDel" tag)) ∙ e

pub row-name : (tag : Tag) → is_some (row_trace_of tag) ≡ true → is_any ("ins" ∷ "del" ∷ []) tag ≡ true
row-name tag e = sym (cell-some (is "ins" tag) (is "del" tag)) ∙ e

trace-some : (a b c d : Bool) → is_some (if a then Some Ins else if b then Some Del else if c then Some From else if d then Some To else None) ≡ (a || (b || (c || (d || false))))
trace-some true b c d = refl
trace-some false true c d = refl
trace-some false false true d = refl
trace-some false false false true = refl
trace-some false false false false = refl

pub trace-name : (tag : Tag) → is_some (trace_of tag) ≡ true → is_any ("ins" ∷ "del" ∷ "moveFrom" ∷ "moveTo" ∷ []) tag ≡ true
trace-name tag e = sym (trace-some (is "ins" tag) (is "del" tag) (is "moveFrom" tag) (is "moveTo" tag)) ∙ e

row-none : (tag : Tag) → is_some (trace_of tag) ≡ false → is_some (row_trace_of tag) ≡ false
row-none tag e = at (is "ins" tag) (is "del" tag) (is "moveFrom" tag) (is "moveTo" tag) e
  where
    at : (a b c d : Bool) → is_some (if a then Some Ins else if b then Some Del else if c then Some From else if d then Some To else None) ≡ false
        → is_some (if a then Some Ins else if b then Some Del else None) ≡ false
    at true b c d e = absurd (true≢false e)
    at false true c d e = absurd (true≢false e)
    at false false c d e = refl

no-props : (ancestors : List Tag) (tag : Tag) → is_some (prop_of tag) ≡ false → at_props ancestors (prop_of tag) ≡ false
no-props ancestors tag e = at (prop_of tag) e
  where
    at : (p : _) → is_some p ≡ false → at_props ancestors p ≡ false
    at None e = refl
    at (Some prop) e = absurd (true≢false e)

-- each member and each marker has such a name
pub member-name : (ancestors : List Tag) (tag : Tag) → Fits ancestors tag → is_plain tag.kind ≡ false → IsMember tag
member-name ancestors tag (inr marker) some =
    by_names IsMember ("moveFromRangeStart" ∷ "moveFromRangeEnd" ∷ "moveToRangeStart" ∷ "moveToRangeEnd" ∷ []) tag marker.edge
    ((refl, refl, refl, refl, refl), ((refl, refl, refl, refl, refl), ((refl, refl, refl, refl, refl), ((refl, refl, refl, refl, refl), tt))))
member-name ancestors tag (inl kind) some = at (is_some (trace_of tag)) refl (is_some (cell_trace_of tag)) refl (is_some (prop_of tag)) refl
  where
    at : (a : Bool) → is_some (trace_of tag) ≡ a → (b : Bool) → is_some (cell_trace_of tag) ≡ b → (c : Bool) → is_some (prop_of tag) ≡ c → IsMember tag
    at true e b f c g =
        by_trace IsMember tag e ((refl, refl, refl, refl, refl), ((refl, refl, refl, refl, refl), ((refl, refl, refl, refl, refl), ((refl, refl, refl, refl, refl), tt))))
    at false e true f c g =
        by_names IsMember ("cellIns" ∷ "cellDel" ∷ []) tag (cell-name tag f) ((refl, refl, refl, refl, refl), ((refl, refl, refl, refl, refl), tt))
    at false e false f true g =
        by_prop IsMember tag g (
          (refl, refl, refl, refl, refl),
          (
            (refl, refl, refl, refl, refl),
            (
              (refl, refl, refl, refl, refl),
              (
                (refl, refl, refl, refl, refl),
                ((refl, refl, refl, refl, refl), ((refl, refl, refl, refl, refl), ((refl, refl, refl, refl, refl), tt))),
              ),
            ),
          ),
        )
    at false e false f false g =
        let plain : tag.kind ≡ Plain = kind ∙ plain-here ancestors tag (record {
          content = and_right (is_open ancestors) (is_some (trace_of tag)) e;
          mark = and_right (in_mark_props ancestors) (is_some (trace_of tag)) e;
          row = and_right (in_row_props ancestors) (is_some (row_trace_of tag)) (row-none tag e);
          cell = and_right (in_cell_props ancestors) (is_some (cell_trace_of tag)) f;
          change = no-props ancestors tag g;
        }) in
        absurd (true≢false (sym (ap is_plain plain) ∙ some))

-- such a name stays
pub same-name : (says : List Say) (ancestors : List Tag) (tag : Tag) → live_name tag ≡ tag → renamed says ancestors tag ≡ tag
same-name says ancestors tag e = at (is_revived says ancestors)
  where
    at : (b : Bool) → (if b then live_name tag else tag) ≡ tag
    at true = e
    at false = refl
