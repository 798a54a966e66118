-- Which positions of a story are free of markers.
use Rattle.std.proofs.Common.{◌≡◌, ◌∙◌, refl, ap, sym, ℕ, ◌+◌, List, [], ◌∷◌, Bool, true, false, true≢false, ◌||◌, Option, Some, None, option_map, option_and_then, codes, arith, if◌then◌else◌}
use Rattle.redl_tree.specs.Model.Nodes.{Tag, Nodes, no_nodes, bytes, element}
use Rattle.redl_tree.specs.Roles.Names.{is, is_any}
use Rattle.redl_tree.specs.Roles.Places.{is_open, role, placed, first_role, change_at, in_props, trace_of, is_range_edge, in_mark_props, in_row_props, in_cell_props, row_trace_of, cell_trace_of, prop_of}
use Rattle.redl_tree.specs.Model.Seen.{Spot, spot, Seen, seen_from, seen, root_spots, tags, tags_of}
use Rattle.redl_tree.specs.Revisions.Moves.{from_start, from_end, to_start, to_end, Marking}
use Rattle.redl_tree.specs.Revisions.Markers.{edge_of, marker_of, marking, own_role, mark_end}
use Rattle.redl_tree.specs.declared.kinds.Kind.{Kind}
use Rattle.redl_tree.specs.declared.kinds.Kind.TheVariants.{Content, Mark, Row, Cell, Change}
use Rattle.redl_tree.specs.declared.kinds.Trace.{Trace}
use Rattle.redl_tree.specs.declared.kinds.Trace.TheVariants.{Ins, Del, From, To}
use Rattle.redl_tree.specs.declared.kinds.Prop.{Prop}
use Rattle.redl_tree.proofs.Roles.NameLaws.{is_any-apart}
use Rattle.redl_stamp.specs.Attribute.{attribute_value}
use Rattle.redl_moves.specs.Standing.{IsApart}
use Rattle.redl_index.specs.Markers.Found.{markers_of}
use Rattle.redl_index.specs.Inside.Markers.Free.{Every, AreFreeEnds, IsFree}
use Rattle.redl_index.proofs.EveryLaws.{every-append, every-left, every-right, every-both}
use Rattle.redl_index.proofs.MarkerLaws.Apart.{Free, seen-free, apart-is, apart-above}
use Rattle.redl_index.proofs.MarkerLaws.Rising.{story-between}

-- ---- the ends of the ancestors

above-free : (marks : List Marking) (ancestors : List Spot) (at : ℕ) (nodes : Nodes) → AreFreeEnds marks ancestors →
    Every (λ (x : Seen). IsApart x.own.end marks) (seen_from ancestors at nodes) → Every (λ (x : Seen). AreFreeEnds marks x.ancestors) (seen_from ancestors at nodes)
above-free marks ancestors at no_nodes ends own = tt
above-free marks ancestors at (bytes b rest) ends own = above-free marks ancestors at rest ends own
above-free marks ancestors at (element tag kids rest) ends own =
    let P : Seen → Type 0 = λ x. IsApart x.own.end marks in
    let Q : Seen → Type 0 = λ x. AreFreeEnds marks x.ancestors in
    let inner = seen_from (spot at tag kids ∷ ancestors) (at + 1) kids in
    let outer = seen_from ancestors (at + 2 + tags kids) rest in (
      ends,
      every-append Q inner outer
          (above-free marks (spot at tag kids ∷ ancestors) (at + 1) kids (own.0, ends) (every-left P inner outer own.1))
          (above-free marks ancestors (at + 2 + tags kids) rest ends (every-right P inner outer own.1)),
    )

-- ---- THE FREE POSITIONS of a story

module _ (root : Tag) (kids : Nodes) where
  abbrev all : List Marking
  all = markers_of root kids

  root-end : IsApart (spot 0 root kids).end all
  root-end =
      apart-is (0 + 1 + tags kids) all
      (apart-above (0 + 1 + tags kids) 0 (1 + tags kids) all (story-between attribute_value (root_spots root kids) kids) (omega arith))

  abbrev Own : Seen → Type 0
  Own = Free attribute_value 1 (1 + tags kids) all

  own-free : Every Own (seen root kids)
  own-free = seen-free attribute_value (root_spots root kids) 1 kids

  pub story-free : Every (IsFree all) (seen root kids)
  story-free =
      let End : Seen → Type 0 = λ x. IsApart x.own.end all in
      let Above : Seen → Type 0 = λ x. AreFreeEnds all x.ancestors in
      let ends = every-both Own Own End (seen root kids) (λ x f g. apart-is x.own.end all f.end) own-free own-free in
      every-both Own Above (IsFree all) (seen root kids)
      (λ x f a. record {
        start = λ none. apart-is x.own.start all (f.start none);
        end = apart-is x.own.end all f.end;
        ancestors = a;
      })
      own-free (above-free all (root_spots root kids) 1 kids (root-end, tt) ends)

-- ---- content and marks of paragraphs are no markers

traced : (tag : Tag) (t : Trace) → trace_of tag ≡ Some t → is_any ("ins" ∷ "del" ∷ "moveFrom" ∷ "moveTo" ∷ []) tag ≡ true
traced tag t e = by (is "ins" tag) (is "del" tag) (is "moveFrom" tag) (is "moveTo" tag) e
  where
    by : (a b c d : Bool) → (if a then Some Ins else if b then Some Del else if c then Some From else if d then Some To else None) ≡ Some t →
        (a || (b || (c || (d || false)))) ≡ true
    by true b c d e = refl
    by false true c d e = refl
    by false false true d e = refl
    by false false false true e = refl
    by false false false false e = absurd (cc)

edge-none : (tag : Tag) → is_range_edge tag ≡ false → edge_of tag ≡ None
edge-none tag e = by (is "moveFromRangeStart" tag) (is "moveFromRangeEnd" tag) (is "moveToRangeStart" tag) (is "moveToRangeEnd" tag) e
  where
    by : (a b c d : Bool) → (a || (b || (c || (d || false)))) ≡ false →
        (if a then Some from_start else if b then Some from_end else if c then Some to_start else if d then Some to_end else None) ≡ None
    by true b c d e = absurd (true≢false e)
    by false true c d e = absurd (true≢false e)
    by false false true d e = absurd (true≢false e)
    by false false false true e = absurd (true≢false e)
    by false false false false e = refl

-- an element that says what was done to content is no marker
pub trace-no_marker : (x : Seen) (t : Trace) → trace_of x.own.tag ≡ Some t → marker_of attribute_value x ≡ None
trace-no_marker x t e =
    ap (λ edge. if is_open (tags_of x.ancestors) then option_and_then (λ edge. option_map (marking attribute_value x edge) (attribute_value x.own.tag.tail (codes "id"))) edge else None)
    (edge-none x.own.tag
    (is_any-apart ("ins" ∷ "del" ∷ "moveFrom" ∷ "moveTo" ∷ [])
    ("moveFromRangeStart" ∷ "moveFromRangeEnd" ∷ "moveToRangeStart" ∷ "moveToRangeEnd" ∷ []) x.own.tag (traced x.own.tag t e) refl))
    ∙ none (is_open (tags_of x.ancestors))
  where
    no_mark : Option Marking
    no_mark = None

    none : (b : Bool) → (if b then no_mark else None) ≡ None
    none true = refl
    none false = refl

-- content, or the mark of a paragraph
abbrev is_matter : Kind → Bool
is_matter (Content t) = true
is_matter (Mark t) = true
is_matter _ = false

row-no_matter : (c : Bool) (t : Option Trace) (ks : List (Option Kind)) → is_matter (first_role ks) ≡ false → is_matter (first_role (placed c (option_map Row t) ∷ ks)) ≡ false
row-no_matter false t ks h = h
row-no_matter true None ks h = h
row-no_matter true (Some t) ks h = refl

cell-no_matter : (c : Bool) (t : Option Trace) (ks : List (Option Kind)) → is_matter (first_role ks) ≡ false → is_matter (first_role (placed c (option_map Cell t) ∷ ks)) ≡ false
cell-no_matter false t ks h = h
cell-no_matter true None ks h = h
cell-no_matter true (Some t) ks h = refl

change-no_matter : (ancestors : List Tag) (prop : Option Prop) → is_matter (first_role (change_at ancestors prop ∷ [])) ≡ false
change-no_matter ancestors None = refl
change-no_matter ancestors (Some prop) = by (in_props prop ancestors)
  where
    by : (b : Bool) → is_matter (first_role (placed b (Some (Change prop)) ∷ [])) ≡ false
    by true = refl
    by false = refl

matter-traced : (ancestors : List Tag) (tag : Tag) → is_matter (role ancestors tag) ≡ true → (t : Trace) × (trace_of tag ≡ Some t)
matter-traced ancestors tag e = by (trace_of tag) refl (is_open ancestors) (in_mark_props ancestors) e
  where
    later : List (Option Kind)
    later =
        placed (in_row_props ancestors) (option_map Row (row_trace_of tag)) ∷ placed (in_cell_props ancestors) (option_map Cell (cell_trace_of tag))
        ∷ change_at ancestors (prop_of tag) ∷ []

    none : is_matter (first_role later) ≡ false
    none =
        row-no_matter (in_row_props ancestors) (row_trace_of tag) _
        (cell-no_matter (in_cell_props ancestors) (cell_trace_of tag) _ (change-no_matter ancestors (prop_of tag)))

    by : (o : Option Trace) → trace_of tag ≡ o → (a b : Bool) →
        is_matter (first_role (placed a (option_map Content o) ∷ placed b (option_map Mark o) ∷ later)) ≡ true → (t : Trace) × (trace_of tag ≡ Some t)
    by (Some t) is a b e = (t, is)
    by None is true true e = absurd (true≢false (sym e ∙ none))
    by None is true false e = absurd (true≢false (sym e ∙ none))
    by None is false true e = absurd (true≢false (sym e ∙ none))
    by None is false false e = absurd (true≢false (sym e ∙ none))

module _ (marks : List Marking) (x : Seen) (free : IsFree marks x) where
  own-apart : is_matter (own_role x) ≡ true → IsApart x.own.start marks
  own-apart e = let t = matter-traced (tags_of x.ancestors) x.own.tag e in free.start (trace-no_marker x t.0 t.1)

  -- no marker is where content is
  pub content-apart : (t : Trace) → own_role x ≡ Content t → IsApart x.own.start marks
  content-apart t e = own-apart (ap is_matter e)

  -- nor where the mark of a paragraph is
  pub mark-apart : (t : Trace) → own_role x ≡ Mark t → IsApart (mark_end x.own.start x.ancestors) marks
  mark-apart t e = by x.ancestors free.ancestors
    where
      by : (ancestors : List Spot) → AreFreeEnds marks ancestors → IsApart (mark_end x.own.start ancestors) marks
      by [] a = own-apart (ap is_matter e)
      by (r ∷ []) a = own-apart (ap is_matter e)
      by (r ∷ q ∷ []) a = own-apart (ap is_matter e)
      by (r ∷ q ∷ p ∷ ancestors) a = a.1.1.0
