-- The markers, the moves and the revisions of one block of the sample.
use Rattle.std.proofs.Common.{◌≡◌, ◌⊎◌, inl, inr, ℕ, ◌+◌, Bool, true, false, ◌&&◌, List, [], ◌∷◌, ◌++◌, Option, Some, None, is_some, codes, refl, ap, ◌∙◌, cond, if◌then◌else◌}
use Rattle.std.proofs.lemmas.Bool.{eq-eqb}
use Rattle.std.specs.List.{filter, filter_map}
use Rattle.std.specs.Prelude.{find}
use Rattle.redl_sound.proofs.Sampled.Blocks.{Form, Plain, Insertion, Deletion, Mark, Both, Properties, Table, Move, id, by, named, shape_of}
use Rattle.redl_sound.proofs.Sampled.Outside.{body_tag, document_tag}
use Rattle.redl_sound.proofs.Sampled.Own.{all_own, own_revisions, over, over_seen, by_role}
use Rattle.redl_sound.proofs.Sampled.Parts.{found_alone}
use Rattle.redl_sound.proofs.Sampled.Shapes.{nodes_of, tag_with, tail_of, end, words, empty, full}
use Rattle.redl_tree.specs.Model.Nodes.{Tag, Nodes, no_nodes, bytes, element, Empty, End}
use Rattle.redl_tree.specs.Model.Seen.{Spot, Seen, spot, seen_one, seen_from, tags_of}
use Rattle.redl_tree.specs.Revisions.Markers.{Value, marker_of, move_of_marker, move_of_member, own_role, either}
use Rattle.redl_tree.specs.Revisions.Moves.{Edge, from_start, from_end, to_start, to_end, Marking, Pair, pair_at, is_of_pair, is_open_at, latest}
use Rattle.redl_tree.specs.Revisions.Numbers.{Membership, in_none, in_move, membership, Numbering, number_of_move, counted, counted_move, revision_of, numbering_after}
use Rattle.redl_tree.specs.Roles.Places.{is_open, is_range_edge}
use Rattle.redl_tree.specs.Rules.Sound.{is_marker}
use Rattle.redl_tree.specs.declared.kinds.Kind.{Kind}
use Rattle.redl_tree.specs.declared.kinds.Kind.TheVariants.{Content, Marker}
use Rattle.redl_tree.specs.declared.kinds.Kind.TheVariants as kind
use Rattle.redl_tree.specs.declared.kinds.Trace.TheVariants.{From, To}

-- the nodes of a block of this form
abbrev pub block_of : Form → List ℕ → Nodes
block_of form digits = nodes_of digits (shape_of form) no_nodes

-- the ancestors of a block: the body and the document, wherever they are
abbrev pub outside : ℕ → Nodes → ℕ → Nodes → List Spot
outside at kids other all = spot at body_tag kids ∷ spot other document_tag all ∷ []

-- ---- what the attributes of markers say

pub record HasFields (value : Value) (digits : List ℕ) : Type 0 where
  pub start_id : value (tail_of digits named) (codes "id") ≡ Some digits
  pub start_name : value (tail_of digits named) (codes "name") ≡ Some (109 ∷ digits)
  pub end_id : value (tail_of digits (id ∷ [])) (codes "id") ≡ Some digits
  pub end_name : value (tail_of digits (id ∷ [])) (codes "name") ≡ None

-- ---- markers

-- the positions in the two paragraphs of a move, whose first tag has this one
abbrev pub second : ℕ → ℕ
second at = at + 2 + 10

abbrev pub start_at : ℕ → ℕ
start_at at = at + 1

abbrev pub content_at : ℕ → ℕ
content_at at = at + 1 + 2 + 0

abbrev pub end_at : ℕ → ℕ
end_at at = at + 1 + 2 + 0 + 2 + 4

abbrev pub start_mark : Edge → List ℕ → ℕ → Marking
start_mark edge digits at = record { edge = edge; id = digits; name = Some (109 ∷ digits); at = start_at at; loose = false }

abbrev pub end_mark : Edge → List ℕ → ℕ → Marking
end_mark edge digits at = record { edge = edge; id = digits; name = None; at = end_at at; loose = false }

-- the markers of a block whose first tag has this position
abbrev pub marks_of : Form → List ℕ → ℕ → List Marking
marks_of Move digits at =
    start_mark from_start digits at ∷ end_mark from_end digits at ∷ start_mark to_start digits (second at) ∷ end_mark to_end digits (second at) ∷ []
marks_of _ digits at = []

-- the move of such a block
abbrev pub move_with : List ℕ → ℕ → Pair
move_with digits at = record {
  source = record { start = start_mark from_start digits at; end = end_mark from_end digits at };
  target = record { start = start_mark to_start digits (second at); end = end_mark to_end digits (second at) };
}

abbrev pub moves_of : Form → List ℕ → ℕ → List Pair
moves_of Move digits at = move_with digits at ∷ []
moves_of _ digits at = []

pub block_marks : (value : Value) (form : Form) (digits : List ℕ) → HasFields value digits → (x y at : ℕ) (kids all : Nodes)
    → filter_map (marker_of value) (seen_from (outside x kids y all) at (block_of form digits)) ≡ marks_of form digits at
block_marks value Plain digits has x y at kids all = refl
block_marks value Insertion digits has x y at kids all = refl
block_marks value Deletion digits has x y at kids all = refl
block_marks value Mark digits has x y at kids all = refl
block_marks value Both digits has x y at kids all = refl
block_marks value Properties digits has x y at kids all = refl
block_marks value Table digits has x y at kids all = refl
block_marks value Move digits has x y at kids all = rw (has.start_id, has.start_name, has.end_id, has.end_name) refl

-- ---- revisions of blocks without a move

abbrev pub revisions_in : Form → ℕ
revisions_in Plain = 0
revisions_in Insertion = 1
revisions_in Deletion = 1
revisions_in Mark = 1
revisions_in Both = 2
revisions_in Properties = 1
revisions_in Table = 2
revisions_in Move = 1

abbrev pub is_move : Form → Bool
is_move Move = true
is_move _ = false

pub block_own : (form : Form) (digits : List ℕ) → is_move form ≡ false
    → (all_own (body_tag ∷ document_tag ∷ []) (block_of form digits) ≡ true) × (own_revisions (body_tag ∷ document_tag ∷ []) (block_of form digits) ≡ revisions_in form)
block_own Plain digits e = (refl, refl)
block_own Insertion digits e = (refl, refl)
block_own Deletion digits e = (refl, refl)
block_own Mark digits e = (refl, refl)
block_own Both digits e = (refl, refl)
block_own Properties digits e = (refl, refl)
block_own Table digits e = (refl, refl)
block_own Move digits e = absurd (cc e)

-- ---- the revision of a block with a move

-- the elements of one of its paragraphs, by their names
abbrev kids_of_half : List ℕ → List ℕ → List ℕ → List ℕ → Nodes
kids_of_half digits start content end_ =
    nodes_of digits (empty start named (full content (by (codes "Cy")) (full (codes "r") [] (full (codes "t") [] (words (codes "move ") end) end) end) (empty end_ (id ∷ []) end))) no_nodes

abbrev text_of_half : List ℕ → Nodes
text_of_half digits = bytes (codes "move " ++ digits) no_nodes

abbrev run_of_half : List ℕ → Nodes
run_of_half digits = element (tag_with (codes "t") [] (End [])) (text_of_half digits) no_nodes

abbrev content_of_half : List ℕ → Nodes
content_of_half digits = element (tag_with (codes "r") [] (End [])) (run_of_half digits) no_nodes

abbrev paragraph_tag : Tag
paragraph_tag = tag_with (codes "p") [] (End [])

abbrev content_tag : List ℕ → List ℕ → Tag
content_tag digits content = tag_with content (tail_of digits (by (codes "Cy"))) (End [])

-- with one more revision, which is the move whose source starts at this position
abbrev pub with_move : ℕ → Numbering → Numbering
with_move start so_far = record { next = so_far.next + 1; moves = record { start = start; number = so_far.next } ∷ so_far.moves }

-- only the move of the block passes these tests: one of its markers has a position, or its source or target is open there
pub record IsAlone (moves : List Pair) (digits : List ℕ) (at : ℕ) : Type 0 where
  pub from_begins : filter (is_of_pair (start_at at)) moves ≡ move_with digits at ∷ []
  pub from_ends : filter (is_of_pair (end_at at)) moves ≡ move_with digits at ∷ []
  pub to_begins : filter (is_of_pair (start_at (second at))) moves ≡ move_with digits at ∷ []
  pub to_ends : filter (is_of_pair (end_at (second at))) moves ≡ move_with digits at ∷ []
  pub source : filter (λ (pair : Pair). is_open_at (content_at at) pair.source) moves ≡ move_with digits at ∷ []
  pub target : filter (λ (pair : Pair). is_open_at (content_at (second at)) pair.target) moves ≡ move_with digits at ∷ []

same_found : (f g : Pair → Bool) (pairs : List Pair) → ((pair : Pair) → f pair ≡ g pair) → find f pairs ≡ find g pairs
same_found f g [] h = refl
same_found f g (pair ∷ pairs) h = ap (λ b. cond b (Some pair) (find f pairs)) (h pair) ∙ ap (λ o. cond (g pair) (Some pair) o) (same_found f g pairs h)

all_true : (o b h p : Bool) → o ≡ true → b ≡ true → h ≡ true → (((o && b) && h) && p) ≡ p
all_true o b h p e f g = rw (e, f, g) refl

module _ (value : Value) (moves : List Pair) (digits : List ℕ) (x y : ℕ) (kids all : Nodes) where
  abbrev around : List Spot
  around = outside x kids y all

  abbrev in_paragraph : ℕ → Nodes → List Spot
  in_paragraph at inner = spot at paragraph_tag inner ∷ around

  abbrev in_content : ℕ → Nodes → List ℕ → List Spot
  in_content at inner content = spot (content_at at) (content_tag digits content) (content_of_half digits) ∷ in_paragraph at inner

  -- an element of no revision, and one of the move whose source starts at this position
  abbrev IsApart : Seen → Type 0
  IsApart seen = revision_of value moves seen ≡ in_none

  abbrev IsOfMove : ℕ → Seen → Type 0
  IsOfMove start seen = revision_of value moves seen ≡ in_move start

  abbrev AreQuiet : ℕ → List Seen → Type 0
  AreQuiet start [] = Unit {0}
  AreQuiet start (seen ∷ more) = (IsApart seen ⊎ IsOfMove start seen) × AreQuiet start more

  -- the number of the move is known
  quiet : (start number : ℕ) (so_far : Numbering) (list : List Seen) → number_of_move so_far.moves start ≡ Some number → AreQuiet start list → over value moves list so_far ≡ so_far
  quiet start number so_far [] known all_quiet = refl
  quiet start number so_far (seen ∷ more) known (inl apart, later_) =
      ap (λ (m : Membership). over value moves more (counted m so_far)) apart ∙ quiet start number so_far more known later_
  quiet start number so_far (seen ∷ more) known (inr moved, later_) =
      ap (λ (m : Membership). over value moves more (counted m so_far)) moved
      ∙ ap (λ (n : Option ℕ). over value moves more (counted_move start n so_far)) known
      ∙ quiet start number so_far more known later_

  known_now : (start : ℕ) (so_far : Numbering) → number_of_move (with_move start so_far).moves start ≡ Some so_far.next
  known_now start so_far = ap (λ b. if b then Some so_far.next else number_of_move so_far.moves start) (eq-eqb start start refl)

  -- its first member or marker comes after others that are in no revision
  pub numbers_move : (start : ℕ) (so_far : Numbering) (first second_ : Seen) (more : List Seen) → number_of_move so_far.moves start ≡ None
      → IsApart first → IsOfMove start second_ → AreQuiet start more → over value moves (first ∷ second_ ∷ more) so_far ≡ with_move start so_far
  numbers_move start so_far first second_ more new apart moved all_quiet =
      ap (λ (m : Membership). over value moves (second_ ∷ more) (counted m so_far)) apart
      ∙ ap (λ (m : Membership). over value moves more (counted m so_far)) moved
      ∙ ap (λ (n : Option ℕ). over value moves more (counted_move start n so_far)) new
      ∙ quiet start so_far.next (with_move start so_far) more (known_now start so_far) all_quiet

  -- ---- what the elements are

  plain_apart : (seen : Seen) → is_range_edge seen.own.tag ≡ false → own_role seen ≡ kind.Plain → IsApart seen
  plain_apart seen e role = by_role value moves seen e ∙ ap (λ (k : Kind). membership k (move_of_member moves k seen)) role

  marker_of_move : (seen : Seen) (pair : Pair) → move_of_marker value moves seen ≡ Some pair → IsOfMove pair.source.start.at seen
  marker_of_move seen pair e = ap (λ (m : Option Pair). membership (if is_some m then Marker else own_role seen) (either m (move_of_member moves (own_role seen) seen))) e

  moved_from : (seen : Seen) (pair : Pair) → is_range_edge seen.own.tag ≡ false → own_role seen ≡ Content From → pair_at (λ p. p.source) seen.own.start moves ≡ Some pair
      → IsOfMove pair.source.start.at seen
  moved_from seen pair e role found =
      by_role value moves seen e ∙ ap (λ (k : Kind). membership k (move_of_member moves k seen)) role ∙ ap (membership (Content From)) found

  moved_to : (seen : Seen) (pair : Pair) → is_range_edge seen.own.tag ≡ false → own_role seen ≡ Content To → pair_at (λ p. p.target) seen.own.start moves ≡ Some pair
      → IsOfMove pair.source.start.at seen
  moved_to seen pair e role found =
      by_role value moves seen e ∙ ap (λ (k : Kind). membership k (move_of_member moves k seen)) role ∙ ap (membership (Content To)) found

  -- a marker is of the move of which one marker has its position
  marker_found : (seen : Seen) (pair : Pair) → is_open (tags_of seen.ancestors) ≡ true → is_range_edge seen.own.tag ≡ true → is_some (value seen.own.tag.tail (codes "id")) ≡ true
      → filter (is_of_pair seen.own.start) moves ≡ pair ∷ [] → move_of_marker value moves seen ≡ Some pair
  marker_found seen pair o b h alone =
      same_found (λ other. is_marker (λ tail. is_some (value tail (codes "id"))) (tags_of seen.ancestors) seen.own.tag && is_of_pair seen.own.start other) (is_of_pair seen.own.start) moves
      (λ other. all_true (is_open (tags_of seen.ancestors)) (is_range_edge seen.own.tag) (is_some (value seen.own.tag.tail (codes "id"))) (is_of_pair seen.own.start other) o b h)
      ∙ found_alone (is_of_pair seen.own.start) moves pair alone

  -- ---- the elements of one paragraph

  abbrev paragraph_seen : ℕ → Nodes → Seen
  paragraph_seen at inner = seen_one around at paragraph_tag inner

  abbrev start_seen : ℕ → Nodes → List ℕ → Seen
  start_seen at inner start = seen_one (in_paragraph at inner) (start_at at) (tag_with start (tail_of digits named) Empty) no_nodes

  abbrev content_seen : ℕ → Nodes → List ℕ → Seen
  content_seen at inner content = seen_one (in_paragraph at inner) (content_at at) (content_tag digits content) (content_of_half digits)

  abbrev run_seen : ℕ → Nodes → List ℕ → Seen
  run_seen at inner content = seen_one (in_content at inner content) (content_at at + 1) (tag_with (codes "r") [] (End [])) (run_of_half digits)

  abbrev text_seen : ℕ → Nodes → List ℕ → Seen
  text_seen at inner content =
      seen_one (spot (content_at at + 1) (tag_with (codes "r") [] (End [])) (run_of_half digits) ∷ in_content at inner content) (content_at at + 1 + 1)
      (tag_with (codes "t") [] (End [])) (text_of_half digits)

  abbrev end_seen : ℕ → Nodes → List ℕ → Seen
  end_seen at inner end_ = seen_one (in_paragraph at inner) (end_at at) (tag_with end_ (tail_of digits (id ∷ [])) Empty) no_nodes

  abbrev from_kids : Nodes
  from_kids = kids_of_half digits (codes "moveFromRangeStart") (codes "moveFrom") (codes "moveFromRangeEnd")

  abbrev to_kids : Nodes
  to_kids = kids_of_half digits (codes "moveToRangeStart") (codes "moveTo") (codes "moveToRangeEnd")

  abbrev later_seen : ℕ → List Seen
  later_seen at =
      content_seen at from_kids (codes "moveFrom") ∷ run_seen at from_kids (codes "moveFrom") ∷ text_seen at from_kids (codes "moveFrom")
      ∷ end_seen at from_kids (codes "moveFromRangeEnd") ∷ paragraph_seen (second at) to_kids ∷ start_seen (second at) to_kids (codes "moveToRangeStart")
      ∷ content_seen (second at) to_kids (codes "moveTo") ∷ run_seen (second at) to_kids (codes "moveTo") ∷ text_seen (second at) to_kids (codes "moveTo")
      ∷ end_seen (second at) to_kids (codes "moveToRangeEnd") ∷ []

  module _ (has : HasFields value digits) (at : ℕ) (alone : IsAlone moves digits at) where
    start_has_id : is_some (value (tail_of digits named) (codes "id")) ≡ true
    start_has_id = ap is_some has.start_id

    end_has_id : is_some (value (tail_of digits (id ∷ [])) (codes "id")) ≡ true
    end_has_id = ap is_some has.end_id

    begins : IsOfMove (start_at at) (start_seen at from_kids (codes "moveFromRangeStart"))
    begins = marker_of_move (start_seen at from_kids (codes "moveFromRangeStart")) (move_with digits at)
        (marker_found (start_seen at from_kids (codes "moveFromRangeStart")) (move_with digits at) refl refl start_has_id alone.from_begins)

    from_content : IsOfMove (start_at at) (content_seen at from_kids (codes "moveFrom"))
    from_content = moved_from (content_seen at from_kids (codes "moveFrom")) (move_with digits at) refl refl (ap (latest (λ (p : Pair). p.source)) alone.source)

    from_end_is : IsOfMove (start_at at) (end_seen at from_kids (codes "moveFromRangeEnd"))
    from_end_is = marker_of_move (end_seen at from_kids (codes "moveFromRangeEnd")) (move_with digits at)
        (marker_found (end_seen at from_kids (codes "moveFromRangeEnd")) (move_with digits at) refl refl end_has_id alone.from_ends)

    to_begins_is : IsOfMove (start_at at) (start_seen (second at) to_kids (codes "moveToRangeStart"))
    to_begins_is = marker_of_move (start_seen (second at) to_kids (codes "moveToRangeStart")) (move_with digits at)
        (marker_found (start_seen (second at) to_kids (codes "moveToRangeStart")) (move_with digits at) refl refl start_has_id alone.to_begins)

    to_content : IsOfMove (start_at at) (content_seen (second at) to_kids (codes "moveTo"))
    to_content = moved_to (content_seen (second at) to_kids (codes "moveTo")) (move_with digits at) refl refl (ap (latest (λ (p : Pair). p.target)) alone.target)

    to_end_is : IsOfMove (start_at at) (end_seen (second at) to_kids (codes "moveToRangeEnd"))
    to_end_is = marker_of_move (end_seen (second at) to_kids (codes "moveToRangeEnd")) (move_with digits at)
        (marker_found (end_seen (second at) to_kids (codes "moveToRangeEnd")) (move_with digits at) refl refl end_has_id alone.to_ends)

    all_quiet : AreQuiet (start_at at) (later_seen at)
    all_quiet = (
      inr from_content,
      (
        inl (plain_apart (run_seen at from_kids (codes "moveFrom")) refl refl),
        (
          inl (plain_apart (text_seen at from_kids (codes "moveFrom")) refl refl),
          (
            inr from_end_is,
            (
              inl (plain_apart (paragraph_seen (second at) to_kids) refl refl),
              (
                inr to_begins_is,
                (
                  inr to_content,
                  (
                    inl (plain_apart (run_seen (second at) to_kids (codes "moveTo")) refl refl),
                    (
                      inl (plain_apart (text_seen (second at) to_kids (codes "moveTo")) refl refl),
                      (inr to_end_is, tt),
                    ),
                  ),
                ),
              ),
            ),
          ),
        ),
      ),
    )

    -- a block with a move has one revision
    pub block_moved : (so_far : Numbering) → number_of_move so_far.moves (start_at at) ≡ None
        → numbering_after value moves around at so_far (block_of Move digits) ≡ with_move (start_at at) so_far
    block_moved so_far new =
        over_seen value moves around at so_far (block_of Move digits)
        ∙ numbers_move (start_at at) so_far (paragraph_seen at from_kids) (start_seen at from_kids (codes "moveFromRangeStart")) (later_seen at) new
        (plain_apart (paragraph_seen at from_kids) refl refl) begins all_quiet
