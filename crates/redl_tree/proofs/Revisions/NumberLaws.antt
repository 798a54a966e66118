-- Laws of a numbered package. It has the text and the stories of the original, it keeps the same rules, and numbering it
-- again changes nothing: markers, moves, roles and positions don't depend on labels.
use Rattle.std.proofs.Common.{◌≡◌, ℕ, ◌+◌, List, [], ◌∷◌, ◌++◌, map, filter_map, find, Bool, ◌&&◌, ◌||◌, not, Option, Some, None, is_some, option_map, option_and_then, refl, sym, ap, ◌∙◌, codes, if◌then◌else◌}
use Rattle.std.specs.List.{list_any, list_all}
use Rattle.std.proofs.lemmas.List.{map-append}
use Rattle.redl_tree.specs.Model.Nodes.{Tag, Nodes, no_nodes, bytes, element}
use Rattle.redl_tree.specs.Revisions.Labels.{unlabelled_tag, unlabelled}
use Rattle.redl_tree.specs.Model.Text.{text}
use Rattle.redl_tree.specs.Roles.Names.{is}
use Rattle.redl_tree.specs.Model.Kids.{some_element, kids_of_all}
use Rattle.redl_tree.specs.Roles.Places.{is_open, trace_of, row_trace_of, cell_trace_of, role}
use Rattle.redl_tree.specs.Roles.Lists.{into, place, in_rows, in_cells}
use Rattle.redl_tree.specs.Model.View.{Element}
use Rattle.redl_tree.specs.Decisions.Packages.{stories, changed_stories}
use Rattle.redl_tree.specs.Rules.Tests.{Test, everywhere}
use Rattle.redl_tree.specs.Rules.Sound.{is_marker, holds, tests, first_broken, broken, is_sound}
use Rattle.redl_tree.specs.Model.Seen.{tags, Spot, spot, Seen, seen_one, seen_from, root_spots, seen, tags_of}
use Rattle.redl_tree.specs.Revisions.Moves.{Marking, Pair, pairs, is_of_pair}
use Rattle.redl_tree.specs.Revisions.Markers.{Value, edge_of, is_row_revision, is_cell_revision, is_revised, is_reached, is_in_grid, is_own, leaves_grid, any_leaves_grid, is_astray, is_loose, marker_of, moves_among, own_role, mark_end, move_at, move_of_member, move_of_marker, either, move_of, whole_role}
use Rattle.redl_tree.specs.Revisions.Numbers.{membership, Numbering, counted, number_for, revision_of, numbering_after, labelled_tag, labelled, start_with, labelled_story, next_after_story, number_rule, numbered_package_by, IsIndexed}
use Rattle.redl_tree.specs.declared.kinds.Kind.{Kind}
use Rattle.redl_tree.specs.declared.kinds.Kind.TheVariants.{Plain, Content, Mark, Row, Cell, Change, Marker}
use Rattle.redl_tree.proofs.Decisions.StoryLaws.{unlabelled-changed, changed_in-again, stories-changed, changed-roots}
use Rattle.redl_tree.proofs.Revisions.LabelLaws.{bare, text-unlabelled, open-bare, role-bare, place-bare, in_rows-bare, in_cells-bare, into-bare, some-bare, kids_of_all-bare, everywhere-bare, marker-bare, Blind, AreBlind, tests_are_blind}

-- Positions

tags-bare : (nodes : Nodes) → tags (unlabelled nodes) ≡ tags nodes
tags-bare no_nodes = refl
tags-bare (bytes b rest) = tags-bare rest
tags-bare (element tag kids rest) = rw (tags-bare kids, tags-bare rest) refl

-- the same element without the labels of its tag and of its kids
abbrev pub bare_spot : Spot → Spot
bare_spot s = record { tag = unlabelled_tag s.tag; kids = unlabelled s.kids; start = s.start; end = s.end }

abbrev pub bare_spots : List Spot → List Spot
bare_spots spots = map bare_spot spots

-- an element as it is seen in its story, without labels
abbrev pub bare_seen : Seen → Seen
bare_seen s = record { own = bare_spot s.own; ancestors = bare_spots s.ancestors }

spot-bare : (at : ℕ) (tag : Tag) (kids : Nodes) → spot at (unlabelled_tag tag) (unlabelled kids) ≡ bare_spot (spot at tag kids)
spot-bare at tag kids = ap (λ n. record { tag = unlabelled_tag tag; kids = unlabelled kids; start = at; end = at + 1 + n }) (tags-bare kids)

seen_one-bare : (ancestors : List Spot) (at : ℕ) (tag : Tag) (kids : Nodes) → seen_one (bare_spots ancestors) at (unlabelled_tag tag) (unlabelled kids) ≡ bare_seen (seen_one ancestors at tag kids)
seen_one-bare ancestors at tag kids = ap (λ s. record { own = s; ancestors = bare_spots ancestors }) (spot-bare at tag kids)

seen_from-bare : (ancestors : List Spot) (at : ℕ) (nodes : Nodes) → seen_from (bare_spots ancestors) at (unlabelled nodes) ≡ map bare_seen (seen_from ancestors at nodes)
seen_from-bare ancestors at no_nodes = refl
seen_from-bare ancestors at (bytes b rest) = seen_from-bare ancestors at rest
seen_from-bare ancestors at (element tag kids rest) =
    ap (λ s. s ∷ (seen_from (spot at (unlabelled_tag tag) (unlabelled kids) ∷ bare_spots ancestors) (at + 1) (unlabelled kids) ++ seen_from (bare_spots ancestors) (at + 2 + tags (unlabelled kids)) (unlabelled rest)))
    (seen_one-bare ancestors at tag kids)
    ∙ ap (λ s. bare_seen (seen_one ancestors at tag kids) ∷ (seen_from (s ∷ bare_spots ancestors) (at + 1) (unlabelled kids) ++ seen_from (bare_spots ancestors) (at + 2 + tags (unlabelled kids)) (unlabelled rest)))
    (spot-bare at tag kids)
    ∙ ap (λ n. bare_seen (seen_one ancestors at tag kids) ∷ (seen_from (bare_spots (spot at tag kids ∷ ancestors)) (at + 1) (unlabelled kids) ++ seen_from (bare_spots ancestors) (at + 2 + n) (unlabelled rest)))
    (tags-bare kids)
    ∙ ap (λ xs. bare_seen (seen_one ancestors at tag kids) ∷ (xs ++ seen_from (bare_spots ancestors) (at + 2 + tags kids) (unlabelled rest)))
    (seen_from-bare (spot at tag kids ∷ ancestors) (at + 1) kids)
    ∙ ap (λ xs. bare_seen (seen_one ancestors at tag kids) ∷ (map bare_seen (seen_from (spot at tag kids ∷ ancestors) (at + 1) kids) ++ xs))
    (seen_from-bare ancestors (at + 2 + tags kids) rest)
    ∙ ap (λ xs. bare_seen (seen_one ancestors at tag kids) ∷ xs)
    (sym (map-append bare_seen (seen_from (spot at tag kids ∷ ancestors) (at + 1) kids) (seen_from ancestors (at + 2 + tags kids) rest)))

tags_of-bare : (ancestors : List Spot) → tags_of (bare_spots ancestors) ≡ bare (tags_of ancestors)
tags_of-bare [] = refl
tags_of-bare (s ∷ ancestors) = ap (λ ts. unlabelled_tag s.tag ∷ ts) (tags_of-bare ancestors)

root_spots-bare : (root : Tag) (kids : Nodes) → root_spots (unlabelled_tag root) (unlabelled kids) ≡ bare_spots (root_spots root kids)
root_spots-bare root kids = ap (λ s. s ∷ []) (spot-bare 0 root kids)

-- a story without labels has the same elements in the same places
pub seen-bare : (root : Tag) (kids : Nodes) → seen (unlabelled_tag root) (unlabelled kids) ≡ map bare_seen (seen root kids)
seen-bare root kids = ap (λ ancestors. seen_from ancestors 1 (unlabelled kids)) (root_spots-bare root kids) ∙ seen_from-bare (root_spots root kids) 1 kids

-- Markers

row_revision-bare : (kids : Nodes) → is_row_revision (unlabelled kids) ≡ is_row_revision kids
row_revision-bare kids =
    ap (some_element (λ tag. is_some (row_trace_of tag))) (kids_of_all-bare "trPr" kids)
    ∙ some-bare (λ tag. is_some (row_trace_of tag)) (λ tag. is_some (row_trace_of tag)) (λ tag. refl) (kids_of_all "trPr" kids)

cell_revision-bare : (kids : Nodes) → is_cell_revision (unlabelled kids) ≡ is_cell_revision kids
cell_revision-bare kids =
    ap (some_element (λ tag. is_some (cell_trace_of tag))) (kids_of_all-bare "tcPr" kids)
    ∙ some-bare (λ tag. is_some (cell_trace_of tag)) (λ tag. is_some (cell_trace_of tag)) (λ tag. refl) (kids_of_all "tcPr" kids)

revised-bare : (s : Spot) → is_revised (bare_spot s) ≡ is_revised s
revised-bare s =
    ap (λ b. is_some (trace_of s.tag) || (is "tr" s.tag && b) || (is "tc" s.tag && is_cell_revision (unlabelled s.kids))) (row_revision-bare s.kids)
    ∙ ap (λ b. is_some (trace_of s.tag) || (is "tr" s.tag && is_row_revision s.kids) || (is "tc" s.tag && b)) (cell_revision-bare s.kids)

any_revised-bare : (ancestors : List Spot) → list_any is_revised (bare_spots ancestors) ≡ list_any is_revised ancestors
any_revised-bare [] = refl
any_revised-bare (s ∷ ancestors) =
    ap (λ b. b || list_any is_revised (bare_spots ancestors)) (revised-bare s) ∙ ap (λ b. is_revised s || b) (any_revised-bare ancestors)

own-bare : (ancestors : List Tag) (tag : Tag) → is_own (bare ancestors) (unlabelled_tag tag) ≡ is_own ancestors tag
own-bare ancestors tag =
    ap (λ b. (b && is "tr" tag) || (in_cells (bare ancestors) && is "tc" tag)) (in_rows-bare ancestors)
    ∙ ap (λ b. (in_rows ancestors && is "tr" tag) || (b && is "tc" tag)) (in_cells-bare ancestors)

leaves_grid-bare : (ancestors : List Tag) (tag : Tag) → leaves_grid (bare ancestors) (unlabelled_tag tag) ≡ leaves_grid ancestors tag
leaves_grid-bare ancestors tag =
    ap (λ here. is_in_grid here && not (is_own (bare ancestors) (unlabelled_tag tag)) && not (is_reached (into here.reach (unlabelled_tag tag)))) (place-bare ancestors)
    ∙ ap (λ b. is_in_grid (place ancestors) && not b && not (is_reached (into (place ancestors).reach (unlabelled_tag tag)))) (own-bare ancestors tag)
    ∙ ap (λ r. is_in_grid (place ancestors) && not (is_own ancestors tag) && not (is_reached r)) (into-bare (place ancestors).reach tag)

any_leaves_grid-bare : (ancestors : List Tag) → any_leaves_grid (bare ancestors) ≡ any_leaves_grid ancestors
any_leaves_grid-bare [] = refl
any_leaves_grid-bare (tag ∷ ancestors) =
    ap (λ b. b || any_leaves_grid (bare ancestors)) (leaves_grid-bare ancestors tag) ∙ ap (λ b. leaves_grid ancestors tag || b) (any_leaves_grid-bare ancestors)

astray-bare : (ancestors : List Tag) → is_astray (bare ancestors) ≡ is_astray ancestors
astray-bare ancestors =
    ap (λ here. is_in_grid here || any_leaves_grid (bare ancestors)) (place-bare ancestors)
    ∙ ap (λ b. is_in_grid (place ancestors) || b) (any_leaves_grid-bare ancestors)

loose-bare : (ancestors : List Spot) → is_loose (bare_spots ancestors) ≡ is_loose ancestors
loose-bare ancestors =
    ap (λ b. b || is_astray (tags_of (bare_spots ancestors))) (any_revised-bare ancestors)
    ∙ ap (λ b. list_any is_revised ancestors || b) (ap is_astray (tags_of-bare ancestors) ∙ astray-bare (tags_of ancestors))

spots_open : (ancestors : List Spot) → is_open (tags_of (bare_spots ancestors)) ≡ is_open (tags_of ancestors)
spots_open ancestors = ap is_open (tags_of-bare ancestors) ∙ open-bare (tags_of ancestors)

-- the marker that an element is in an open place, where it is loose or not
abbrev marker_if : Value → Seen → Bool → Option Marking
marker_if value s loose =
    option_and_then
    (λ edge. option_map (λ id. record { edge = edge; id = id; name = value s.own.tag.tail (codes "name"); at = s.own.start; loose = loose })
    (value s.own.tag.tail (codes "id"))) (edge_of s.own.tag)

-- an element is the same marker without labels
pub marker_of-bare : (value : Value) (s : Seen) → marker_of value (bare_seen s) ≡ marker_of value s
marker_of-bare value s =
    ap (λ b. if b then marker_if value s (is_loose (bare_spots s.ancestors)) else None) (spots_open s.ancestors)
    ∙ ap (λ l. if is_open (tags_of s.ancestors) then marker_if value s l else None) (loose-bare s.ancestors)

-- a story has the same markers without labels
pub markers-bare : (value : Value) (xs : List Seen) → filter_map (marker_of value) (map bare_seen xs) ≡ filter_map (marker_of value) xs
markers-bare value [] = refl
markers-bare value (x ∷ xs) = rw (marker_of-bare value x, markers-bare value xs) refl

moves-bare : (value : Value) (root : Tag) (kids : Nodes) → moves_among value (seen (unlabelled_tag root) (unlabelled kids)) ≡ moves_among value (seen root kids)
moves-bare value root kids = ap (moves_among value) (seen-bare root kids) ∙ ap pairs (markers-bare value (seen root kids))

-- Roles and revisions

own_role-bare : (s : Seen) → own_role (bare_seen s) ≡ own_role s
own_role-bare s = ap (λ ancestors. role ancestors (unlabelled_tag s.own.tag)) (tags_of-bare s.ancestors) ∙ role-bare (tags_of s.ancestors) s.own.tag

move_of_marker-bare : (value : Value) (moves : List Pair) (s : Seen) → move_of_marker value moves (bare_seen s) ≡ move_of_marker value moves s
move_of_marker-bare value moves s =
    ap (λ b. find (λ pair. b && is_of_pair s.own.start pair) moves)
    (ap (λ ancestors. is_marker (λ tail. is_some (value tail (codes "id"))) ancestors (unlabelled_tag s.own.tag)) (tags_of-bare s.ancestors)
    ∙ marker-bare (λ tail. is_some (value tail (codes "id"))) (tags_of s.ancestors) s.own.tag)

mark_end-bare : (start : ℕ) (ancestors : List Spot) → mark_end start (bare_spots ancestors) ≡ mark_end start ancestors
mark_end-bare start [] = refl
mark_end-bare start (x ∷ []) = refl
mark_end-bare start (x ∷ y ∷ []) = refl
mark_end-bare start (x ∷ y ∷ z ∷ ancestors) = refl

move_of_member-bare : (moves : List Pair) (kind : Kind) (s : Seen) → move_of_member moves kind (bare_seen s) ≡ move_of_member moves kind s
move_of_member-bare moves (Mark trace) s = ap (move_at moves trace) (mark_end-bare s.own.start s.ancestors)
move_of_member-bare moves (Content trace) s = refl
move_of_member-bare moves Plain s = refl
move_of_member-bare moves (Row trace) s = refl
move_of_member-bare moves (Cell trace) s = refl
move_of_member-bare moves (Change prop) s = refl
move_of_member-bare moves Marker s = refl

-- an element belongs to the same move without labels
pub move_of-bare : (value : Value) (moves : List Pair) (s : Seen) → move_of value moves (bare_seen s) ≡ move_of value moves s
move_of-bare value moves s =
    ap (λ m. either m (move_of_member moves (own_role (bare_seen s)) (bare_seen s))) (move_of_marker-bare value moves s)
    ∙ ap (either (move_of_marker value moves s)) (ap (λ kind. move_of_member moves kind (bare_seen s)) (own_role-bare s) ∙ move_of_member-bare moves (own_role s) s)

-- an element has the same role without labels, markers of moves included
pub whole_role-bare : (value : Value) (moves : List Pair) (s : Seen) → whole_role value moves (bare_seen s) ≡ whole_role value moves s
whole_role-bare value moves s =
    ap (λ m. if is_some m then Marker else own_role (bare_seen s)) (move_of_marker-bare value moves s)
    ∙ ap (λ kind. if is_some (move_of_marker value moves s) then Marker else kind) (own_role-bare s)

revision_of-bare : (value : Value) (moves : List Pair) (s : Seen) → revision_of value moves (bare_seen s) ≡ revision_of value moves s
revision_of-bare value moves s =
    ap (λ kind. membership kind (move_of value moves (bare_seen s))) (whole_role-bare value moves s)
    ∙ ap (membership (whole_role value moves s)) (move_of-bare value moves s)

-- Numbers

module _ (value : Value) (moves : List Pair) where
  -- how far the numbering is behind an element's start tag
  abbrev begun : List Spot → ℕ → Numbering → Tag → Nodes → Numbering
  begun ancestors at so_far tag kids = counted (revision_of value moves (seen_one ancestors at tag kids)) so_far

  begun-bare : (ancestors : List Spot) (at : ℕ) (so_far : Numbering) (tag : Tag) (kids : Nodes) → begun (bare_spots ancestors) at so_far (unlabelled_tag tag) (unlabelled kids) ≡ begun ancestors at so_far tag kids
  begun-bare ancestors at so_far tag kids =
      ap (λ r. counted r so_far) (ap (revision_of value moves) (seen_one-bare ancestors at tag kids) ∙ revision_of-bare value moves (seen_one ancestors at tag kids))

  kids-bare : (ancestors : List Spot) (at : ℕ) (so_far : Numbering) (tag : Tag) (kids : Nodes) →
      numbering_after value moves (bare_spots (spot at tag kids ∷ ancestors)) (at + 1) (begun ancestors at so_far tag kids) (unlabelled kids)
      ≡ numbering_after value moves (spot at tag kids ∷ ancestors) (at + 1) (begun ancestors at so_far tag kids) kids →
      numbering_after value moves (spot at (unlabelled_tag tag) (unlabelled kids) ∷ bare_spots ancestors) (at + 1) (begun (bare_spots ancestors) at so_far (unlabelled_tag tag) (unlabelled kids)) (unlabelled kids)
      ≡ numbering_after value moves (spot at tag kids ∷ ancestors) (at + 1) (begun ancestors at so_far tag kids) kids
  kids-bare ancestors at so_far tag kids ih =
      ap (λ s. numbering_after value moves (s ∷ bare_spots ancestors) (at + 1) (begun (bare_spots ancestors) at so_far (unlabelled_tag tag) (unlabelled kids)) (unlabelled kids)) (spot-bare at tag kids)
      ∙ ap (λ x. numbering_after value moves (bare_spots (spot at tag kids ∷ ancestors)) (at + 1) x (unlabelled kids)) (begun-bare ancestors at so_far tag kids)
      ∙ ih

  after-bare : (ancestors : List Spot) (at : ℕ) (so_far : Numbering) (nodes : Nodes) → numbering_after value moves (bare_spots ancestors) at so_far (unlabelled nodes) ≡ numbering_after value moves ancestors at so_far nodes
  after-bare ancestors at so_far no_nodes = refl
  after-bare ancestors at so_far (bytes b rest) = after-bare ancestors at so_far rest
  after-bare ancestors at so_far (element tag kids rest) =
      ap (λ n. numbering_after value moves (bare_spots ancestors) (at + 2 + n)
      (numbering_after value moves (spot at (unlabelled_tag tag) (unlabelled kids) ∷ bare_spots ancestors) (at + 1) (begun (bare_spots ancestors) at so_far (unlabelled_tag tag) (unlabelled kids)) (unlabelled kids))
      (unlabelled rest)) (tags-bare kids)
      ∙ ap (λ x. numbering_after value moves (bare_spots ancestors) (at + 2 + tags kids) x (unlabelled rest))
      (kids-bare ancestors at so_far tag kids (after-bare (spot at tag kids ∷ ancestors) (at + 1) (begun ancestors at so_far tag kids) kids))
      ∙ after-bare ancestors (at + 2 + tags kids) (numbering_after value moves (spot at tag kids ∷ ancestors) (at + 1) (begun ancestors at so_far tag kids) kids) rest

  labelled_tag-bare : (so_far : Numbering) (ancestors : List Spot) (at : ℕ) (tag : Tag) (kids : Nodes) →
      labelled_tag value moves so_far (seen_one (bare_spots ancestors) at (unlabelled_tag tag) (unlabelled kids)) ≡ labelled_tag value moves so_far (seen_one ancestors at tag kids)
  labelled_tag-bare so_far ancestors at tag kids =
      let s = seen_one ancestors at tag kids in
      ap (labelled_tag value moves so_far) (seen_one-bare ancestors at tag kids)
      ∙ ap (λ kind. record tag { kind = kind; rev = number_for (revision_of value moves (bare_seen s)) so_far }) (whole_role-bare value moves s)
      ∙ ap (λ r. record tag { kind = whole_role value moves s; rev = number_for r so_far }) (revision_of-bare value moves s)

  -- labels are replaced
  labelled-bare : (ancestors : List Spot) (at : ℕ) (so_far : Numbering) (nodes : Nodes) → labelled value moves (bare_spots ancestors) at so_far (unlabelled nodes) ≡ labelled value moves ancestors at so_far nodes
  labelled-bare ancestors at so_far no_nodes = refl
  labelled-bare ancestors at so_far (bytes b rest) = ap (bytes b) (labelled-bare ancestors at so_far rest)
  labelled-bare ancestors at so_far (element tag kids rest) =
      let ancestors' = bare_spots ancestors in
      let tag' = unlabelled_tag tag in
      let kids' = unlabelled kids in
      let inner = spot at tag kids ∷ ancestors in
      let inner' = spot at tag' kids' ∷ ancestors' in
      let first = begun ancestors at so_far tag kids in
      let first' = begun ancestors' at so_far tag' kids' in
      let later' = numbering_after value moves inner' (at + 1) first' kids' in
      ap (λ t. element t (labelled value moves inner' (at + 1) first' kids') (labelled value moves ancestors' (at + 2 + tags kids') later' (unlabelled rest)))
      (labelled_tag-bare so_far ancestors at tag kids)
      ∙ ap (λ xs. element (labelled_tag value moves so_far (seen_one ancestors at tag kids)) xs (labelled value moves ancestors' (at + 2 + tags kids') later' (unlabelled rest)))
      (ap (λ s. labelled value moves (s ∷ ancestors') (at + 1) first' kids') (spot-bare at tag kids)
      ∙ ap (λ x. labelled value moves (bare_spots inner) (at + 1) x kids') (begun-bare ancestors at so_far tag kids)
      ∙ labelled-bare inner (at + 1) first kids)
      ∙ ap (element (labelled_tag value moves so_far (seen_one ancestors at tag kids)) (labelled value moves inner (at + 1) first kids))
      (ap (λ n. labelled value moves ancestors' (at + 2 + n) later' (unlabelled rest)) (tags-bare kids)
      ∙ ap (λ x. labelled value moves ancestors' (at + 2 + tags kids) x (unlabelled rest)) (kids-bare ancestors at so_far tag kids (after-bare inner (at + 1) first kids))
      ∙ labelled-bare ancestors (at + 2 + tags kids) (numbering_after value moves inner (at + 1) first kids) rest)

  unlabelled-labelled : (ancestors : List Spot) (at : ℕ) (so_far : Numbering) (nodes : Nodes) → unlabelled (labelled value moves ancestors at so_far nodes) ≡ unlabelled nodes
  unlabelled-labelled ancestors at so_far no_nodes = refl
  unlabelled-labelled ancestors at so_far (bytes b rest) = ap (bytes b) (unlabelled-labelled ancestors at so_far rest)
  unlabelled-labelled ancestors at so_far (element tag kids rest) =
      ap (λ xs. element (unlabelled_tag tag) xs (unlabelled (labelled value moves ancestors (at + 2 + tags kids) (numbering_after value moves (spot at tag kids ∷ ancestors) (at + 1) (begun ancestors at so_far tag kids) kids) rest)))
      (unlabelled-labelled (spot at tag kids ∷ ancestors) (at + 1) (begun ancestors at so_far tag kids) kids)
      ∙ ap (element (unlabelled_tag tag) (unlabelled kids))
      (unlabelled-labelled ancestors (at + 2 + tags kids) (numbering_after value moves (spot at tag kids ∷ ancestors) (at + 1) (begun ancestors at so_far tag kids) kids) rest)

-- Stories

module _ (value : Value) (next : ℕ) (root : Tag) where
  -- a label changes nothing of a story but labels
  pub unlabelled-story : (kids : Nodes) → unlabelled (labelled_story value next root kids) ≡ unlabelled kids
  unlabelled-story kids = unlabelled-labelled value (moves_among value (seen root kids)) (root_spots root kids) 1 (start_with next) kids

  -- what is labelled, and the numbers, depend on no label
  story-bare : (kids : Nodes) → labelled_story value next (unlabelled_tag root) (unlabelled kids) ≡ labelled_story value next root kids
  story-bare kids =
      ap (λ moves. labelled value moves (root_spots (unlabelled_tag root) (unlabelled kids)) 1 (start_with next) (unlabelled kids)) (moves-bare value root kids)
      ∙ ap (λ ancestors. labelled value (moves_among value (seen root kids)) ancestors 1 (start_with next) (unlabelled kids)) (root_spots-bare root kids)
      ∙ labelled-bare value (moves_among value (seen root kids)) (root_spots root kids) 1 (start_with next) kids

  -- the next number after a story depends on no label
  pub story_next-bare : (kids : Nodes) → next_after_story value next (unlabelled_tag root) (unlabelled kids) ≡ next_after_story value next root kids
  story_next-bare kids =
      ap (λ moves. (numbering_after value moves (root_spots (unlabelled_tag root) (unlabelled kids)) 1 (start_with next) (unlabelled kids)).next) (moves-bare value root kids)
      ∙ ap (λ ancestors. (numbering_after value (moves_among value (seen root kids)) ancestors 1 (start_with next) (unlabelled kids)).next) (root_spots-bare root kids)
      ∙ ap (λ so_far. so_far.next) (after-bare value (moves_among value (seen root kids)) (root_spots root kids) 1 (start_with next) kids)

  -- a labelled story is labelled again as it is
  pub story-again : (kids : Nodes) → labelled_story value next root (labelled_story value next root kids) ≡ labelled_story value next root kids
  story-again kids =
      sym (story-bare (labelled_story value next root kids))
      ∙ ap (labelled_story value next (unlabelled_tag root)) (unlabelled-story kids)
      ∙ story-bare kids

  pub story_next-again : (kids : Nodes) → next_after_story value next root (labelled_story value next root kids) ≡ next_after_story value next root kids
  story_next-again kids =
      sym (story_next-bare (labelled_story value next root kids))
      ∙ ap (next_after_story value next (unlabelled_tag root)) (unlabelled-story kids)
      ∙ story_next-bare kids

-- Packages

-- a numbered package is the original but for labels
pub unlabelled-numbered : (value : Value) (nodes : Nodes) → unlabelled (numbered_package_by value nodes) ≡ unlabelled nodes
unlabelled-numbered value nodes = unlabelled-changed (number_rule value) (unlabelled-story value) 1 [] nodes

-- numbering a package doesn't change its text
pub text-numbered : (value : Value) (nodes : Nodes) → text (numbered_package_by value nodes) ≡ text nodes
text-numbered value nodes = sym (text-unlabelled (numbered_package_by value nodes)) ∙ ap text (unlabelled-numbered value nodes) ∙ text-unlabelled nodes

-- a numbered package is indexed: numbering it again changes nothing
pub numbered-indexed : (value : Value) (nodes : Nodes) → IsIndexed value (numbered_package_by value nodes)
numbered-indexed value nodes = changed_in-again (number_rule value) (story-again value) (story_next-again value) 1 [] nodes

-- the shape of a package stays: its stories are those of the original, labelled in their order
pub stories-numbered : (value : Value) (nodes : Nodes) → stories (numbered_package_by value nodes) ≡ changed_stories (number_rule value) 1 (stories nodes)
stories-numbered value nodes = stories-changed (number_rule value) 1 [] nodes

-- the roots of its stories are those of the original
pub roots-numbered : (value : Value) (nodes : Nodes) → map (λ story. story.tag) (stories (numbered_package_by value nodes)) ≡ map (λ story. story.tag) (stories nodes)
roots-numbered value nodes = ap (map (λ story. story.tag)) (stories-numbered value nodes) ∙ changed-roots (number_rule value) 1 (stories nodes)

-- Soundness

-- a rule that looks at no label holds of a labelled story where it holds of the story
everywhere-labelled : (test : Test) → Blind test → (value : Value) (next : ℕ) (root : Tag) (kids : Nodes) →
    everywhere test [] (element root (labelled_story value next root kids) no_nodes) ≡ everywhere test [] (element root kids no_nodes)
everywhere-labelled test blind value next root kids =
    sym (everywhere-bare test blind [] (element root (labelled_story value next root kids) no_nodes))
    ∙ ap (λ xs. everywhere test [] (element (unlabelled_tag root) xs no_nodes)) (unlabelled-story value next root kids)
    ∙ everywhere-bare test blind [] (element root kids no_nodes)

holds-labelled : (test : Test) → Blind test → (value : Value) (next : ℕ) (xs : List Element) → holds test (changed_stories (number_rule value) next xs) ≡ holds test xs
holds-labelled test blind value next [] = refl
holds-labelled test blind value next (story ∷ later) =
    ap (λ b. b && holds test (changed_stories (number_rule value) (next_after_story value next story.tag story.kids) later)) (everywhere-labelled test blind value next story.tag story.kids)
    ∙ ap (λ b. everywhere test [] (element story.tag story.kids no_nodes) && b) (holds-labelled test blind value (next_after_story value next story.tag story.kids) later)

-- a rule that looks at no label holds of a numbered package where it holds of the original
pub holds-numbered : (test : Test) → Blind test → (value : Value) (nodes : Nodes) → holds test (stories (numbered_package_by value nodes)) ≡ holds test (stories nodes)
holds-numbered test blind value nodes = ap (holds test) (stories-numbered value nodes) ∙ holds-labelled test blind value 1 (stories nodes)

first_broken-numbered : (value : Value) (nodes : Nodes) (rules : List Test) → AreBlind rules → (number : ℕ) →
    first_broken number rules (stories (numbered_package_by value nodes)) ≡ first_broken number rules (stories nodes)
first_broken-numbered value nodes [] blind number = refl
first_broken-numbered value nodes (test ∷ rules) blind number =
    ap (λ b. if b then first_broken (number + 1) rules (stories (numbered_package_by value nodes)) else Some number) (holds-numbered test blind.0 value nodes)
    ∙ ap (λ x. if holds test (stories nodes) then x else Some number) (first_broken-numbered value nodes rules blind.1 (number + 1))

all_hold-numbered : (value : Value) (nodes : Nodes) (rules : List Test) → AreBlind rules →
    list_all (λ test. holds test (stories (numbered_package_by value nodes))) rules ≡ list_all (λ test. holds test (stories nodes)) rules
all_hold-numbered value nodes [] blind = refl
all_hold-numbered value nodes (test ∷ rules) blind =
    ap (λ b. b && list_all (λ test. holds test (stories (numbered_package_by value nodes))) rules) (holds-numbered test blind.0 value nodes)
    ∙ ap (λ b. holds test (stories nodes) && b) (all_hold-numbered value nodes rules blind.1)

-- a numbered package breaks the same rule as the original
pub broken-numbered : (value : Value) (has_id declares : List ℕ → Bool) (nodes : Nodes) →
    broken (tests has_id declares) (numbered_package_by value nodes) ≡ broken (tests has_id declares) nodes
broken-numbered value has_id declares nodes = first_broken-numbered value nodes (tests has_id declares) (tests_are_blind has_id declares) 1

-- a numbered package is sound where the original is
pub sound-numbered : (value : Value) (has_id declares : List ℕ → Bool) (nodes : Nodes) →
    is_sound (tests has_id declares) (numbered_package_by value nodes) ≡ is_sound (tests has_id declares) nodes
sound-numbered value has_id declares nodes = all_hold-numbered value nodes (tests has_id declares) (tests_are_blind has_id declares)
