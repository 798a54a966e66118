-- What the visit of a story finds is what the definitions list.
use Rattle.std.proofs.Common.{◌≡◌, ◌∙◌, refl, ap, sym, subst, ℕ, ◌+◌, ◌^◌, ◌<◌, List, [], ◌∷◌, ◌++◌, append-nil, append_assoc, arith, length, filter_map, if◌then◌else◌}
use Rattle.std.proofs.lemmas.List.{length-map}
use Rattle.std.proofs.lemmas.List.Elements.{filter_map-append}
use Rattle.redl_tree.specs.Model.Count.{count}
use Rattle.redl_tree.specs.Model.Nodes.{Tag, Nodes, no_nodes, bytes, element}
use Rattle.redl_tree.specs.Model.Seen.{Spot, spot, Seen, seen_one, seen_from, tags, tags_of, root_spots}
use Rattle.redl_tree.specs.Revisions.Moves.{Marking}
use Rattle.redl_tree.specs.Revisions.Markers.{marker_of}
use Rattle.redl_stamp.specs.Attribute.{attribute_value}
use Rattle.redl_moves.specs.Marks.{marking_of, markings, RisesFrom}
use Rattle.redl_moves.specs.declared.marker.Marker.{Marker}
use Rattle.redl_visit.specs.declared.ancestors.Ancestors.{Ancestors}
use Rattle.redl_visit.specs.Summaries.{ancestors_of, ancestors_inside}
use Rattle.redl_visit.specs.Visits.{visited, visited_element, Needs}
use Rattle.redl_visit.proofs.VisitLaws.{visited-choice}
use Rattle.redl_visit.proofs.SummaryLaws.{ancestors_of-∷}
use Rattle.redl_index.specs.declared.markers.trail.Trail.{Trail}
use Rattle.redl_index.specs.declared.markers.trail.Below.{Below}
use Rattle.redl_index.specs.Inside.Markers.Trails.{trail_of, inside_trail, trail_below, below_root}
use Rattle.redl_index.specs.Markers.Ends.{one_end, ends_from}
use Rattle.redl_index.specs.Markers.Found.{markers_of, marker_tail}
use Rattle.redl_index.specs.Inside.Markers.Finding.{Finding, nothing_found, all_found, finder_rule, finder_needs}
use Rattle.redl_index.proofs.MarkerLaws.Rising.{between-rises, story-between}
use Rattle.redl_index.proofs.MarkerLaws.Counts.{tags-count, few-found}
use Rattle.redl_index.proofs.MarkerLaws.Elements.{mended, element-more, trail-inside}

-- ---- what is found among nodes

abbrev pub finding : List Marking → List (List ℕ) → List ℕ → ℕ → Finding
finding marks tails ends at = record { marks = marks; tails = tails; ends = ends; at = at }

abbrev handed : Trail → ℕ → Below
handed trail place = record { trail = trail; place = place }

pub same : (m n : List Marking) (t u : List (List ℕ)) (e f : List ℕ) (a b : ℕ) → m ≡ n → t ≡ u → e ≡ f → a ≡ b →
    finding m t e a ≡ finding n u f b
same m n t u e f a b p q r w = rw (p, q, r, w) refl

-- the elements in an element, itself included, and the ends of the paragraphs among them
abbrev element_seen : List Spot → ℕ → Tag → Nodes → List Seen
element_seen spots at tag kids = seen_one spots at tag kids ∷ seen_from (spot at tag kids ∷ spots) (at + 1) kids

abbrev element_ends : ℕ → Tag → Nodes → List ℕ
element_ends at tag kids = one_end tag (at + 1 + tags kids) ++ ends_from (at + 1) kids

-- with what is found among nodes with these ancestors
abbrev grown : List Spot → Nodes → Finding → Finding
grown spots nodes s = record {
  marks = s.marks ++ filter_map (marker_of attribute_value) (seen_from spots s.at nodes);
  tails = s.tails ++ filter_map marker_tail (seen_from spots s.at nodes);
  ends = s.ends ++ ends_from s.at nodes;
  at = s.at + tags nodes;
}

-- and in an element
abbrev grown_element : List Spot → Tag → Nodes → Finding → Finding
grown_element spots tag kids s = record {
  marks = s.marks ++ filter_map (marker_of attribute_value) (element_seen spots s.at tag kids);
  tails = s.tails ++ filter_map marker_tail (element_seen spots s.at tag kids);
  ends = s.ends ++ element_ends s.at tag kids;
  at = s.at + 2 + tags kids;
}

-- what is handed down to nodes with these ancestors
abbrev told : List Spot → ℕ → Below
told spots place = handed (trail_of spots) place

finder-visited : (spots : List Spot) (place : ℕ) (nodes : Nodes) (s : Finding) →
    visited ancestors_inside finder_rule (ancestors_of (tags_of spots)) (told spots place) nodes s ≡ grown spots nodes s
finder-visited spots place no_nodes s =
    same s.marks (s.marks ++ []) s.tails (s.tails ++ []) s.ends (s.ends ++ []) s.at (s.at + 0)
    (sym (append-nil s.marks)) (sym (append-nil s.tails)) (sym (append-nil s.ends)) (omega arith)
finder-visited spots place (bytes b rest) s = finder-visited spots place rest s
finder-visited spots place (element tag kids rest) s =
    let here = ancestors_of (tags_of spots) in
    let own = told spots place in
    let entered = finder_rule.enter here own tag kids s in
    let inside = inside_trail tag kids here (trail_of spots) in
    let slot = length s.ends in
    let more = spot s.at tag kids ∷ spots in
    let down =
    visited-choice ancestors_inside finder_rule (ancestors_inside tag here) (λ b. handed (if b then inside else trail_of spots) slot) kids entered
    ∙ ap (λ a. visited ancestors_inside finder_rule a (handed inside slot) kids entered) (ancestors_of-∷ tag (tags_of spots))
    ∙ ap (λ t. visited ancestors_inside finder_rule (ancestors_of (tags_of more)) (handed t slot) kids entered) (trail-inside s.at tag kids spots)
    ∙ finder-visited more slot kids entered in
    ap (λ x. visited ancestors_inside finder_rule here own rest (finder_rule.leave here (handed (trail_below tag kids here (trail_of spots)) slot) tag kids x)) down
    ∙ ap (visited ancestors_inside finder_rule here own rest) (left more)
    ∙ finder-visited spots place rest (grown_element spots tag kids s)
    ∙ onward
  where
    left : (more : List Spot) → finder_rule.leave (ancestors_of (tags_of spots)) (handed (trail_below tag kids (ancestors_of (tags_of spots)) (trail_of spots)) (length s.ends)) tag kids
        (grown (spot s.at tag kids ∷ spots) kids (finder_rule.enter (ancestors_of (tags_of spots)) (told spots place) tag kids s)) ≡ grown_element spots tag kids s
    left more =
        same _ _ _ _ _ _ _ _
        (element-more s.marks (marker_of attribute_value (seen_one spots s.at tag kids)) (filter_map (marker_of attribute_value) (seen_from (spot s.at tag kids ∷ spots) (s.at + 1) kids)))
        (element-more s.tails (marker_tail (seen_one spots s.at tag kids)) (filter_map marker_tail (seen_from (spot s.at tag kids ∷ spots) (s.at + 1) kids)))
        (mended tag s.ends (ends_from (s.at + 1) kids) s.at (s.at + 1 + tags kids))
        (omega arith)

    onward : grown spots rest (grown_element spots tag kids s) ≡ grown spots (element tag kids rest) s
    onward =
        let here = element_seen spots s.at tag kids in
        let later = seen_from spots (s.at + 2 + tags kids) rest in
        same _ _ _ _ _ _ _ _
        (append_assoc s.marks _ _ ∙ ap (λ xs. s.marks ++ xs) (sym (filter_map-append (marker_of attribute_value) here later)))
        (append_assoc s.tails _ _ ∙ ap (λ xs. s.tails ++ xs) (sym (filter_map-append marker_tail here later)))
        (append_assoc s.ends (element_ends s.at tag kids) (ends_from (s.at + 2 + tags kids) rest))
        (omega arith)

-- ---- positions

finder-at : (here : Ancestors) (own : Below) (nodes : Nodes) (s : Finding) → (visited ancestors_inside finder_rule here own nodes s).at ≡ s.at + tags nodes
finder-at here own no_nodes s = omega arith
finder-at here own (bytes b rest) s = finder-at here own rest s
finder-at here own (element tag kids rest) s =
    omega (
      arith,
      finder-at (ancestors_inside tag here) (finder_rule.below here own tag kids s) kids (finder_rule.enter here own tag kids s),
      finder-at here own rest (visited_element ancestors_inside finder_rule here own tag kids s),
    )

finder-needs : (here : Ancestors) (own : Below) (nodes : Nodes) (s : Finding) → s.at + tags nodes < 2 ^ 64 → Needs ancestors_inside finder_rule finder_needs here own nodes s
finder-needs here own no_nodes s fits = tt
finder-needs here own (bytes b rest) s fits = finder-needs here own rest s fits
finder-needs here own (element tag kids rest) s fits =
    let inner = ancestors_inside tag here in
    let below = finder_rule.below here own tag kids s in
    let entered = finder_rule.enter here own tag kids s in
    let at = finder-at inner below kids entered in (
      omega (arith, fits),
      finder-needs inner below kids entered (omega (arith, fits)),
      omega (arith, at, fits),
      finder-needs here own rest (visited_element ancestors_inside finder_rule here own tag kids s) (omega (arith, at, fits)),
    )

-- ---- A STORY, by the tag and the kids of its root

module _ (root : Tag) (kids : Nodes) where
  story-visited : visited ancestors_inside finder_rule (ancestors_inside root (ancestors_of [])) (below_root root kids) kids nothing_found ≡ all_found root kids
  story-visited =
      ap (λ a. visited ancestors_inside finder_rule a (below_root root kids) kids nothing_found) (ancestors_of-∷ root [])
      ∙ ap (λ t. visited ancestors_inside finder_rule (ancestors_of (root ∷ [])) (handed t 0) kids nothing_found) (trail-inside 0 root kids [])
      ∙ finder-visited (root_spots root kids) 0 kids nothing_found

  -- a visit of the kids of a root finds all that there is, where nothing was found before
  pub story-found : (here inner : Ancestors) (below : Below) (begun : Finding) → here ≡ ancestors_of [] → inner ≡ ancestors_inside root here → below ≡ below_root root kids → begun ≡ nothing_found →
      visited ancestors_inside finder_rule inner below kids begun ≡ all_found root kids
  story-found here inner below begun is_here is_inner is_below is_begun = rw (is_inner, is_here, is_below, is_begun) story-visited

  -- and has what it needs
  pub story-needs : (inner : Ancestors) (below : Below) (begun : Finding) → begun ≡ nothing_found → count kids < 2 ^ 32 → Needs ancestors_inside finder_rule finder_needs inner below kids begun
  story-needs inner below begun is_begun few = finder-needs inner below kids begun (omega (arith, ap (λ (s : Finding). s.at) is_begun, tags-count kids, few))

  -- the markers are few, and their positions rise
  pub story-few : (marks : List Marker) → markings marks ≡ markers_of root kids → count kids < 2 ^ 32 → length marks < 2 ^ 32
  story-few marks is few = omega (arith, ap length is, length-map marks marking_of, few-found (marker_of attribute_value) (root_spots root kids) 1 kids, few)

  pub story-rises : (marks : List Marker) → markings marks ≡ markers_of root kids → RisesFrom 0 (markings marks)
  story-rises marks is =
      let P : List Marking → Type 0 = RisesFrom 0 in
      subst P (sym is) (between-rises 0 (1 + tags kids) (markers_of root kids) (story-between attribute_value (root_spots root kids) kids))
