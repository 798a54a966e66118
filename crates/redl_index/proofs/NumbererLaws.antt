-- The walk that labels a story gives each element the kind and the number of the definition.
use Rattle.std.proofs.Common.{◌≡◌, ◌∙◌, refl, ap, sym, subst, ℕ, ◌+◌, ◌^◌, ◌<◌, List, [], ◌∷◌, ◌++◌, length, true, option_map, arith, append_assoc}
use Rattle.std.proofs.lemmas.List.{append-nil}
use Rattle.redl_tree.specs.Decisions.Packages.{is_story_root}
use Rattle.redl_tree.specs.Model.Count.{count}
use Rattle.redl_tree.specs.Model.Nodes.{Tag, Nodes, no_nodes, bytes, element}
use Rattle.redl_tree.specs.Model.Seen.{Spot, spot, Seen, seen_one, seen_from, root_spots, tags, tags_of}
use Rattle.redl_tree.specs.Revisions.Markers.{move_of, whole_role}
use Rattle.redl_tree.specs.Revisions.Moves.{Marking, pairs}
use Rattle.redl_tree.specs.Revisions.Numbers.{Numbering, Membership, revision_of, counted, labelled_tag, labelled, numbering_after, start_with}
use Rattle.redl_tree.specs.Roles.Arounds.{around_of, around_inside}
use Rattle.redl_tree.specs.declared.around.Around.{Around}
use Rattle.redl_stamp.specs.Attribute.{attribute_value}
use Rattle.redl_moves.specs.Starts.{start_in}
use Rattle.redl_index.specs.Markers.Ends.{one_end, ends_from}
use Rattle.redl_index.specs.Markers.Found.{markers_of}
use Rattle.redl_index.specs.Inside.Markers.Free.{Every, IsFree}
use Rattle.redl_index.proofs.EveryLaws.{every-left, every-right}
use Rattle.redl_index.proofs.MarkerLaws.Free.{story-free}
use Rattle.redl_index.proofs.MarkerLaws.Rising.{between-rises, story-between}
use Rattle.redl_index.proofs.MarkerLaws.Counts.{tags-count}
use Rattle.redl_visit.specs.Labelling.{visit_of, needs_of, with_label, relabelled}
use Rattle.redl_visit.specs.Visits.{VisitRule, visited, Needs}
use Rattle.redl_index.specs.Inside.Sights.{para_end}
use Rattle.redl_index.specs.Inside.Numberings.{NumbersView, number_given, given, IsNumbering}
use Rattle.redl_index.specs.Inside.Numberers.{NumbererState, sight_of_next, numberer_rule, numberer_needs}
use Rattle.redl_index.specs.StoryFacts.{Facts, facts_in, element_by}
use Rattle.redl_index.specs.declared.story.Sight.{Sight}
use Rattle.redl_index.proofs.LabelLaws.{counted-goes, numbering-goes}
use Rattle.redl_index.proofs.NumberingLaws.{none_of, numbering-begins, placed-move, number-given, numbering-given}
use Rattle.redl_index.proofs.SightLaws.{sight-here, apart-at, end-inside, ends-inside, around-inside, para_end-root}

abbrev Rule : VisitRule Around ℕ NumbererState
Rule = visit_of numberer_rule

module _ (marks : List Marking) where
  -- at a position, where these ends are left
  abbrev pub state_at : ℕ → List ℕ → NumbersView → NumbererState
  state_at at ends numbers = record { marks = marks; at = at; ends = ends; numbers = numbers }

  -- what is so before nodes with these ancestors
  pub record IsReady (ancestors : List Spot) (at : ℕ) (so_far : Numbering) (nodes : Nodes) (numbers : NumbersView) : Type 0 where
    pub free : Every (IsFree marks) (seen_from ancestors at nodes)
    pub numbering : IsNumbering marks numbers so_far
    pub fits : at + tags nodes < 2 ^ 64
    pub few : so_far.next + count nodes < 2 ^ 32

  -- and what the walk over them comes to
  pub record IsLabelled (ancestors : List Spot) (at : ℕ) (later : List ℕ) (so_far : Numbering) (nodes : Nodes) (here : Around) (end : ℕ) (s : NumbererState) : Type 0 where
    pub state : visited around_inside Rule here end nodes s ≡ state_at (at + tags nodes) later (visited around_inside Rule here end nodes s).numbers
    pub numbering : IsNumbering marks (visited around_inside Rule here end nodes s).numbers (numbering_after attribute_value (pairs marks) ancestors at so_far nodes)
    pub labels : relabelled around_inside numberer_rule here end nodes s ≡ labelled attribute_value (pairs marks) ancestors at so_far nodes
    pub needs : Needs around_inside Rule (needs_of numberer_needs) here end nodes s

  -- the same from what is the same
  from-same : (ancestors : List Spot) (at : ℕ) (later : List ℕ) (so_far : Numbering) (nodes : Nodes) (here there : Around) (end other : ℕ) (s t : NumbererState)
      → here ≡ there → end ≡ other → s ≡ t → IsLabelled ancestors at later so_far nodes there other t → IsLabelled ancestors at later so_far nodes here end s
  from-same ancestors at later so_far nodes here there end other s t is_here is_end is holds =
      subst (λ here. IsLabelled ancestors at later so_far nodes here end s) (sym is_here)
      (subst (λ end. IsLabelled ancestors at later so_far nodes there end s) (sym is_end)
      (subst (λ s. IsLabelled ancestors at later so_far nodes there other s) (sym is) holds))

  -- one element, with its kids
  module _ (ancestors : List Spot) (at : ℕ) (so_far : Numbering) (tag : Tag) (kids : Nodes) (ends : List ℕ) (numbers : NumbersView) (had : IsNumbering marks numbers so_far) where
    abbrev Here : Around
    Here = around_of (tags_of ancestors)

    abbrev One : Seen
    One = seen_one ancestors at tag kids

    abbrev Own : Sight
    Own = sight_of_next Here (para_end ancestors) tag (state_at at ends numbers)

    abbrev Revision : Membership
    Revision = revision_of attribute_value (pairs marks) One

    abbrev Told : Sight
    Told = record { kind = whole_role attribute_value (pairs marks) One; start = option_map (start_in marks) (move_of attribute_value (pairs marks) One) }

    own-is : Own ≡ Told
    own-is = sight-here marks ancestors at tag kids

    own-numbering : IsNumbering marks (given Own numbers) (counted Revision so_far)
    own-numbering =
        subst (λ sight. IsNumbering marks (given sight numbers) (counted Revision so_far)) (sym own-is)
        (numbering-given marks numbers so_far had Told.kind (move_of attribute_value (pairs marks) One) (placed-move marks had.rising One))

    own-label : with_label (record { kind = Own.kind; rev = number_given Own numbers }) tag ≡ labelled_tag attribute_value (pairs marks) so_far One
    own-label =
        ap (λ (sight : Sight). with_label (record { kind = sight.kind; rev = number_given sight numbers }) tag) own-is
        ∙ ap (λ n. record tag { kind = Told.kind; rev = n })
        (number-given marks numbers so_far had Told.kind (move_of attribute_value (pairs marks) One) (placed-move marks had.rising One))

  pub walk-labelled : (ancestors : List Spot) (at : ℕ) (later : List ℕ) (so_far : Numbering) (nodes : Nodes) (numbers : NumbersView) → IsReady ancestors at so_far nodes numbers
      → IsLabelled ancestors at later so_far nodes (around_of (tags_of ancestors)) (para_end ancestors) (state_at at (ends_from at nodes ++ later) numbers)
  walk-labelled ancestors at later so_far no_nodes numbers ready =
      let same : at ≡ at + 0 = omega arith in
      record { state = ap (λ n. state_at n later numbers) same; numbering = ready.numbering; labels = refl; needs = tt }
  walk-labelled ancestors at later so_far (bytes b rest) numbers ready =
      let more = walk-labelled ancestors at later so_far rest numbers
      (record { free = ready.free; numbering = ready.numbering; fits = ready.fits; few = omega (arith, ready.few) }) in
      record { state = more.state; numbering = more.numbering; labels = ap (bytes b) more.labels; needs = more.needs }
  walk-labelled ancestors at later so_far (element tag kids rest) numbers ready =
      let up = spot at tag kids ∷ ancestors in
      let here = around_of (tags_of ancestors) in
      let end = para_end ancestors in
      let left = ends_from (at + 2 + tags kids) rest ++ later in
      let ends = ends_from at (element tag kids rest) ++ later in
      let s = state_at at ends numbers in
      let own = sight_of_next here end tag s in
      let next = counted (revision_of attribute_value (pairs marks) (seen_one ancestors at tag kids)) so_far in
      let inner = numbering_after attribute_value (pairs marks) up (at + 1) next kids in
      let below = numberer_rule.below here end tag kids s in
      let entered = numberer_rule.enter here end tag kids s in
      let split : ends ≡ one_end tag (at + 1 + tags kids) ++ (ends_from (at + 1) kids ++ left) =
      append_assoc (one_end tag (at + 1 + tags kids) ++ ends_from (at + 1) kids) (ends_from (at + 2 + tags kids) rest) later
      ∙ append_assoc (one_end tag (at + 1 + tags kids)) (ends_from (at + 1) kids) left in
      let goes = counted-goes (revision_of attribute_value (pairs marks) (seen_one ancestors at tag kids)) so_far in
      let goes_in = numbering-goes (pairs marks) up (at + 1) next kids in
      let in_kids = from-same up (at + 1) left next kids (around_inside tag here) (around_of (tags_of up)) below (para_end up) entered
      (state_at (at + 1) (ends_from (at + 1) kids ++ left) (given own numbers))
      (around-inside at tag kids ancestors) (end-inside ancestors at tag kids ends (ends_from (at + 1) kids ++ left) split)
      (ap (λ es. state_at (at + 1) es (given own numbers)) (ends-inside ancestors at tag kids ends (ends_from (at + 1) kids ++ left) split))
      (walk-labelled up (at + 1) left next kids (given own numbers)
      (record {
        free = every-left (IsFree marks) (seen_from up (at + 1) kids) (seen_from ancestors (at + 2 + tags kids) rest) ready.free.1;
        numbering = own-numbering ancestors at so_far tag kids ends numbers ready.numbering;
        fits = omega (arith, ready.fits);
        few = omega (arith, ready.few, goes.at_most);
      })) in
      let after = visited around_inside Rule (around_inside tag here) below kids entered in
      let moved : at + 1 + tags kids + 1 ≡ at + 2 + tags kids = omega arith in
      let behind = from-same ancestors (at + 2 + tags kids) later inner rest here here end end (numberer_rule.leave after) (state_at (at + 2 + tags kids) left after.numbers)
      refl refl (ap numberer_rule.leave in_kids.state ∙ ap (λ n. state_at n left after.numbers) moved)
      (walk-labelled ancestors (at + 2 + tags kids) later inner rest after.numbers
      (record {
        free = every-right (IsFree marks) (seen_from up (at + 1) kids) (seen_from ancestors (at + 2 + tags kids) rest) ready.free.1;
        numbering = in_kids.numbering;
        fits = omega (arith, ready.fits);
        few = omega (arith, ready.few, goes.at_most, goes_in.at_most);
      })) in
      let whole : at + 2 + tags kids + tags rest ≡ at + (2 + tags kids + tags rest) = omega arith in
      record {
        state = behind.state ∙ ap (λ n. state_at n later (visited around_inside Rule here end (element tag kids rest) s).numbers) whole;
        numbering = behind.numbering;
        labels =
            ap (λ t. element t (relabelled around_inside numberer_rule (around_inside tag here) below kids entered) (relabelled around_inside numberer_rule here end rest (numberer_rule.leave after)))
            (own-label ancestors at so_far tag kids ends numbers ready.numbering)
            ∙ ap (λ ns. element (labelled_tag attribute_value (pairs marks) so_far (seen_one ancestors at tag kids)) ns (relabelled around_inside numberer_rule here end rest (numberer_rule.leave after)))
            in_kids.labels
            ∙ ap (element (labelled_tag attribute_value (pairs marks) so_far (seen_one ancestors at tag kids)) (labelled attribute_value (pairs marks) up (at + 1) next kids)) behind.labels;
        needs = (
          (omega (arith, ready.fits), omega (arith, ready.few, ready.numbering.next), apart-at marks ancestors at tag kids ready.free.0),
          in_kids.needs,
          omega (arith, ready.fits, ap (λ (s : NumbererState). s.at) in_kids.state),
          behind.needs,
        );
      }

-- ---- a whole story

-- at the start of a story, from what is known of it and the next number
abbrev pub begun_with : Facts → ℕ → NumbererState
begun_with known next = state_at known.marks 1 known.ends (record { next = next; moves = known.numbers })

module _ (root : Tag) (kids : Nodes) (next : ℕ) where
  story-begun : is_story_root root ≡ true → 0 < next → next + count kids < 2 ^ 32
      → IsLabelled (markers_of root kids) (root_spots root kids) 1 [] (start_with next) kids (around_inside root (around_of [])) 0 (begun_with (facts_in (element_by root kids)) next)
  story-begun is_root begun few =
      let marks = markers_of root kids in
      let spots = root_spots root kids in
      let numbers : NumbersView = record { next = next; moves = none_of (length marks) } in
      let rises = between-rises 0 _ marks (story-between attribute_value spots kids) in
      from-same marks spots 1 [] (start_with next) kids (around_inside root (around_of [])) (around_of (tags_of spots)) 0 (para_end spots)
      (state_at marks 1 (ends_from 1 kids) numbers) (state_at marks 1 (ends_from 1 kids ++ []) numbers)
      (around-inside 0 root kids []) (sym (para_end-root root kids is_root))
      (ap (λ es. state_at marks 1 es numbers) (sym (append-nil (ends_from 1 kids))))
      (walk-labelled marks spots 1 [] (start_with next) kids numbers
      (record {
        free = story-free root kids;
        numbering = numbering-begins marks next rises begun;
        fits = omega (arith, tags-count kids, few);
        few = few;
      }))

  pub story-labelled : is_story_root root ≡ true → 0 < next → next + count kids < 2 ^ 32 → (known : Facts) → known ≡ facts_in (element_by root kids)
      → (around : Around) → around ≡ around_of [] → (here : Around) → here ≡ around_inside root around → (s : NumbererState) → s ≡ begun_with known next
      → IsLabelled (markers_of root kids) (root_spots root kids) 1 [] (start_with next) kids here 0 s
  story-labelled is_root begun few known is_known around top here is_here s is =
      from-same (markers_of root kids) (root_spots root kids) 1 [] (start_with next) kids here (around_inside root (around_of [])) 0 0 s (begun_with (facts_in (element_by root kids)) next)
      (is_here ∙ ap (around_inside root) top) refl (is ∙ ap (λ k. begun_with k next) is_known) (story-begun is_root begun few)
