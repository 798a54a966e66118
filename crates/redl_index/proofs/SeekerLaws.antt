-- What a walk of a story finds is what the definitions list.
use Rattle.std.proofs.Common.{◌≡◌, ◌∙◌, refl, ap, sym, subst, true, ℕ, ◌+◌, ◌^◌, ◌<◌, ◌≤◌, List, [], ◌∷◌, ◌++◌, All, append-nil, append_assoc, arith, length, map}
use Rattle.std.specs.Str.{IsUtf8}
use Rattle.std.proofs.lemmas.List.{map-append, length-map}
use Rattle.redl_tree.specs.Model.Count.{count}
use Rattle.redl_tree.specs.Model.Nodes.{Tag, Nodes, no_nodes, bytes, element}
use Rattle.redl_tree.specs.Model.Tree.{HasUtf8Tails}
use Rattle.redl_tree.specs.Model.Seen.{Spot, spot, Seen, seen_one, seen_from, seen, root_spots, tags, tags_of}
use Rattle.redl_tree.specs.Decisions.Packages.{is_story_root}
use Rattle.redl_tree.specs.Roles.Arounds.{around_of, around_inside}
use Rattle.redl_tree.specs.Revisions.Moves.{Marking}
use Rattle.redl_tree.specs.declared.around.Around.{Around}
use Rattle.redl_visit.specs.Visits.{visited, visited_element, Needs}
use Rattle.redl_index.specs.Markers.Ends.{one_end, ends_from}
use Rattle.redl_index.specs.Inside.Markers.Free.{Every, IsFree}
use Rattle.redl_index.proofs.EveryLaws.{every-left, every-right}
use Rattle.redl_index.proofs.MarkerLaws.Free.{story-free}
use Rattle.redl_index.proofs.MarkerLaws.Counts.{seen-count, tags-count}
use Rattle.redl_index.proofs.MarkerLaws.Tails.{utf8-tails}
use Rattle.redl_index.specs.StoryFacts.{Facts, facts_in, element_by}
use Rattle.redl_index.specs.Mentions.{Sight, sight_by, sight_in}
use Rattle.redl_index.specs.Revisions.{numbered, story_revisions}
use Rattle.redl_index.specs.declared.revision.Revision.{Revision}
use Rattle.redl_index.specs.declared.story.Sight.{Sight as OwnSight}
use Rattle.redl_index.specs.Inside.Sights.{para_end, next_end}
use Rattle.redl_index.specs.Inside.Tallies.{Tally, noted, noted_all}
use Rattle.redl_index.specs.Inside.Seeking.{Seeking, seeking_in, seeker_rule, seeker_needs}
use Rattle.redl_index.proofs.SightLaws.{sight-here, apart-at, end-inside, ends-inside, around-inside, para_end-root}
use Rattle.redl_index.proofs.TallyLaws.{noted_all-append, length-noted, length-noted_all}
use Rattle.redl_index.proofs.RevisionLaws.{story-index}

abbrev pub seeking : ℕ → List Marking → List (List ℕ) → ℕ → List ℕ → Tally → Seeking
seeking part marks tails at ends found = record { part = part; marks = marks; tails = tails; at = at; ends = ends; found = found }

same : (part : ℕ) (marks : List Marking) (tails : List (List ℕ)) (a b : ℕ) (e f : List ℕ) (t u : Tally) → a ≡ b → e ≡ f → t ≡ u
    → seeking part marks tails a e t ≡ seeking part marks tails b f u
same part marks tails a b e f t u p q r = rw (p, q, r) refl

-- what elements of the story are
abbrev sights : Seeking → List Seen → List Sight
sights s xs = map (sight_in s.marks s.tails) xs

-- with what is found among nodes with these ancestors, behind which these ends are left
abbrev grown : List Spot → Nodes → List ℕ → Seeking → Seeking
grown spots nodes later s = record s {
  at = s.at + tags nodes;
  ends = later;
  found = noted_all s.part s.found (sights s (seen_from spots s.at nodes));
}

-- ---- an element

module _ (spots : List Spot) (tag : Tag) (kids rest : Nodes) (later : List ℕ) (s : Seeking) (left : s.ends ≡ ends_from s.at (element tag kids rest) ++ later) where
  abbrev one : Seen
  one = seen_one spots s.at tag kids

  -- its kids have these ancestors
  abbrev more : List Spot
  more = spot s.at tag kids ∷ spots

  -- the ends behind it
  abbrev behind : List ℕ
  behind = ends_from (s.at + 2 + tags kids) rest ++ later

  abbrev end : ℕ
  end = s.at + 1 + tags kids

  split : s.ends ≡ one_end tag end ++ (ends_from (s.at + 1) kids ++ behind)
  split =
      left ∙ append_assoc (one_end tag end ++ ends_from (s.at + 1) kids) (ends_from (s.at + 2 + tags kids) rest) later
      ∙ append_assoc (one_end tag end) (ends_from (s.at + 1) kids) behind

  -- before its kids
  abbrev entered : Seeking
  entered = seeker_rule.enter (around_of (tags_of spots)) (para_end spots) tag kids s

  abbrev known : Seeking
  known = record s { at = s.at + 1; ends = ends_from (s.at + 1) kids ++ behind; found = noted s.part s.found (sight_in s.marks s.tails one) }

  entered-is : entered ≡ known
  entered-is =
      same s.part s.marks s.tails _ _ _ _ _ _ refl (ends-inside spots s.at tag kids s.ends (ends_from (s.at + 1) kids ++ behind) split)
      (ap (λ (x : OwnSight). noted s.part s.found (sight_by s.tails tag.tail x.kind x.start)) (sight-here s.marks spots s.at tag kids))

  below-is : next_end tag s.ends (para_end spots) ≡ para_end more
  below-is = end-inside spots s.at tag kids s.ends (ends_from (s.at + 1) kids ++ behind) split

  around-is : around_inside tag (around_of (tags_of spots)) ≡ around_of (tags_of more)
  around-is = around-inside s.at tag kids spots

  -- what holds for its kids by their ancestors holds for what is handed down to them
  handed : (P : Around → ℕ → Seeking → Type 0) → P (around_of (tags_of more)) (para_end more) known
      → P (around_inside tag (around_of (tags_of spots))) (next_end tag s.ends (para_end spots)) entered
  handed P h =
      let P_around : Around → Type 0 = λ a. P a (next_end tag s.ends (para_end spots)) entered in
      let P_end : ℕ → Type 0 = λ e. P (around_of (tags_of more)) e entered in
      subst P_around (sym around-is) (subst P_end (sym below-is) (subst (P (around_of (tags_of more)) (para_end more)) (sym entered-is) h))

  -- behind it
  abbrev done : Seeking
  done = record s { at = s.at + 2 + tags kids; ends = behind; found = noted_all s.part s.found (sights s (one ∷ seen_from more (s.at + 1) kids)) }

  abbrev KidsGrow : Around → ℕ → Seeking → Type 0
  KidsGrow here own t = visited around_inside seeker_rule here own kids t ≡ grown more kids behind known

  element-is : visited around_inside seeker_rule (around_of (tags_of more)) (para_end more) kids known ≡ grown more kids behind known
      → visited_element around_inside seeker_rule (around_of (tags_of spots)) (para_end spots) tag kids s ≡ done
  element-is kids_are =
      ap (seeker_rule.leave (around_of (tags_of spots)) (next_end tag s.ends (para_end spots)) tag kids) (handed KidsGrow kids_are)
      ∙ same s.part s.marks s.tails _ _ _ _ _ _ (omega arith) refl refl

  rest-is : grown spots rest later done ≡ grown spots (element tag kids rest) later s
  rest-is =
      let here = one ∷ seen_from more (s.at + 1) kids in
      let after = seen_from spots (s.at + 2 + tags kids) rest in
      same s.part s.marks s.tails _ _ _ _ _ _ (omega arith) refl
      (sym (noted_all-append s.part s.found (sights s here) (sights s after)) ∙ ap (noted_all s.part s.found) (sym (map-append (sight_in s.marks s.tails) here after)))

pub seeker-visited : (spots : List Spot) (nodes : Nodes) (later : List ℕ) (s : Seeking) → s.ends ≡ ends_from s.at nodes ++ later →
    visited around_inside seeker_rule (around_of (tags_of spots)) (para_end spots) nodes s ≡ grown spots nodes later s
seeker-visited spots no_nodes later s left = same s.part s.marks s.tails _ _ _ _ _ _ (omega arith) left refl
seeker-visited spots (bytes b rest) later s left = seeker-visited spots rest later s left
seeker-visited spots (element tag kids rest) later s left =
    ap (visited around_inside seeker_rule (around_of (tags_of spots)) (para_end spots) rest)
    (element-is spots tag kids rest later s left
    (seeker-visited (spot s.at tag kids ∷ spots) kids (ends_from (s.at + 2 + tags kids) rest ++ later) (known spots tag kids rest later s left) refl))
    ∙ seeker-visited spots rest later (done spots tag kids rest later s left) refl
    ∙ rest-is spots tag kids rest later s left

-- ---- what it needs

-- a story fits, and its positions are free of markers
record IsReady (spots : List Spot) (nodes : Nodes) (s : Seeking) : Type 0 where
  fits : s.at + tags nodes < 2 ^ 64
  few : length s.found.index + count nodes < 2 ^ 32
  utf8 : HasUtf8Tails nodes
  tails : All IsUtf8 s.tails
  free : Every (IsFree s.marks) (seen_from spots s.at nodes)

module _ (spots : List Spot) (tag : Tag) (kids rest : Nodes) (later : List ℕ) (s : Seeking) (left : s.ends ≡ ends_from s.at (element tag kids rest) ++ later)
    (ready : IsReady spots (element tag kids rest) s) where
  kids-ready : IsReady (spot s.at tag kids ∷ spots) kids (known spots tag kids rest later s left)
  kids-ready = record {
    fits = omega (arith, ready.fits);
    few = omega (arith, ready.few, length-noted s.part s.found (sight_in s.marks s.tails (seen_one spots s.at tag kids)).mention);
    utf8 = ready.utf8.1;
    tails = ready.tails;
    free = every-left (IsFree s.marks) (seen_from (spot s.at tag kids ∷ spots) (s.at + 1) kids) (seen_from spots (s.at + 2 + tags kids) rest) ready.free.1;
  }

  rest-ready : IsReady spots rest (done spots tag kids rest later s left)
  rest-ready =
      let inner = seen_from (spot s.at tag kids ∷ spots) (s.at + 1) kids in
      let here = seen_one spots s.at tag kids ∷ inner in
      record {
        fits = omega (arith, ready.fits);
        few = omega (
          arith,
          ready.few,
          length-noted_all s.part s.found (sights s here),
          length-map here (sight_in s.marks s.tails),
          seen-count (spot s.at tag kids ∷ spots) (s.at + 1) kids,
        );
        utf8 = ready.utf8.2;
        tails = ready.tails;
        free = every-right (IsFree s.marks) inner (seen_from spots (s.at + 2 + tags kids) rest) ready.free.1;
      }

  enter-ready : seeker_needs.Enter (around_of (tags_of spots)) (para_end spots) tag kids s
  enter-ready = (omega (arith, ready.fits), omega (arith, ready.few), ready.utf8.0, ready.tails, apart-at s.marks spots s.at tag kids ready.free.0)

seeker-needs : (spots : List Spot) (nodes : Nodes) (later : List ℕ) (s : Seeking) → s.ends ≡ ends_from s.at nodes ++ later → IsReady spots nodes s →
    Needs around_inside seeker_rule seeker_needs (around_of (tags_of spots)) (para_end spots) nodes s
seeker-needs spots no_nodes later s left ready = tt
seeker-needs spots (bytes b rest) later s left ready = seeker-needs spots rest later s left (record {
  fits = ready.fits;
  few = omega (arith, ready.few);
  utf8 = ready.utf8;
  tails = ready.tails;
  free = ready.free;
})
seeker-needs spots (element tag kids rest) later s left ready =
    let more = spot s.at tag kids ∷ spots in
    let after = ends_from (s.at + 2 + tags kids) rest ++ later in
    let then = known spots tag kids rest later s left in
    let last = done spots tag kids rest later s left in
    let kids_are = seeker-visited more kids after then refl in
    let NeedsKids : Around → ℕ → Seeking → Type 0 = λ here own t. Needs around_inside seeker_rule seeker_needs here own kids t in
    let Leaves : Around → ℕ → Seeking → Type 0 = λ here own t. (visited around_inside seeker_rule here own kids t).at + 1 < 2 ^ 64 in
    let NeedsRest : Seeking → Type 0 = λ t. Needs around_inside seeker_rule seeker_needs (around_of (tags_of spots)) (para_end spots) rest t in (
      enter-ready spots tag kids rest later s left ready,
      handed spots tag kids rest later s left NeedsKids (seeker-needs more kids after then refl (kids-ready spots tag kids rest later s left ready)),
      handed spots tag kids rest later s left Leaves (omega (arith, ap (λ (t : Seeking). t.at) kids_are, ready.fits)),
      subst NeedsRest (sym (element-is spots tag kids rest later s left kids_are)) (seeker-needs spots rest later last refl (rest-ready spots tag kids rest later s left ready)),
    )

-- ---- a story

-- a visit of the kids of a story's root
module _ (part : ℕ) (base : List Revision) (root : Tag) (kids : Nodes) (known : Facts) (top here : Around) (begun : Seeking)
    (is_root : is_story_root root ≡ true) (few : length base + count kids < 2 ^ 32) (is_known : known ≡ facts_in (element_by root kids))
    (is_top : top ≡ around_of []) (is_here : here ≡ around_inside root top) (is_begun : begun ≡ seeking_in part known base) where
  abbrev first : Seeking
  first = seeking_in part (facts_in (element_by root kids)) base

  left_is : first.ends ≡ ends_from 1 kids ++ []
  left_is = sym (append-nil (ends_from 1 kids))

  -- what holds for the kids of the root by their ancestors holds for what is handed down to them
  handed-root : (P : Around → ℕ → Seeking → Type 0) → P (around_of (tags_of (root_spots root kids))) (para_end (root_spots root kids)) first → P here 0 begun
  handed-root P h =
      let P_around : Around → Type 0 = λ a. P a 0 begun in
      let P_end : ℕ → Type 0 = λ e. P (around_of (tags_of (root_spots root kids))) e begun in
      subst P_around (sym (is_here ∙ ap (around_inside root) is_top ∙ around-inside 0 root kids []))
      (subst P_end (para_end-root root kids is_root) (subst (P (around_of (tags_of (root_spots root kids))) (para_end (root_spots root kids))) (sym (is_begun ∙ ap (λ k. seeking_in part k base) is_known)) h))

  pub story-sought : (visited around_inside seeker_rule here 0 kids begun).found.index ≡ base ++ numbered (1 + length base) (story_revisions part root kids)
  story-sought =
      let Index : Around → ℕ → Seeking → Type 0 = λ here own s. (visited around_inside seeker_rule here own kids s).found.index ≡ base ++ numbered (1 + length base) (story_revisions part root kids) in
      handed-root Index (ap (λ (t : Seeking). t.found.index) (seeker-visited (root_spots root kids) kids [] first left_is) ∙ story-index part base root kids (omega (arith, few)))

  pub story-few : length (visited around_inside seeker_rule here 0 kids begun).found.index ≤ length base + count kids
  story-few =
      let xs = seen root kids in
      let Few : Around → ℕ → Seeking → Type 0 = λ here own s. length (visited around_inside seeker_rule here own kids s).found.index ≤ length base + count kids in
      handed-root Few
      (omega (
        arith,
        ap (λ (t : Seeking). length t.found.index) (seeker-visited (root_spots root kids) kids [] first left_is),
        length-noted_all part first.found (sights first xs),
        length-map xs (sight_in first.marks first.tails),
        seen-count (root_spots root kids) 1 kids,
      ))

  pub story-needs : HasUtf8Tails kids → Needs around_inside seeker_rule seeker_needs here 0 kids begun
  story-needs utf8 =
      let NeedsKids : Around → ℕ → Seeking → Type 0 = λ here own s. Needs around_inside seeker_rule seeker_needs here own kids s in
      handed-root NeedsKids
      (seeker-needs (root_spots root kids) kids [] first left_is
      (record {
        fits = omega (arith, tags-count kids, few);
        few = few;
        utf8 = utf8;
        tails = utf8-tails root kids utf8;
        free = story-free root kids;
      }))
