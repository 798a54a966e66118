-- The walk over stories gives spans in the order in which they end.
use Rattle.std.proofs.Common.{◌≡◌, ◌≤◌, ◌<◌, ◌+◌, ◌-◌, ◌==◌, inl, inr, ℕ, zero, suc, Bool, true, false, List, [], ◌∷◌, ◌++◌, All, length, get_or, refl, sym, subst, ◌∙◌, ap, arith, length-append}
use Rattle.std.proofs.lemmas.Bool.{cases_lt}
use Rattle.std.proofs.lemmas.List.{get_or_append_left, get_or-append_right}
use Rattle.std.proofs.lemmas.List.Elements.{All-append}
use Rattle.std.specs.Prelude.{nat_lt, if◌then◌else◌}
use Rattle.std.specs.List.{flat_map}
use Rattle.redl_tree.specs.Model.Nodes.{Tag, Nodes, no_nodes, bytes, element}
use Rattle.redl_tree.specs.Model.View.{Element}
use Rattle.redl_tree.specs.Roles.Names.{is}
use Rattle.redl_tree.specs.Roles.Places.{is_quiet}
use Rattle.redl_tree.specs.declared.kinds.Kind.{Kind}
use Rattle.redl_tree.specs.declared.kinds.Kind.TheVariants.{Plain, Content, Mark, Row, Cell, Change, Marker}
use Rattle.redl_tree.specs.declared.kinds.Prop.{Prop}
use Rattle.redl_tree.specs.declared.kinds.Prop.TheVariants as props
use Rattle.redl_spans.specs.Members.{change_span, content_span, has_edge, is_run, kind_span, mark_span, member_span, own_spans, property_members, run_change_span, span_from}
use Rattle.redl_spans.specs.Stories.{nothing_walked, stories_walked, story_begun, story_walked}
use Rattle.redl_spans.specs.Units.{Step, units_step, place_step, holds_text, steps_at, text_steps}
use Rattle.redl_spans.specs.Walks.{Walk, begun, closed_at, left, opened_at, parted, passed, step, stepped, walked}
use Rattle.redl_spans.specs.declared.place.Position.{Position}
use Rattle.redl_spans.specs.declared.span.Span.{Span}
use Rattle.redl_edits.specs.Inside.Ends.{AreInOrder}

-- ---- lists

-- they are in order, and end at most there
pub record Ends (limit : ℕ) (spans : List Span) : Type 0 where
  pub order : AreInOrder spans
  pub within : (i : ℕ) (none : Span) → i < length spans → (get_or spans i none).to ≤ limit

pub Ends-more : {limit more : ℕ} {spans : List Span} → limit ≤ more → Ends limit spans → Ends more spans
Ends-more {limit} {more} {spans} grows known = record {
  order = known.order;
  within = λ i none bound. let here : (get_or spans i none).to ≤ limit = known.within i none bound in omega (arith, here, grows);
}

-- it ends there
abbrev pub EndsAt : ℕ → Span → Type 0
EndsAt limit span = span.to ≡ limit

module _ (limit end : ℕ) (spans own : List Span) (grows : limit ≤ end) (known : Ends limit spans) (at_end : All (EndsAt end) own) where
  of_own : (i : ℕ) (none : Span) → length spans ≤ i → i < length (spans ++ own) → (get_or (spans ++ own) i none).to ≡ end
  of_own i none past bound =
      let all : length (spans ++ own) ≡ length spans + length own = length-append spans own in
      let inside : i - length spans < length own = omega (arith, past, bound, all) in
      ap (λ (span : Span). span.to) (get_or-append_right spans own (length spans) i none refl past) ∙ at_end (i - length spans) none inside

  all_within : (i : ℕ) (none : Span) → i < length (spans ++ own) → (get_or (spans ++ own) i none).to ≤ end
  all_within i none bound = elim (cases_lt i (length spans)) [
    | inl first ↦
        let here : (get_or spans i none).to ≤ limit = known.within i none first in
        let low : (get_or spans i none).to ≤ end = omega (arith, here, grows) in
        subst (λ (span : Span). span.to ≤ end) (sym (get_or_append_left spans own none i first)) low
    | inr later ↦ let here : (get_or (spans ++ own) i none).to ≡ end = of_own i none later bound in omega (arith, here)
  ]

  all_in_order : AreInOrder (spans ++ own)
  all_in_order i j none before bound = elim (cases_lt j (length spans)) [
    | inl first ↦
        let first' : i < length spans = omega (arith, before, first) in
        subst (λ (span : Span). span.to ≤ (get_or (spans ++ own) j none).to) (sym (get_or_append_left spans own none i first'))
        (subst (λ (span : Span). (get_or spans i none).to ≤ span.to) (sym (get_or_append_left spans own none j first)) (known.order i j none before first))
    | inr later ↦
        let bound' : i < length (spans ++ own) = omega (arith, before, bound) in
        let low : (get_or (spans ++ own) i none).to ≤ end = all_within i none bound' in
        let here : (get_or (spans ++ own) j none).to ≡ end = of_own j none later bound in
        omega (arith, low, here)
  ]

  pub Ends-append : Ends end (spans ++ own)
  Ends-append = record { order = all_in_order; within = all_within }

-- ---- what an element holds as a member, and what the members in its properties hold, ends with it

pub All-nothing : (P : Span → Type 0) → All P []
All-nothing P k d bound = absurd (omega (arith, bound))

span_from-end : (v from to : ℕ) → All (EndsAt to) (span_from v from to)
span_from-end v from to = elim (nat_lt from to) as (λ b. All (EndsAt to) (if b then record { revision = v; from = from; to = to } ∷ [] else [])) [
  | true ↦ only v from to
  | false ↦ All-nothing (EndsAt to)
]
  where
    only : (v from to : ℕ) → All (EndsAt to) (record { revision = v; from = from; to = to } ∷ [])
    only v from to zero d bound = refl
    only v from to (suc k) d bound = absurd (omega (arith, bound))

run_change_span-end : (owner : Tag) (v from to : ℕ) → All (EndsAt to) (run_change_span owner v from to)
run_change_span-end owner v from to =
    elim (is "p" owner) as (λ b. All (EndsAt to) (if b then mark_span v to else if is_run owner then span_from v from to else [])) [
      | true ↦ span_from-end v (to - 1) to
      | false ↦ elim (is_run owner) as (λ b. All (EndsAt to) (if b then span_from v from to else [])) [ true ↦ span_from-end v from to | false ↦ All-nothing (EndsAt to) ]
    ]

change_span-end : (owner : Tag) (what : Prop) (v from to : ℕ) → All (EndsAt to) (change_span owner what v from to)
change_span-end owner props.Run v from to = run_change_span-end owner v from to
change_span-end owner props.Para v from to = span_from-end v from to
change_span-end owner props.Sect v from to = All-nothing (EndsAt to)
change_span-end owner props.Table v from to = span_from-end v from to
change_span-end owner props.Except v from to = span_from-end v from to
change_span-end owner props.Row v from to = span_from-end v from to
change_span-end owner props.Cell v from to = span_from-end v from to

kind_span-end : (owner : Tag) (kind : Kind) (v from to : ℕ) → All (EndsAt to) (kind_span owner kind v from to)
kind_span-end owner Plain v from to = All-nothing (EndsAt to)
kind_span-end owner (Content trace) v from to = All-nothing (EndsAt to)
kind_span-end owner (Mark trace) v from to = span_from-end v (to - 1) to
kind_span-end owner (Row trace) v from to = span_from-end v from to
kind_span-end owner (Cell trace) v from to = span_from-end v from to
kind_span-end owner (Change what) v from to = change_span-end owner what v from to
kind_span-end owner Marker v from to = All-nothing (EndsAt to)

content_span-end : (kind : Kind) (v from to : ℕ) → All (EndsAt to) (content_span kind v from to)
content_span-end Plain v from to = All-nothing (EndsAt to)
content_span-end (Content trace) v from to = span_from-end v from to
content_span-end (Mark trace) v from to = All-nothing (EndsAt to)
content_span-end (Row trace) v from to = All-nothing (EndsAt to)
content_span-end (Cell trace) v from to = All-nothing (EndsAt to)
content_span-end (Change what) v from to = All-nothing (EndsAt to)
content_span-end Marker v from to = All-nothing (EndsAt to)

All-flat_map : {X : Type 0} (f : X → List Span) (to : ℕ) → ((x : X) → All (EndsAt to) (f x)) → (xs : List X) → All (EndsAt to) (flat_map f xs)
All-flat_map f to each [] = All-nothing (EndsAt to)
All-flat_map f to each (x ∷ xs) = All-append (EndsAt to) (f x) (flat_map f xs) (each x) (All-flat_map f to each xs)

own_spans-end : (tag : Tag) (kids : Nodes) (from to : ℕ) → All (EndsAt to) (own_spans tag (property_members kids) from to)
own_spans-end tag kids from to =
    All-append (EndsAt to) (content_span tag.kind tag.rev from to) (flat_map (member_span tag from to) (property_members kids))
    (content_span-end tag.kind tag.rev from to)
    (All-flat_map (member_span tag from to) to (λ member. kind_span-end tag member.kind member.revision from to) (property_members kids))

-- ---- the walk

abbrev pub IsEnding : Walk → Type 0
IsEnding w = Ends w.here.count w.spans

passed-grows : (n : ℕ) (here : Position) → here.count ≤ (passed n here).count
passed-grows n here = elim (n == 0) as (λ b. here.count ≤ (if b then here else record { count = here.count + n; near = true }).count) [
  | true ↦ (let same : here.count ≤ here.count = omega arith in same)
  | false ↦ (let more : here.count ≤ here.count + n = omega arith in more)
]

stepped-ends : (steps : List Step) (w : Walk) → IsEnding w → IsEnding (stepped steps w)
stepped-ends [] w known = known
stepped-ends (units_step n ∷ steps) w known = stepped-ends steps (step (units_step n) w) (Ends-more (passed-grows n w.here) known)
stepped-ends (place_step anchor id ∷ steps) w known = stepped-ends steps (step (place_step anchor id) w) known

opened-grows : (tag : Tag) (kids : Nodes) (here : Position) → here.count ≤ (opened_at tag kids here).count
opened-grows tag kids here =
    elim (is "p" tag) as (λ b. here.count ≤ (if b then record { count = here.count; near = false } else if has_edge kids then parted here else here).count) [
      | true ↦ (let same : here.count ≤ here.count = omega arith in same)
      | false ↦ elim (has_edge kids) as (λ b. here.count ≤ (if b then parted here else here).count) [
        | true ↦ (let more : here.count ≤ here.count + 1 = omega arith in more)
        | false ↦ (let same : here.count ≤ here.count = omega arith in same)
      ]
    ]

closed-grows : (tag : Tag) (here : Position) → here.count ≤ (closed_at tag here).count
closed-grows tag here = elim (is "p" tag) as (λ b. here.count ≤ (if b then parted here else here).count) [
  | true ↦ (let more : here.count ≤ here.count + 1 = omega arith in more)
  | false ↦ (let same : here.count ≤ here.count = omega arith in same)
]

begun-ends : (tag : Tag) (kids : Nodes) (w : Walk) → IsEnding w → IsEnding (begun tag kids w)
begun-ends tag kids w known =
    stepped-ends (steps_at tag) (record w { here = opened_at tag kids w.here }) (Ends-more (opened-grows tag kids w.here) known)

left-ends : (tag : Tag) (kids : Nodes) (from : ℕ) (w : Walk) → IsEnding w → IsEnding (left tag kids from w)
left-ends tag kids from w known =
    Ends-append w.here.count (closed_at tag w.here).count w.spans (own_spans tag (property_members kids) from (closed_at tag w.here).count)
    (closed-grows tag w.here) known (own_spans-end tag kids from (closed_at tag w.here).count)

pub walked-ends : (in_text : Bool) (nodes : Nodes) (w : Walk) → IsEnding w → IsEnding (walked in_text nodes w)
walked-ends in_text no_nodes w known = known
walked-ends in_text (bytes b rest) w known = walked-ends in_text rest (stepped (text_steps in_text b) w) (stepped-ends (text_steps in_text b) w known)
walked-ends in_text (element tag kids rest) w known =
    walked-ends in_text rest (if is_quiet tag then w else left tag kids w.here.count (walked (holds_text tag) kids (begun tag kids w)))
    (elim (is_quiet tag) as (λ b. IsEnding (if b then w else left tag kids w.here.count (walked (holds_text tag) kids (begun tag kids w)))) [
      | true ↦ known
      | false ↦ left-ends tag kids w.here.count (walked (holds_text tag) kids (begun tag kids w))
          (walked-ends (holds_text tag) kids (begun tag kids w) (begun-ends tag kids w known))
    ])

stories-end : (roots : List Element) (w : Walk) → IsEnding w → IsEnding (stories_walked roots w)
stories-end [] w known = known
stories-end (root ∷ roots) w known =
    let grows : w.here.count ≤ w.here.count + 1 = omega arith in
    stories-end roots (story_walked root w) (walked-ends false root.kids (story_begun w) (Ends-more grows known))

-- so what all stories hold is in order
pub stories-in-order : (roots : List Element) → AreInOrder (stories_walked roots nothing_walked).spans
stories-in-order roots =
    (stories-end roots nothing_walked (record {
      order = λ i j none before bound. absurd (omega (arith, bound));
      within = λ i none bound. absurd (omega (arith, bound));
    })).order
