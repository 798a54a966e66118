-- One step of an editor along a way, and all steps of a list of settings: what was current under the old says is current under
-- the new ones once each leaf that holds a member or a marker of the revisions that are set is made anew.
use Rattle.std.proofs.Common.{◌≡◌, ◌∙◌, refl, sym, ap, subst, ℕ, zero, suc, ◌+◌, ◌<◌, ◌==◌, List, [], ◌∷◌, Bool, true, false, ◌&&◌, ◌||◌, not, arith}
use Rattle.std.proofs.lemmas.Bool.{ne_eqb}
use Rattle.std.proofs.Math.Bool.{and-true}
use Rattle.redl_tree.specs.Model.Nodes.{Tag}
use Rattle.redl_tree.specs.Leaves.Slots.{Slots, no_slots, leaf_slot, container_slot, slots_in}
use Rattle.redl_tree.specs.Leaves.Leaf.{leaf_count}
use Rattle.redl_tree.specs.Leaves.Shown.{AreStatesOf}
use Rattle.redl_tree.specs.Model.View.{Element}
use Rattle.redl_tree.specs.Leaves.Rebuilt.{original}
use Rattle.redl_tree.specs.Leaves.Settings.{SameBut, IsUnheld}
use Rattle.redl_tree.specs.Leaves.States.{States, no_states, leaf_state, container_state, slots_of, AreTallied, ArePassed, AreCurrent}
use Rattle.redl_tree.specs.Leaves.Pending.{states_count, ArePassedBut, made, Covers}
use Rattle.redl_tree.specs.Leaves.Ways.{IsWay, AreWays, number_at, made_at, made_each, is_end}
use Rattle.redl_tree.specs.declared.kinds.Say.{Say}
use Rattle.redl_laws.proofs.Leaves.Pending.{pending-begun, pending-done, pending-other}

-- ---- one step leaves the slots, and keeps the tallies

-- making a leaf anew leaves the slots as they are
pub made-slots : (says : List Say) (ancestors : List Tag) (way : List ℕ) (states : States) → slots_of (made_at says ancestors way states) ≡ slots_of states
made-slots says ancestors way no_states = refl
made-slots says ancestors [] (leaf_state leaf present rest) = refl
made-slots says ancestors [] (container_state tag tally inner rest) = refl
made-slots says ancestors (zero ∷ way) (leaf_state leaf present rest) = refl
made-slots says ancestors (zero ∷ way) (container_state tag tally inner rest) =
    ap (λ slots. container_slot tag (original slots) slots (slots_of rest)) (made-slots says (tag ∷ ancestors) way inner)
made-slots says ancestors (suc n ∷ way) (leaf_state leaf present rest) = ap (leaf_slot leaf) (made-slots says ancestors (n ∷ way) rest)
made-slots says ancestors (suc n ∷ way) (container_state tag tally inner rest) =
    ap (container_slot tag (original (slots_of inner)) (slots_of inner)) (made-slots says ancestors (n ∷ way) rest)

-- making a leaf anew keeps the tallies right
pub made-tallied : (says : List Say) (ancestors : List Tag) (way : List ℕ) (states : States) → AreTallied ancestors states
    → AreTallied ancestors (made_at says ancestors way states)
made-tallied says ancestors way no_states t = tt
made-tallied says ancestors [] (leaf_state leaf present rest) t = t
made-tallied says ancestors [] (container_state tag tally inner rest) t = t
made-tallied says ancestors (zero ∷ way) (leaf_state leaf present rest) t = t
made-tallied says ancestors (zero ∷ way) (container_state tag tally inner rest) t =
    (record { owned = refl; living = refl; gone = refl }, made-tallied says (tag ∷ ancestors) way inner t.1, t.2)
made-tallied says ancestors (suc n ∷ way) (leaf_state leaf present rest) t = made-tallied says ancestors (n ∷ way) rest t
made-tallied says ancestors (suc n ∷ way) (container_state tag tally inner rest) t = (t.0, t.1, made-tallied says ancestors (n ∷ way) rest t.2)

-- ---- one leaf less is pending

pub way-within : (way : List ℕ) (slots : Slots) → IsWay way slots → number_at way slots < leaf_count slots
way-within way no_slots is = absurd is
way-within [] (leaf_slot leaf rest) is = absurd is
way-within [] (container_slot tag kids inner rest) is = absurd is
way-within (zero ∷ way) (leaf_slot leaf rest) is = omega arith
way-within (zero ∷ way) (container_slot tag kids inner rest) is = omega (arith, way-within way inner is)
way-within (suc n ∷ way) (leaf_slot leaf rest) is = omega (arith, way-within (n ∷ way) rest is)
way-within (suc n ∷ way) (container_slot tag kids inner rest) is = omega (arith, way-within (n ∷ way) rest is)

-- the others are pending as before
other-pending : (pending : ℕ → Bool) (number n : ℕ) → ((n ≡ number) → ⊥) → made number pending n ≡ false → pending n ≡ false
other-pending pending number n apart free =
    sym (and-true (pending n)) ∙ ap (λ b. pending n && not b) (sym (ne_eqb n number apart)) ∙ free

same-made : (pending : ℕ → Bool) (says : List Say) (first a b : ℕ) (states : States) → a ≡ b
    → ArePassedBut (made a pending) says first states → ArePassedBut (made b pending) says first states
same-made pending says first a b states e p = subst (λ n. ArePassedBut (made n pending) says first states) e p

pub made-pending : (says : List Say) (pending : ℕ → Bool) (ancestors : List Tag) (first : ℕ) (way : List ℕ) (states : States) → IsWay way (slots_of states)
    → ArePassedBut pending says first states
    → ArePassedBut (made (first + number_at way (slots_of states)) pending) says first (made_at says ancestors way states)
made-pending says pending ancestors first way no_states is p = tt
made-pending says pending ancestors first [] (leaf_state leaf present rest) is p = absurd is
made-pending says pending ancestors first [] (container_state tag tally inner rest) is p = absurd is
made-pending says pending ancestors first (zero ∷ way) (leaf_state leaf present rest) is p = (
  λ free. refl,
  pending-other pending (made (first + 0) pending) says (first + 1) rest
      (λ n lt free. other-pending pending (first + 0) (first + 1 + n) (λ e. absurd (omega (arith, e))) free) p.1,
)
made-pending says pending ancestors first (zero ∷ way) (container_state tag tally inner rest) is p =
    let within = way-within way (slots_of inner) is in
    let number = first + number_at way (slots_of inner) in
    let same : states_count (made_at says (tag ∷ ancestors) way inner) ≡ states_count inner = ap leaf_count (made-slots says (tag ∷ ancestors) way inner) in (
      λ none. refl,
      made-pending says pending (tag ∷ ancestors) first way inner is p.1,
      subst (λ k. ArePassedBut (made number pending) says (first + k) rest) (sym same)
          (pending-other pending (made number pending) says (first + states_count inner) rest
          (λ n lt free. other-pending pending number (first + states_count inner + n) (λ e. absurd (omega (arith, e, within))) free) p.2),
    )
made-pending says pending ancestors first (suc n ∷ way) (leaf_state leaf present rest) is p =
    let k = number_at (n ∷ way) (slots_of rest) in (
      λ free. p.0 (other-pending pending (first + (1 + k)) first (λ e. absurd (omega (arith, e))) free),
      same-made pending says (first + 1) (first + 1 + k) (first + (1 + k)) (made_at says ancestors (n ∷ way) rest) (omega arith)
          (made-pending says pending ancestors (first + 1) (n ∷ way) rest is p.1),
    )
made-pending says pending ancestors first (suc n ∷ way) (container_state tag tally inner rest) is p =
    let k = number_at (n ∷ way) (slots_of rest) in
    let number = first + (states_count inner + k) in (
      λ none. p.0 (λ m lt. other-pending pending number (first + m) (λ e. absurd (omega (arith, e, lt))) (none m lt)),
      pending-other pending (made number pending) says first inner
          (λ m lt free. other-pending pending number (first + m) (λ e. absurd (omega (arith, e, lt))) free) p.1,
      same-made pending says (first + states_count inner) (first + states_count inner + k) number (made_at says ancestors (n ∷ way) rest) (omega arith)
          (made-pending says pending ancestors (first + states_count inner) (n ∷ way) rest is p.2),
    )

-- ---- all steps

pub each-slots : (says : List Say) (ancestors : List Tag) (ends : List (List ℕ)) (states : States) → slots_of (made_each says ancestors ends states) ≡ slots_of states
each-slots says ancestors [] _ = refl
each-slots says ancestors (way ∷ later) states = each-slots says ancestors later (made_at says ancestors way states) ∙ made-slots says ancestors way states

each-tallied : (says : List Say) (ancestors : List Tag) (ends : List (List ℕ)) (states : States) → AreTallied ancestors states
    → AreTallied ancestors (made_each says ancestors ends states)
each-tallied says ancestors [] _ t = t
each-tallied says ancestors (way ∷ later) states t =
    each-tallied says ancestors later (made_at says ancestors way states) (made-tallied says ancestors way states t)

-- a leaf that is pending no more after a step is the end of no later way
step-fewer : (slots : Slots) (way : List ℕ) (later : List (List ℕ)) (n : ℕ) → is_end slots later n ≡ false → made (number_at way slots) (is_end slots (way ∷ later)) n ≡ false
step-fewer slots way later n free = ap (λ b. (n == number_at way slots || b) && not (n == number_at way slots)) free ∙ at (n == number_at way slots)
  where
    at : (b : Bool) → ((b || false) && not b) ≡ false
    at true = refl
    at false = refl

each-passed : (says : List Say) (ancestors : List Tag) (ends : List (List ℕ)) (states : States) → AreWays ends (slots_of states)
    → ArePassedBut (is_end (slots_of states) ends) says 0 states → ArePassed says (made_each says ancestors ends states)
each-passed says ancestors [] states are p = pending-done (is_end (slots_of states) []) says 0 states (λ n lt. refl) p
each-passed says ancestors (way ∷ later) states are p =
    let next = made_at says ancestors way states in
    let same = made-slots says ancestors way states in
    let here : 0 + number_at way (slots_of states) ≡ number_at way (slots_of states) = omega arith in
    let step = subst (λ k. ArePassedBut (made k (is_end (slots_of states) (way ∷ later))) says 0 next) here
    (made-pending says (is_end (slots_of states) (way ∷ later)) ancestors 0 way states are.0 p) in
    each-passed says ancestors later next (subst (AreWays later) (sym same) are.1)
    (subst (λ slots. ArePassedBut (is_end slots later) says 0 next) (sym same)
    (pending-other (made (number_at way (slots_of states)) (is_end (slots_of states) (way ∷ later))) (is_end (slots_of states) later) says 0 next
    (λ n lt free. step-fewer (slots_of states) way later (0 + n) free) step))

-- the law of setting: where these ways lead to each leaf that holds a member or a marker of the revisions that are set, what was
-- current is current under the new says once each of these leaves is made anew
pub each-current : (is_set : ℕ → Bool) (old new : List Say) → SameBut is_set old new → (ancestors : List Tag) (ends : List (List ℕ)) (states : States)
    → IsUnheld is_set (slots_of states) → AreWays ends (slots_of states) → Covers (is_end (slots_of states) ends) is_set 0 (slots_of states)
    → AreCurrent old ancestors states → AreCurrent new ancestors (made_each new ancestors ends states)
each-current is_set old new same ancestors ends states unheld are covers now = record {
  passed = each-passed new ancestors ends states are
      (pending-begun is_set old new same (is_end (slots_of states) ends) 0 states unheld covers now.passed);
  tallied = each-tallied new ancestors ends states now.tallied;
}

-- the same of a story
pub story-set : (opens : List Tag → Tag → Bool) (is_set : ℕ → Bool) (old new : List Say) → SameBut is_set old new → (story : Element)
    (ends : List (List ℕ)) (states : States) → IsUnheld is_set (slots_in opens (story.tag ∷ []) story.kids) → AreWays ends (slots_of states)
    → Covers (is_end (slots_of states) ends) is_set 0 (slots_of states)
    → AreStatesOf opens old story states → AreStatesOf opens new story (made_each new (story.tag ∷ []) ends states)
story-set opens is_set old new same story ends states unheld are covers of = record {
  split = each-slots new (story.tag ∷ []) ends states ∙ of.split;
  current = each-current is_set old new same (story.tag ∷ []) ends states (subst (IsUnheld is_set) (sym of.split) unheld) are covers of.current;
}
