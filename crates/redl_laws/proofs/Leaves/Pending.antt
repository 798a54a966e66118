-- States while says are being set: at first all leaves that hold a member or a marker of the revisions that are set are pending,
-- one after the other is made anew, and in the end all are passed.
use Rattle.std.proofs.Common.{◌≡◌, ◌∙◌, refl, sym, ap, subst, ℕ, ◌+◌, ◌<◌, List, Bool, false, arith}
use Rattle.std.proofs.lemmas.Bool.{or_from}
use Rattle.redl_tree.specs.Leaves.Slots.{Slots, no_slots, leaf_slot, container_slot}
use Rattle.redl_tree.specs.Leaves.Leaf.{leaf_count}
use Rattle.redl_tree.specs.Leaves.Rebuilt.{original}
use Rattle.redl_tree.specs.Leaves.Settings.{SameBut, has_member, leaf_holds, IsUnheld}
use Rattle.redl_tree.specs.Leaves.States.{States, no_states, leaf_state, container_state, joined_states, slots_of, ArePassed}
use Rattle.redl_tree.specs.Leaves.Pending.{states_count, NonePending, ArePassedBut, Covers}
use Rattle.redl_tree.specs.declared.kinds.Say.{Say}
use Rattle.redl_laws.proofs.Leaves.Locality.{pass_leaf-same}
use Rattle.redl_laws.proofs.Leaves.Settings.{held-original}
use Rattle.redl_laws.proofs.Leaves.States.{cut_at-same}

-- ---- at first

earlier-none : (pending : ℕ → Bool) (first n m : ℕ) → NonePending pending first (n + m) → NonePending pending first n
earlier-none pending first n m none k lt = none k (omega arith)

later-none : (pending : ℕ → Bool) (first n m : ℕ) → NonePending pending first (n + m) → NonePending pending (first + n) m
later-none pending first n m none k lt =
    let same : first + n + k ≡ first + (n + k) = omega arith in
    ap pending same ∙ none (n + k) (omega arith)

first-none : (pending : ℕ → Bool) (first m : ℕ) → NonePending pending first (1 + m) → pending first ≡ false
first-none pending first m none =
    let same : first ≡ first + 0 = omega arith in
    ap pending same ∙ none 0 (omega arith)

-- where none of them is pending, they hold none
pub covered-none : (pending is_set : ℕ → Bool) (first : ℕ) (slots : Slots) → Covers pending is_set first slots
    → NonePending pending first (leaf_count slots) → leaf_holds is_set slots ≡ false
covered-none pending is_set first no_slots covers none = refl
covered-none pending is_set first (leaf_slot leaf rest) covers none =
    or_from (has_member is_set leaf.nodes) (leaf_holds is_set rest) (covers.0 (first-none pending first (leaf_count rest) none))
    (covered-none pending is_set (first + 1) rest covers.1 (later-none pending first 1 (leaf_count rest) none))
covered-none pending is_set first (container_slot tag kids inner rest) covers none =
    or_from (leaf_holds is_set inner) (leaf_holds is_set rest)
    (covered-none pending is_set first inner covers.0 (earlier-none pending first (leaf_count inner) (leaf_count rest) none))
    (covered-none pending is_set (first + leaf_count inner) rest covers.1 (later-none pending first (leaf_count inner) (leaf_count rest) none))

pub pending-begun : (is_set : ℕ → Bool) (old new : List Say) → SameBut is_set old new → (pending : ℕ → Bool) (first : ℕ) (states : States)
    → IsUnheld is_set (slots_of states) → Covers pending is_set first (slots_of states) → ArePassed old states → ArePassedBut pending new first states
pending-begun is_set old new same pending first no_states u covers p = tt
pending-begun is_set old new same pending first (leaf_state leaf present rest) u covers p = (
  λ no. p.0 ∙ pass_leaf-same is_set old new same leaf (covers.0 no),
  pending-begun is_set old new same pending (first + 1) rest u covers.1 p.1,
)
pending-begun is_set old new same pending first (container_state tag tally inner rest) u covers p = (
  λ none.
      p.0
      ∙ cut_at-same is_set old new same tag (original (slots_of inner))
      (held-original is_set (slots_of inner) u.1 ∙ covered-none pending is_set first (slots_of inner) covers.0 none),
  pending-begun is_set old new same pending first inner u.1 covers.0 p.1,
  pending-begun is_set old new same pending (first + states_count inner) rest u.2 covers.1 p.2,
)

-- ---- in the end

pub pending-done : (pending : ℕ → Bool) (says : List Say) (first : ℕ) (states : States) → NonePending pending first (states_count states)
    → ArePassedBut pending says first states → ArePassed says states
pending-done pending says first no_states none p = tt
pending-done pending says first (leaf_state leaf present rest) none p = (
  p.0 (first-none pending first (states_count rest) none),
  pending-done pending says (first + 1) rest (later-none pending first 1 (states_count rest) none) p.1,
)
pending-done pending says first (container_state tag tally inner rest) none p =
    let here = earlier-none pending first (states_count inner) (states_count rest) none in (
      p.0 here,
      pending-done pending says first inner here p.1,
      pending-done pending says (first + states_count inner) rest (later-none pending first (states_count inner) (states_count rest) none) p.2,
    )

-- ---- with other leaves pending

-- states stay passed but for the pending leaves where more leaves are pending
pub pending-other : (pending other : ℕ → Bool) (says : List Say) (first : ℕ) (states : States)
    → ((n : ℕ) → n < states_count states → other (first + n) ≡ false → pending (first + n) ≡ false)
    → ArePassedBut pending says first states → ArePassedBut other says first states
pending-other pending other says first no_states fewer p = tt
pending-other pending other says first (leaf_state leaf present rest) fewer p = (
  λ no.
      let here : first ≡ first + 0 = omega arith in
      p.0 (ap pending here ∙ fewer 0 (omega arith) (ap other (sym here) ∙ no)),
  pending-other pending other says (first + 1) rest (λ n lt no.
      let here : first + 1 + n ≡ first + (1 + n) = omega arith in
      ap pending here ∙ fewer (1 + n) (omega arith) (ap other (sym here) ∙ no)) p.1,
)
pending-other pending other says first (container_state tag tally inner rest) fewer p = (
  λ none. p.0 (λ n lt. fewer n (omega arith) (none n lt)),
  pending-other pending other says first inner (λ n lt no. fewer n (omega arith) no) p.1,
  pending-other pending other says (first + states_count inner) rest (λ n lt no.
      let here : first + states_count inner + n ≡ first + (states_count inner + n) = omega arith in
      ap pending here ∙ fewer (states_count inner + n) (omega arith) (ap other (sym here) ∙ no)) p.2,
)

-- ---- siblings

pub count-joined : (xs ys : States) → states_count (joined_states xs ys) ≡ states_count xs + states_count ys
count-joined no_states ys = omega arith
count-joined (leaf_state leaf present rest) ys = omega (arith, count-joined rest ys)
count-joined (container_state tag tally inner rest) ys = omega (arith, count-joined rest ys)

pub pending-joined : (pending : ℕ → Bool) (says : List Say) (first : ℕ) (xs ys : States) → ArePassedBut pending says first xs
    → ArePassedBut pending says (first + states_count xs) ys → ArePassedBut pending says first (joined_states xs ys)
pending-joined pending says first no_states ys p q =
    let here : first + 0 ≡ first = omega arith in
    subst (λ n. ArePassedBut pending says n ys) here q
pending-joined pending says first (leaf_state leaf present rest) ys p q =
    let here : first + (1 + states_count rest) ≡ first + 1 + states_count rest = omega arith in
    (p.0, pending-joined pending says (first + 1) rest ys p.1 (subst (λ n. ArePassedBut pending says n ys) here q))
pending-joined pending says first (container_state tag tally inner rest) ys p q =
    let here : first + (states_count inner + states_count rest) ≡ first + states_count inner + states_count rest = omega arith in
    (p.0, p.1, pending-joined pending says (first + states_count inner) rest ys p.2 (subst (λ n. ArePassedBut pending says n ys) here q))

pub pending-split : (pending : ℕ → Bool) (says : List Say) (first : ℕ) (xs ys : States) → ArePassedBut pending says first (joined_states xs ys)
    → ArePassedBut pending says first xs × ArePassedBut pending says (first + states_count xs) ys
pending-split pending says first no_states ys p =
    let here : first ≡ first + 0 = omega arith in
    (tt, subst (λ n. ArePassedBut pending says n ys) here p)
pending-split pending says first (leaf_state leaf present rest) ys p =
    let here : first + 1 + states_count rest ≡ first + (1 + states_count rest) = omega arith in
    let more = pending-split pending says (first + 1) rest ys p.1 in
    ((p.0, more.0), subst (λ n. ArePassedBut pending says n ys) here more.1)
pending-split pending says first (container_state tag tally inner rest) ys p =
    let here : first + states_count inner + states_count rest ≡ first + (states_count inner + states_count rest) = omega arith in
    let more = pending-split pending says (first + states_count inner) rest ys p.2 in
    ((p.0, p.1, more.0), subst (λ n. ArePassedBut pending says n ys) here more.1)
