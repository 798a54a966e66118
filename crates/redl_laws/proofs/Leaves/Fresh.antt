-- States as they are at first: they are those under no says, and under says that all leave their revisions undecided.
use Rattle.std.proofs.Common.{Bool, ◌≡◌, ◌∙◌, refl, sym, ap, ℕ, zero, suc, ◌+◌, List, [], ◌∷◌, replicate, false, if◌then◌else◌}
use Rattle.redl_tree.specs.Model.Nodes.{Tag, Nodes, no_nodes, bytes, element}
use Rattle.redl_tree.specs.Model.View.{Element}
use Rattle.redl_tree.specs.Revisions.Markers.{is_own}
use Rattle.redl_tree.specs.Decisions.Fates.{say_of}
use Rattle.redl_tree.specs.Leaves.Slots.{Slots, no_slots, leaf_slot, container_slot, slots_in}
use Rattle.redl_tree.specs.Leaves.Rebuilt.{original}
use Rattle.redl_tree.specs.Leaves.Living.{holds_own_of_ancestor, owned}
use Rattle.redl_tree.specs.Leaves.Settings.{has_member, leaf_holds, IsUnheld}
use Rattle.redl_tree.specs.Leaves.States.{States, slots_of, states_owned, states_living, AreTallied, ArePassed, AreCurrent, fresh_states}
use Rattle.redl_tree.specs.Leaves.Shown.{AreStatesOf}
use Rattle.redl_tree.specs.declared.kinds.Say.{Say}
use Rattle.redl_tree.specs.declared.kinds.Say.TheVariants.{Keep}
use Rattle.redl_laws.proofs.Leaves.Containers.{AllContainers}
use Rattle.redl_laws.proofs.Leaves.Originals.{IsSplit, split-containers}
use Rattle.redl_laws.proofs.Leaves.States.{passed-unheld}
use Rattle.redl_laws.proofs.Leaves.Undecided.{say-none, pass_leaf-none, cut_at-none, stays-fresh}

-- their slots are those that they were made of
pub fresh-slots : (ancestors : List Tag) (slots : Slots) → AllContainers IsSplit ancestors slots → slots_of (fresh_states ancestors slots) ≡ slots
fresh-slots ancestors no_slots h = refl
fresh-slots ancestors (leaf_slot leaf rest) h = ap (leaf_slot leaf) (fresh-slots ancestors rest h)
fresh-slots ancestors (container_slot tag kids inner rest) h =
    let same = fresh-slots (tag ∷ ancestors) inner h.1 in
    ap (λ k. container_slot tag k (slots_of (fresh_states (tag ∷ ancestors) inner)) (slots_of (fresh_states ancestors rest))) (ap original same ∙ h.0)
    ∙ ap (λ i. container_slot tag kids i (slots_of (fresh_states ancestors rest))) same
    ∙ ap (container_slot tag kids inner) (fresh-slots ancestors rest h.2)

-- ---- their numbers

fresh-owned : (ancestors : List Tag) (slots : Slots) → states_owned ancestors (fresh_states ancestors slots) ≡ owned ancestors slots
fresh-owned ancestors no_slots = refl
fresh-owned ancestors (leaf_slot leaf rest) = fresh-owned ancestors rest
fresh-owned ancestors (container_slot tag kids inner rest) =
    ap (λ n. (if is_own ancestors tag then 1 else if holds_own_of_ancestor ancestors tag then owned (tag ∷ ancestors) inner else 0) + n) (fresh-owned ancestors rest)

fresh-living : (ancestors : List Tag) (slots : Slots) → states_living ancestors (fresh_states ancestors slots) ≡ owned ancestors slots
fresh-living ancestors no_slots = refl
fresh-living ancestors (leaf_slot leaf rest) = fresh-living ancestors rest
fresh-living ancestors (container_slot tag kids inner rest) =
    ap (λ n. (if is_own ancestors tag then 1 else if holds_own_of_ancestor ancestors tag then owned (tag ∷ ancestors) inner else 0) + n) (fresh-living ancestors rest)

fresh-tallied : (ancestors : List Tag) (slots : Slots) → AreTallied ancestors (fresh_states ancestors slots)
fresh-tallied ancestors no_slots = tt
fresh-tallied ancestors (leaf_slot leaf rest) = fresh-tallied ancestors rest
fresh-tallied ancestors (container_slot tag kids inner rest) = (
  record {
    owned = sym (fresh-owned (tag ∷ ancestors) inner);
    living = sym (fresh-living (tag ∷ ancestors) inner);
    gone = sym (stays-fresh ancestors tag (owned (tag ∷ ancestors) inner));
  },
  fresh-tallied (tag ∷ ancestors) inner,
  fresh-tallied ancestors rest,
)

-- ---- their nodes

fresh-passed : (ancestors : List Tag) (slots : Slots) → ArePassed [] (fresh_states ancestors slots)
fresh-passed ancestors no_slots = tt
fresh-passed ancestors (leaf_slot leaf rest) = (sym (pass_leaf-none leaf), fresh-passed ancestors rest)
fresh-passed ancestors (container_slot tag kids inner rest) = (
  sym (cut_at-none tag (original (slots_of (fresh_states (tag ∷ ancestors) inner)))),
  fresh-passed (tag ∷ ancestors) inner,
  fresh-passed ancestors rest,
)

-- ---- says that leave all undecided

-- nothing is set
none-held : (nodes : Nodes) → has_member (λ n. false) nodes ≡ false
none-held no_nodes = refl
none-held (bytes b rest) = none-held rest
none-held (element tag kids rest) = rw (none-held kids) (none-held rest)

slots-none : (slots : Slots) → leaf_holds (λ n. false) slots ≡ false
slots-none no_slots = refl
slots-none (leaf_slot leaf rest) = rw (none-held leaf.nodes) (slots-none rest)
slots-none (container_slot tag kids inner rest) = rw (slots-none inner) (slots-none rest)

none-unheld : (slots : Slots) → IsUnheld (λ n. false) slots
none-unheld no_slots = tt
none-unheld (leaf_slot leaf rest) = none-unheld rest
none-unheld (container_slot tag kids inner rest) = (refl, none-unheld inner, none-unheld rest)

-- states are passed alike under says that say the same of every revision
pub passed-alike : (old new : List Say) → ((n : ℕ) → say_of old n ≡ say_of new n) → (states : States) → ArePassed old states → ArePassed new states
passed-alike old new same states p =
    passed-unheld (λ n. false) old new (λ n no. same n) states (none-unheld (slots_of states)) (slots-none (slots_of states)) p

pub say-keeps : (n m : ℕ) → say_of (replicate n Keep) m ≡ Keep
say-keeps n zero = refl
say-keeps zero (suc m) = refl
say-keeps (suc n) (suc zero) = refl
say-keeps (suc n) (suc (suc m)) = say-keeps n (suc m)

-- the law: at first, states are current under says that leave each revision undecided
pub fresh-current : (count : ℕ) (ancestors : List Tag) (slots : Slots) → AreCurrent (replicate count Keep) ancestors (fresh_states ancestors slots)
fresh-current count ancestors slots = record {
  passed = passed-alike [] (replicate count Keep) (λ n. say-none n ∙ sym (say-keeps count n)) (fresh_states ancestors slots) (fresh-passed ancestors slots);
  tallied = fresh-tallied ancestors slots;
}

-- ---- a story

pub fresh-split : (opens : List Tag → Tag → Bool) (ancestors : List Tag) (kids : Nodes)
    → slots_of (fresh_states ancestors (slots_in opens ancestors kids)) ≡ slots_in opens ancestors kids
fresh-split opens ancestors kids = fresh-slots ancestors (slots_in opens ancestors kids) (split-containers opens ancestors kids)

-- the first states of a story are those under says that leave all undecided
pub fresh-story : (opens : List Tag → Tag → Bool) (count : ℕ) (story : Element)
    → AreStatesOf opens (replicate count Keep) story (fresh_states (story.tag ∷ []) (slots_in opens (story.tag ∷ []) story.kids))
fresh-story opens count story = record {
  split = fresh-split opens (story.tag ∷ []) story.kids;
  current = fresh-current count (story.tag ∷ []) (slots_in opens (story.tag ∷ []) story.kids);
}
