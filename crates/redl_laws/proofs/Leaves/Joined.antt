-- States that are siblings: what holds of the earlier and of the later ones, and one of them that is replaced.
use Rattle.std.proofs.Common.{◌≡◌, ◌∙◌, refl, sym, ap, ℕ, ◌+◌, List, ◌∷◌, ◌++◌, append_assoc, Bool, ◌||◌, if◌then◌else◌, arith}
use Rattle.std.proofs.Math.Bool.{or_assoc}
use Rattle.redl_tree.specs.Model.Nodes.{Tag, no_nodes, element, ◌⊕◌}
use Rattle.redl_tree.specs.Leaves.Slots.{Slots, no_slots, leaf_slot, container_slot, joined_slots}
use Rattle.redl_tree.specs.Leaves.Rebuilt.{original}
use Rattle.redl_tree.specs.Leaves.Living.{goes_by_counts}
use Rattle.redl_tree.specs.Leaves.Settings.{has_member, leaf_holds, IsUnheld}
use Rattle.redl_tree.specs.Leaves.States.{Tally, States, no_states, leaf_state, container_state, joined_states, slots_of, shown, lent, states_owned, states_living, IsTally, AreTallied, ArePassed}
use Rattle.redl_tree.specs.declared.kinds.Say.{Say}
use Rattle.redl_tree.proofs.Model.Laws.{⊕_assoc}

-- ---- slots

pub original-joined : (xs ys : Slots) → original (joined_slots xs ys) ≡ original xs ⊕ original ys
original-joined no_slots ys = refl
original-joined (leaf_slot leaf rest) ys = ap (λ n. leaf.nodes ⊕ n) (original-joined rest ys) ∙ sym (⊕_assoc leaf.nodes (original rest) (original ys))
original-joined (container_slot tag kids inner rest) ys = ap (element tag (original inner)) (original-joined rest ys)

pub holds-joined : (is_set : ℕ → Bool) (xs ys : Slots) → leaf_holds is_set (joined_slots xs ys) ≡ (leaf_holds is_set xs || leaf_holds is_set ys)
holds-joined is_set no_slots ys = refl
holds-joined is_set (leaf_slot leaf rest) ys =
    ap (λ b. has_member is_set leaf.nodes || b) (holds-joined is_set rest ys) ∙ sym (or_assoc (has_member is_set leaf.nodes) (leaf_holds is_set rest) (leaf_holds is_set ys))
holds-joined is_set (container_slot tag kids inner rest) ys =
    ap (λ b. leaf_holds is_set inner || b) (holds-joined is_set rest ys) ∙ sym (or_assoc (leaf_holds is_set inner) (leaf_holds is_set rest) (leaf_holds is_set ys))

pub unheld-split : (is_set : ℕ → Bool) (xs ys : Slots) → IsUnheld is_set (joined_slots xs ys) → IsUnheld is_set xs × IsUnheld is_set ys
unheld-split is_set no_slots ys u = (tt, u)
unheld-split is_set (leaf_slot leaf rest) ys u = unheld-split is_set rest ys u
unheld-split is_set (container_slot tag kids inner rest) ys u = let more = unheld-split is_set rest ys u.2 in ((u.0, u.1, more.0), more.1)

-- ---- states

-- no states after others change nothing
pub joined-none : (xs : States) → joined_states xs no_states ≡ xs
joined-none no_states = refl
joined-none (leaf_state leaf present rest) = ap (leaf_state leaf present) (joined-none rest)
joined-none (container_state tag tally inner rest) = ap (container_state tag tally inner) (joined-none rest)

pub joined-assoc : (xs ys zs : States) → joined_states (joined_states xs ys) zs ≡ joined_states xs (joined_states ys zs)
joined-assoc no_states ys zs = refl
joined-assoc (leaf_state leaf present rest) ys zs = ap (leaf_state leaf present) (joined-assoc rest ys zs)
joined-assoc (container_state tag tally inner rest) ys zs = ap (container_state tag tally inner) (joined-assoc rest ys zs)

pub slots-joined : (xs ys : States) → slots_of (joined_states xs ys) ≡ joined_slots (slots_of xs) (slots_of ys)
slots-joined no_states ys = refl
slots-joined (leaf_state leaf present rest) ys = ap (leaf_slot leaf) (slots-joined rest ys)
slots-joined (container_state tag tally inner rest) ys = ap (container_slot tag (original (slots_of inner)) (slots_of inner)) (slots-joined rest ys)

pub shown-joined : (xs ys : States) → shown (joined_states xs ys) ≡ shown xs ⊕ shown ys
shown-joined no_states ys = refl
shown-joined (leaf_state leaf present rest) ys = ap (λ n. present ⊕ n) (shown-joined rest ys) ∙ sym (⊕_assoc present (shown rest) (shown ys))
shown-joined (container_state tag tally inner rest) ys =
    let here = if tally.gone then no_nodes else element tag (shown inner) no_nodes in
    ap (λ n. here ⊕ n) (shown-joined rest ys) ∙ sym (⊕_assoc here (shown rest) (shown ys))

pub lent-joined : (gone : Bool) (xs ys : States) → lent gone (joined_states xs ys) ≡ lent gone xs ++ lent gone ys
lent-joined gone no_states ys = refl
lent-joined gone (leaf_state leaf present rest) ys = ap (λ ls. (if gone then no_nodes else present) ∷ ls) (lent-joined gone rest ys)
lent-joined gone (container_state tag tally inner rest) ys =
    ap (λ ls. lent (tally.gone || gone) inner ++ ls) (lent-joined gone rest ys)
    ∙ sym (append_assoc (lent (tally.gone || gone) inner) (lent gone rest) (lent gone ys))

pub owned-joined : (ancestors : List Tag) (xs ys : States) → states_owned ancestors (joined_states xs ys) ≡ states_owned ancestors xs + states_owned ancestors ys
owned-joined ancestors no_states ys = omega arith
owned-joined ancestors (leaf_state leaf present rest) ys = owned-joined ancestors rest ys
owned-joined ancestors (container_state tag tally inner rest) ys = omega (arith, owned-joined ancestors rest ys)

pub living-joined : (ancestors : List Tag) (xs ys : States) → states_living ancestors (joined_states xs ys) ≡ states_living ancestors xs + states_living ancestors ys
living-joined ancestors no_states ys = omega arith
living-joined ancestors (leaf_state leaf present rest) ys = living-joined ancestors rest ys
living-joined ancestors (container_state tag tally inner rest) ys = omega (arith, living-joined ancestors rest ys)

pub tallied-joined : (ancestors : List Tag) (xs ys : States) → AreTallied ancestors xs → AreTallied ancestors ys → AreTallied ancestors (joined_states xs ys)
tallied-joined ancestors no_states ys h k = k
tallied-joined ancestors (leaf_state leaf present rest) ys h k = tallied-joined ancestors rest ys h k
tallied-joined ancestors (container_state tag tally inner rest) ys h k = (h.0, h.1, tallied-joined ancestors rest ys h.2 k)

pub tallied-split : (ancestors : List Tag) (xs ys : States) → AreTallied ancestors (joined_states xs ys) → AreTallied ancestors xs × AreTallied ancestors ys
tallied-split ancestors no_states ys h = (tt, h)
tallied-split ancestors (leaf_state leaf present rest) ys h = tallied-split ancestors rest ys h
tallied-split ancestors (container_state tag tally inner rest) ys h = let more = tallied-split ancestors rest ys h.2 in ((h.0, h.1, more.0), more.1)

pub passed-joined : (says : List Say) (xs ys : States) → ArePassed says xs → ArePassed says ys → ArePassed says (joined_states xs ys)
passed-joined says no_states ys h k = k
passed-joined says (leaf_state leaf present rest) ys h k = (h.0, passed-joined says rest ys h.1 k)
passed-joined says (container_state tag tally inner rest) ys h k = (h.0, h.1, passed-joined says rest ys h.2 k)

pub passed-split : (says : List Say) (xs ys : States) → ArePassed says (joined_states xs ys) → ArePassed says xs × ArePassed says ys
passed-split says no_states ys h = (tt, h)
passed-split says (leaf_state leaf present rest) ys h = let more = passed-split says rest ys h.1 in ((h.0, more.0), more.1)
passed-split says (container_state tag tally inner rest) ys h = let more = passed-split says rest ys h.2 in ((h.0, h.1, more.0), more.1)

-- ---- one of some siblings is replaced: those before it, itself, those after it

-- the numbers change by the difference
pub living-replaced : (ancestors : List Tag) (before old new after : States)
    → states_living ancestors (joined_states before (joined_states new after)) + states_living ancestors old
    ≡ states_living ancestors (joined_states before (joined_states old after)) + states_living ancestors new
living-replaced ancestors before old new after =
    omega (
      arith,
      living-joined ancestors before (joined_states new after),
      living-joined ancestors new after,
      living-joined ancestors before (joined_states old after),
      living-joined ancestors old after,
    )

pub owned-replaced : (ancestors : List Tag) (before old new after : States) → states_owned ancestors new ≡ states_owned ancestors old
    → states_owned ancestors (joined_states before (joined_states new after)) ≡ states_owned ancestors (joined_states before (joined_states old after))
owned-replaced ancestors before old new after e =
    omega (
      arith,
      e,
      owned-joined ancestors before (joined_states new after),
      owned-joined ancestors new after,
      owned-joined ancestors before (joined_states old after),
      owned-joined ancestors old after,
    )

-- the others stay tallied
pub tallied-replaced : (ancestors : List Tag) (before old new after : States) → AreTallied ancestors (joined_states before (joined_states old after))
    → AreTallied ancestors new → AreTallied ancestors (joined_states before (joined_states new after))
tallied-replaced ancestors before old new after h now =
    let split = tallied-split ancestors before (joined_states old after) h in
    tallied-joined ancestors before (joined_states new after) split.0
    (tallied-joined ancestors new after now (tallied-split ancestors old after split.1).1)

-- one step up a path: the tally of the container round them is mended by the difference
pub tally-mended : (ancestors : List Tag) (tag : Tag) (before old new after : States) (was now : Tally)
    → IsTally ancestors tag was (joined_states before (joined_states old after))
    → states_owned (tag ∷ ancestors) new ≡ states_owned (tag ∷ ancestors) old
    → now.owned ≡ was.owned
    → now.living + states_living (tag ∷ ancestors) old ≡ was.living + states_living (tag ∷ ancestors) new
    → now.gone ≡ goes_by_counts ancestors tag now.cut now.owned now.living
    → IsTally ancestors tag now (joined_states before (joined_states new after))
tally-mended ancestors tag before old new after was now had own same mended gone = record {
  owned = same ∙ had.owned ∙ sym (owned-replaced (tag ∷ ancestors) before old new after own);
  living = omega (arith, mended, had.living, living-replaced (tag ∷ ancestors) before old new after);
  gone = gone;
}
