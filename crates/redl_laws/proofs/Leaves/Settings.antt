-- What stays as it was where says are set: the numbers and leaves of containers none of whose leaves holds a member or a marker
-- of the revisions that are set.
use Rattle.std.proofs.Common.{◌≡◌, ◌∙◌, refl, ap, sym, ℕ, ◌+◌, List, ◌∷◌, ◌++◌, Bool, false, ◌||◌, if◌then◌else◌}
use Rattle.std.proofs.lemmas.Bool.{or_parts}
use Rattle.redl_tree.specs.Model.Nodes.{Tag, Nodes, no_nodes}
use Rattle.redl_tree.specs.Revisions.Markers.{is_own}
use Rattle.redl_tree.specs.Decisions.Tables.{goes_at}
use Rattle.redl_tree.specs.Leaves.Settings.{SameBut, has_member, leaf_holds, IsUnheld}
use Rattle.redl_tree.specs.Leaves.Slots.{Slots, no_slots, leaf_slot, container_slot}
use Rattle.redl_tree.specs.Leaves.Present.{pass_leaf, present_leaves}
use Rattle.redl_tree.specs.Leaves.Living.{holds_own_of_ancestor, one_living, living}
use Rattle.redl_tree.specs.Leaves.Rebuilt.{original}
use Rattle.redl_tree.specs.declared.kinds.Say.{Say}
use Rattle.redl_laws.proofs.Leaves.Containers.{AllContainers}
use Rattle.redl_laws.proofs.Leaves.Locality.{has_member-⊕, goes_at-same, pass_leaf-same}
use Rattle.redl_laws.proofs.Leaves.Originals.{IsSplit}

pub held-original : (is_set : ℕ → Bool) (slots : Slots) → IsUnheld is_set slots → has_member is_set (original slots) ≡ leaf_holds is_set slots
held-original is_set no_slots h = refl
held-original is_set (leaf_slot leaf rest) h =
    has_member-⊕ is_set leaf.nodes (original rest) ∙ ap (λ b. has_member is_set leaf.nodes || b) (held-original is_set rest h)
held-original is_set (container_slot tag kids inner rest) h =
    ap (λ b. b || has_member is_set (original inner) || has_member is_set (original rest)) h.0
    ∙ ap (λ b. b || has_member is_set (original rest)) (held-original is_set inner h.1)
    ∙ ap (λ b. leaf_holds is_set inner || b) (held-original is_set rest h.2)

module _ (is_set : ℕ → Bool) (old new : List Say) (same : SameBut is_set old new) where
  -- the container goes where it went before, and nowhere else, where none of its leaves holds one
  pub container-same : (ancestors : List Tag) (tag : Tag) (kids : Nodes) (inner : Slots) →
      original inner ≡ kids → IsUnheld is_set inner → leaf_holds is_set inner ≡ false → goes_at old ancestors tag kids ≡ goes_at new ancestors tag kids
  container-same ancestors tag kids inner f u h =
      goes_at-same is_set old new same ancestors tag kids (ap (has_member is_set) (sym f) ∙ held-original is_set inner u ∙ h)

  -- the numbers of rows and cells that stay change along the paths to leaves that hold one, and nowhere else
  pub living-unheld : (ancestors : List Tag) (slots : Slots) →
      AllContainers IsSplit ancestors slots → IsUnheld is_set slots → leaf_holds is_set slots ≡ false →
      living old ancestors slots ≡ living new ancestors slots
  living-unheld ancestors no_slots f u h = refl
  living-unheld ancestors (leaf_slot leaf rest) f u h =
      living-unheld ancestors rest f u (or_parts (has_member is_set leaf.nodes) (leaf_holds is_set rest) h).1
  living-unheld ancestors (container_slot tag kids inner rest) f u h =
      let below = (or_parts (leaf_holds is_set inner) (leaf_holds is_set rest) h).0 in
      ap (λ b. (if is_own ancestors tag then (if b then 0 else 1) else if holds_own_of_ancestor ancestors tag then living old (tag ∷ ancestors) inner else 0) + living old ancestors rest)
      (container-same ancestors tag kids inner f.0 u.1 below)
      ∙ ap (λ n. (if is_own ancestors tag then one_living new ancestors tag kids else if holds_own_of_ancestor ancestors tag then n else 0) + living old ancestors rest)
      (living-unheld (tag ∷ ancestors) inner f.1 u.1 below)
      ∙ ap (λ n. (if is_own ancestors tag then one_living new ancestors tag kids else if holds_own_of_ancestor ancestors tag then living new (tag ∷ ancestors) inner else 0) + n)
      (living-unheld ancestors rest f.2 u.2 (or_parts (leaf_holds is_set inner) (leaf_holds is_set rest) h).1)

  -- the present leaves of slots that hold none stay, but where a container round all of them goes or stays again
  pub present-unheld : (gone : Bool) (ancestors : List Tag) (slots : Slots) →
      AllContainers IsSplit ancestors slots → IsUnheld is_set slots → leaf_holds is_set slots ≡ false →
      present_leaves old gone ancestors slots ≡ present_leaves new gone ancestors slots
  present-unheld gone ancestors no_slots f u h = refl
  present-unheld gone ancestors (leaf_slot leaf rest) f u h =
      ap (λ ns. (if gone then no_nodes else ns) ∷ present_leaves old gone ancestors rest)
      (pass_leaf-same is_set old new same leaf (or_parts (has_member is_set leaf.nodes) (leaf_holds is_set rest) h).0)
      ∙ ap (λ ls. (if gone then no_nodes else pass_leaf new leaf) ∷ ls)
      (present-unheld gone ancestors rest f u (or_parts (has_member is_set leaf.nodes) (leaf_holds is_set rest) h).1)
  present-unheld gone ancestors (container_slot tag kids inner rest) f u h =
      let below = (or_parts (leaf_holds is_set inner) (leaf_holds is_set rest) h).0 in
      ap (λ b. present_leaves old (b || gone) (tag ∷ ancestors) inner ++ present_leaves old gone ancestors rest)
      (container-same ancestors tag kids inner f.0 u.1 below)
      ∙ ap (λ ls. ls ++ present_leaves old gone ancestors rest)
      (present-unheld (goes_at new ancestors tag kids || gone) (tag ∷ ancestors) inner f.1 u.1 below)
      ∙ ap (λ ls. present_leaves new (goes_at new ancestors tag kids || gone) (tag ∷ ancestors) inner ++ ls)
      (present-unheld gone ancestors rest f.2 u.2 (or_parts (leaf_holds is_set inner) (leaf_holds is_set rest) h).1)
