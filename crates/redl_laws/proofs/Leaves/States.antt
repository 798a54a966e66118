-- What an editor keeps of a story gives the pass and the present leaves, and states that hold none of the revisions that are set
-- are current under the new says too.
use Rattle.std.proofs.Common.{◌≡◌, ◌∙◌, refl, sym, ap, subst, ℕ, ◌+◌, List, ◌∷◌, ◌++◌, Bool, true, false, ◌||◌, if◌then◌else◌}
use Rattle.std.proofs.lemmas.Bool.{or_parts}
use Rattle.redl_tree.specs.Model.Nodes.{Tag, Nodes, no_nodes, element, ◌⊕◌}
use Rattle.redl_tree.specs.Roles.Names.{is}
use Rattle.redl_tree.specs.Roles.Places.{is_open}
use Rattle.redl_tree.specs.Revisions.Markers.{is_own}
use Rattle.redl_tree.specs.Decisions.Pass.{pass}
use Rattle.redl_tree.specs.Decisions.Tables.{goes_at, row_is_cut, cell_is_cut}
use Rattle.redl_tree.specs.Leaves.Containers.{opens, opens_outer}
use Rattle.redl_tree.specs.Leaves.Slots.{slots_in}
use Rattle.redl_tree.specs.Leaves.Present.{pass_leaf, present_leaves}
use Rattle.redl_tree.specs.Leaves.Rebuilt.{rebuilt, original}
use Rattle.redl_tree.specs.Leaves.Living.{holds_own_of_ancestor, one_living, owned, living, cut_at, goes_by_counts}
use Rattle.redl_tree.specs.Leaves.Settings.{SameBut, has_member, leaf_holds, IsUnheld}
use Rattle.redl_tree.specs.Leaves.States.{States, no_states, leaf_state, container_state, slots_of, shown, lent, one_left, states_owned, states_living, AreTallied, ArePassed, AreCurrent}
use Rattle.redl_tree.specs.declared.kinds.Say.{Say}
use Rattle.redl_tree.proofs.Roles.Fits.{AllFit}
use Rattle.redl_laws.proofs.Leaves.StandIns.{AllPlain, plain-open}
use Rattle.redl_laws.proofs.Leaves.Rebuilt.{IsOpening, rebuilt-kids}
use Rattle.redl_laws.proofs.Leaves.Openings.{AnyPath, opens-opening, IsOuter, outer-opening}
use Rattle.redl_laws.proofs.Leaves.Containers.{AllContainers}
use Rattle.redl_laws.proofs.Leaves.Living.{IsCounted, counted-containers, counted-outer}
use Rattle.redl_laws.proofs.Leaves.Locality.{pass_leaf-same, cell_is_cut-same, row_is_cut-same, if-same}
use Rattle.redl_laws.proofs.Leaves.Settings.{held-original}

-- ---- tallies

-- the own rows or cells are those of the slots
pub states-owned : (ancestors : List Tag) (states : States) → AreTallied ancestors states → states_owned ancestors states ≡ owned ancestors (slots_of states)
states-owned ancestors no_states h = refl
states-owned ancestors (leaf_state leaf present rest) h = states-owned ancestors rest h
states-owned ancestors (container_state tag tally inner rest) h =
    ap (λ n. (if is_own ancestors tag then 1 else if holds_own_of_ancestor ancestors tag then n else 0) + states_owned ancestors rest)
    (h.0.owned ∙ states-owned (tag ∷ ancestors) inner h.1)
    ∙ ap (λ n. (if is_own ancestors tag then 1 else if holds_own_of_ancestor ancestors tag then owned (tag ∷ ancestors) (slots_of inner) else 0) + n)
    (states-owned ancestors rest h.2)

-- each container goes where its tally says so
abbrev pub GoAsTallied : List Say → List Tag → States → Type 0
GoAsTallied says ancestors no_states = Unit {0}
GoAsTallied says ancestors (leaf_state leaf present rest) = GoAsTallied says ancestors rest
GoAsTallied says ancestors (container_state tag tally inner rest) =
    (tally.gone ≡ goes_at says ancestors tag (original (slots_of inner))) × GoAsTallied says (tag ∷ ancestors) inner × GoAsTallied says ancestors rest

-- so the rows or cells that stay are those of the slots
pub states-living : (says : List Say) (ancestors : List Tag) (states : States) → AreTallied ancestors states → GoAsTallied says ancestors states
    → states_living ancestors states ≡ living says ancestors (slots_of states)
states-living says ancestors no_states h g = refl
states-living says ancestors (leaf_state leaf present rest) h g = states-living says ancestors rest h g
states-living says ancestors (container_state tag tally inner rest) h g =
    ap (λ b. (if is_own ancestors tag then one_left b else if holds_own_of_ancestor ancestors tag then tally.living else 0) + states_living ancestors rest) g.0
    ∙ ap (λ n. (if is_own ancestors tag then one_living says ancestors tag (original (slots_of inner)) else if holds_own_of_ancestor ancestors tag then n else 0) + states_living ancestors rest)
    (h.0.living ∙ states-living says (tag ∷ ancestors) inner h.1 g.1)
    ∙ ap (λ n. (if is_own ancestors tag then one_living says ancestors tag (original (slots_of inner)) else if holds_own_of_ancestor ancestors tag then living says (tag ∷ ancestors) (slots_of inner) else 0) + n)
    (states-living says ancestors rest h.2 g.2)

go-tallied : (says : List Say) (ancestors : List Tag) (states : States) → ArePassed says states → AreTallied ancestors states
    → AllContainers (IsCounted says) ancestors (slots_of states) → GoAsTallied says ancestors states
go-tallied says ancestors no_states p t c = tt
go-tallied says ancestors (leaf_state leaf present rest) p t c = go-tallied says ancestors rest p.1 t c
go-tallied says ancestors (container_state tag tally inner rest) p t c =
    let below = go-tallied says (tag ∷ ancestors) inner p.1 t.1 c.1 in (
      t.0.gone
          ∙ ap (λ b. goes_by_counts ancestors tag b tally.owned tally.living) p.0
          ∙ ap (λ n. goes_by_counts ancestors tag (cut_at says tag (original (slots_of inner))) n tally.living)
          (t.0.owned ∙ states-owned (tag ∷ ancestors) inner t.1)
          ∙ ap (goes_by_counts ancestors tag (cut_at says tag (original (slots_of inner))) (owned (tag ∷ ancestors) (slots_of inner)))
          (t.0.living ∙ states-living says (tag ∷ ancestors) inner t.1 below)
          ∙ sym c.0,
      below,
      go-tallied says ancestors rest p.2 t.2 c.2,
    )

-- ---- what is written, and what is lent

shown-rebuilt : (says : List Say) (ancestors : List Tag) (states : States) → ArePassed says states → GoAsTallied says ancestors states
    → shown states ≡ rebuilt says ancestors (slots_of states)
shown-rebuilt says ancestors no_states p g = refl
shown-rebuilt says ancestors (leaf_state leaf present rest) p g =
    ap (λ ns. ns ⊕ shown rest) p.0 ∙ ap (λ ns. pass_leaf says leaf ⊕ ns) (shown-rebuilt says ancestors rest p.1 g)
shown-rebuilt says ancestors (container_state tag tally inner rest) p g =
    ap (λ b. (if b then no_nodes else element tag (shown inner) no_nodes) ⊕ shown rest) g.0
    ∙ ap (λ ns. (if goes_at says ancestors tag (original (slots_of inner)) then no_nodes else element tag ns no_nodes) ⊕ shown rest)
    (shown-rebuilt says (tag ∷ ancestors) inner p.1 g.1)
    ∙ ap (λ ns. (if goes_at says ancestors tag (original (slots_of inner)) then no_nodes else element tag (rebuilt says (tag ∷ ancestors) (slots_of inner)) no_nodes) ⊕ ns)
    (shown-rebuilt says ancestors rest p.2 g.2)

lent-walk : (says : List Say) (gone : Bool) (ancestors : List Tag) (states : States) → ArePassed says states → GoAsTallied says ancestors states
    → lent gone states ≡ present_leaves says gone ancestors (slots_of states)
lent-walk says gone ancestors no_states p g = refl
lent-walk says gone ancestors (leaf_state leaf present rest) p g =
    ap (λ ns. (if gone then no_nodes else ns) ∷ lent gone rest) p.0
    ∙ ap (λ ls. (if gone then no_nodes else pass_leaf says leaf) ∷ ls) (lent-walk says gone ancestors rest p.1 g)
lent-walk says gone ancestors (container_state tag tally inner rest) p g =
    ap (λ b. lent (b || gone) inner ++ lent gone rest) g.0
    ∙ ap (λ ls. ls ++ lent gone rest)
    (lent-walk says (goes_at says ancestors tag (original (slots_of inner)) || gone) (tag ∷ ancestors) inner p.1 g.1)
    ∙ ap (λ ls. present_leaves says (goes_at says ancestors tag (original (slots_of inner)) || gone) (tag ∷ ancestors) (slots_of inner) ++ ls)
    (lent-walk says gone ancestors rest p.2 g.2)

-- ---- a story

-- what is needed of a test of which elements are containers
pub record IsCountedOpening (opens : List Tag → Tag → Bool) (IsPath : List Tag → Type 0) : Type 0 where
  pub opening : IsOpening opens IsPath
  pub counted : (says : List Say) (ancestors : List Tag) (kids : Nodes) → is_open ancestors ≡ true → AllContainers (IsCounted says) ancestors (slots_in opens ancestors kids)

pub whole_opening : IsCountedOpening opens AnyPath
whole_opening = record { opening = opens-opening; counted = λ says ancestors kids loud. counted-containers says ancestors kids loud }

pub outer_opening : IsCountedOpening opens_outer IsOuter
outer_opening = record { opening = outer-opening; counted = λ says ancestors kids loud. counted-outer says ancestors kids }

module _ (opens : List Tag → Tag → Bool) (IsPath : List Tag → Type 0) (is : IsCountedOpening opens IsPath) where
  -- the containers go where their tallies say so
  go-split : (says : List Say) (ancestors : List Tag) (kids : Nodes) (kept : States) → is_open ancestors ≡ true
      → slots_of kept ≡ slots_in opens ancestors kids → AreCurrent says ancestors kept → GoAsTallied says ancestors kept
  go-split says ancestors kids kept loud split now =
      go-tallied says ancestors kept now.passed now.tallied
      (subst (AllContainers (IsCounted says) ancestors) (sym split) (is.counted says ancestors kids loud))

  -- the law of states: where their slots are those of the split, and they are current, what is written is the pass
  pub shown-pass : (says : List Say) (ancestors : List Tag) (kids : Nodes) (kept : States) → IsPath ancestors → AllPlain ancestors → AllFit ancestors kids
      → slots_of kept ≡ slots_in opens ancestors kids → AreCurrent says ancestors kept → shown kept ≡ pass says ancestors kids
  shown-pass says ancestors kids kept path plain fit split now =
      shown-rebuilt says ancestors kept now.passed (go-split says ancestors kids kept (plain-open ancestors plain) split now)
      ∙ ap (rebuilt says ancestors) split
      ∙ rebuilt-kids opens IsPath is.opening says ancestors kids path plain fit

  -- and the leaves that are lent are the present leaves
  pub lent-present : (says : List Say) (gone : Bool) (ancestors : List Tag) (kids : Nodes) (kept : States) → is_open ancestors ≡ true
      → slots_of kept ≡ slots_in opens ancestors kids → AreCurrent says ancestors kept
      → lent gone kept ≡ present_leaves says gone ancestors (slots_in opens ancestors kids)
  lent-present says gone ancestors kids kept loud split now =
      lent-walk says gone ancestors kept now.passed (go-split says ancestors kids kept loud split now)
      ∙ ap (present_leaves says gone ancestors) split

-- ---- says that are set

module _ (is_set : ℕ → Bool) (old new : List Say) (same : SameBut is_set old new) where
  pub cut_at-same : (tag : Tag) (kids : Nodes) → has_member is_set kids ≡ false → cut_at old tag kids ≡ cut_at new tag kids
  cut_at-same tag kids h =
      if-same (is "tc" tag) (cell_is_cut old kids) _ (cell_is_cut new kids) _ (cell_is_cut-same is_set old new same kids h)
      (if-same (is "tr" tag) (row_is_cut old kids) false (row_is_cut new kids) false (row_is_cut-same is_set old new same kids h) refl)

  -- States that hold none of the revisions that are set are passed as they were. Their tallies speak of no says.
  pub passed-unheld : (states : States) → IsUnheld is_set (slots_of states) → leaf_holds is_set (slots_of states) ≡ false
      → ArePassed old states → ArePassed new states
  passed-unheld no_states u k p = tt
  passed-unheld (leaf_state leaf present rest) u k p = (
    p.0 ∙ pass_leaf-same is_set old new same leaf (or_parts (has_member is_set leaf.nodes) (leaf_holds is_set (slots_of rest)) k).0,
    passed-unheld rest u (or_parts (has_member is_set leaf.nodes) (leaf_holds is_set (slots_of rest)) k).1 p.1,
  )
  passed-unheld (container_state tag tally inner rest) u k p =
      let below = (or_parts (leaf_holds is_set (slots_of inner)) (leaf_holds is_set (slots_of rest)) k).0 in (
        p.0 ∙ cut_at-same tag (original (slots_of inner)) (held-original is_set (slots_of inner) u.1 ∙ below),
        passed-unheld inner u.1 below p.1,
        passed-unheld rest u.2 (or_parts (leaf_holds is_set (slots_of inner)) (leaf_holds is_set (slots_of rest)) k).1 p.2,
      )
