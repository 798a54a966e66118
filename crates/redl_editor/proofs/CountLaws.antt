-- Each leaf that a setting makes anew is counted: the steps rise by at least its nodes.
use Rattle.std.proofs.Common.{◌≡◌, ◌≤◌, ◌+◌, ◌==◌, ◌||◌, ◌⊎◌, not, inl, inr, ℕ, zero, suc, Bool, true, false, Vec, List, [], ◌∷◌, ◌++◌, length, map, slice_get, Some, Result, Ok, Err, OnOk, refl, sym, ap, ◌∙◌, true≢false, arith}
use Rattle.std.specs.Global.{Global}
use Rattle.std.proofs.lemmas.Bool.{eqb-true}
use Rattle.redl_editor.specs.Changes.{is_changed}
use Rattle.redl_editor.specs.Costs.{AreCounted}
use Rattle.redl_editor.specs.Inside.Makes.{all_made_count, made_count}
use Rattle.redl_editor.specs.Kept.{AreChanges, AreKept, AreReady, AreUnheld, IsKept, IsReady}
use Rattle.redl_editor.specs.Stories.{states_kept}
use Rattle.redl_editor.specs.declared.story.Story.{Story}
use Rattle.redl_editor.specs.declared.table.Table.{Table}
use Rattle.redl_laws.proofs.Leaves.Lending.{leaf-numbered}
use Rattle.redl_laws.proofs.Leaves.Places.{list-count, paths-leaves}
use Rattle.redl_leaves.specs.Steps.{AreMade, way_of}
use Rattle.redl_leaves.specs.declared.stepping.Made.{Made}
use Rattle.redl_tree.specs.Decisions.Fates.{say_of}
use Rattle.redl_tree.specs.Leaves.Containers.{opens}
use Rattle.redl_tree.specs.Leaves.Leaf.{LeafPath, leaf_count, leaf_list, leaves}
use Rattle.redl_tree.specs.Leaves.Pending.{Covers}
use Rattle.redl_tree.specs.Leaves.Present.{pass_leaf}
use Rattle.redl_tree.specs.Leaves.Settings.{IsUnheld, has_member, same_say}
use Rattle.redl_tree.specs.Leaves.Slots.{Leaf, Slots, container_slot, leaf_slot, no_slots, slots_in}
use Rattle.redl_tree.specs.Leaves.States.{States, slots_of}
use Rattle.redl_tree.specs.Leaves.Ways.{AreWays, is_end, leaf_at, number_at}
use Rattle.redl_tree.specs.Model.Count.{count}
use Rattle.redl_tree.specs.Model.Nodes.{Nodes, bytes, element, no_nodes}
use Rattle.redl_tree.specs.Model.View.{Element}
use Rattle.redl_tree.specs.declared.kinds.Say.{Say}
use Rattle.redl_tree.specs.declared.kinds.Say.TheVariants.{Accept, Keep, Reject}

-- ---- answers and places in lists

pub on-ok : {T E : Type 0} {P Q : Type 0} (answer : Result T E) → (P → Q) → OnOk answer P → OnOk answer Q
on-ok (Ok x) f p = f p
on-ok (Err e) f p = p

-- what stands in two lists stands in the first, or in the second behind it
abbrev StandsIn : {X : Type 0} → List X → List X → ℕ → X → Type 0
StandsIn xs ys n x = (slice_get xs n ≡ Some x) ⊎ ((m : ℕ) × (n ≡ length xs + m) × (slice_get ys m ≡ Some x))

stands-in : {X : Type 0} (xs ys : List X) (n : ℕ) (x : X) → slice_get (xs ++ ys) n ≡ Some x → StandsIn xs ys n x
stands-in [] ys n x at = inr (n, omega arith, at)
stands-in (y ∷ xs) ys zero x at = inl at
stands-in (y ∷ xs) ys (suc n) x at = more (stands-in xs ys n x at)
  where
    more : StandsIn xs ys n x → StandsIn (y ∷ xs) ys (suc n) x
    more (inl here) = inl here
    more (inr (m, is, there)) = inr (m, omega (arith, is), there)

pub get-map : {X Y : Type 0} (f : X → Y) (xs : List X) (n : ℕ) (x : X) → slice_get xs n ≡ Some x → slice_get (map f xs) n ≡ Some (f x)
get-map f [] n x at = absurd (cc)
get-map f (y ∷ xs) zero x at =
    let is : y ≡ x = cc in
    ap (λ z. Some (f z)) is
get-map f (y ∷ xs) (suc n) x at = get-map f xs n x at

-- ---- a leaf that holds one is made

-- it is among those that are to be made
covers-at : (pending is_set : ℕ → Bool) (first : ℕ) (slots : Slots) → Covers pending is_set first slots → (n : ℕ) (leaf : Leaf)
    → slice_get (leaf_list slots) n ≡ Some leaf → has_member is_set leaf.nodes ≡ true → pending (first + n) ≡ true
covers-at pending is_set first no_slots covers n leaf at holds = absurd (cc)
covers-at pending is_set first (leaf_slot here rest) covers zero leaf at holds =
    let is : here ≡ leaf = cc in
    let none : first + 0 ≡ first = omega arith in
    ap pending none ∙ by (pending first) refl covers.0 (ap (λ (l : Leaf). has_member is_set l.nodes) is ∙ holds)
  where
    by : (b : Bool) → pending first ≡ b → (b ≡ false → has_member is_set here.nodes ≡ false) → has_member is_set here.nodes ≡ true → pending first ≡ true
    by true is none holds = is
    by false is none holds = absurd (true≢false (sym holds ∙ none refl))
covers-at pending is_set first (leaf_slot here rest) covers (suc n) leaf at holds =
    let is : (first + 1) + n ≡ first + suc n = omega arith in
    ap pending (sym is) ∙ covers-at pending is_set (first + 1) rest covers.1 n leaf at holds
covers-at pending is_set first (container_slot tag kids inner rest) covers n leaf at holds =
    by (stands-in (leaf_list inner) (leaf_list rest) n leaf at) (λ here. covers-at pending is_set first inner covers.0 n leaf here holds)
    (λ m there. covers-at pending is_set (first + leaf_count inner) rest covers.1 m leaf there holds)
  where
    by : StandsIn (leaf_list inner) (leaf_list rest) n leaf → (slice_get (leaf_list inner) n ≡ Some leaf → pending (first + n) ≡ true)
        → ((m : ℕ) → slice_get (leaf_list rest) m ≡ Some leaf → pending ((first + leaf_count inner) + m) ≡ true) → pending (first + n) ≡ true
    by (inl here) below later = below here
    by (inr (m, is, there)) below later =
        let number : first + n ≡ (first + leaf_count inner) + m = omega (arith, is, list-count inner) in
        ap pending number ∙ later m there

-- it has no more nodes than all that was made
made-has : (says : List Say) (states : States) (n : ℕ) (leaf : Leaf) → slice_get (leaf_list (slots_of states)) n ≡ Some leaf → (all : List Made)
    → AreMade says all states → AreWays (map way_of all) (slots_of states) → is_end (slots_of states) (map way_of all) n ≡ true
    → count (pass_leaf says leaf) ≤ made_count all
made-has says states n leaf at [] made ways found = absurd (true≢false (sym found))
made-has says states n leaf at (one ∷ later) made ways found =
    by (n == number_at one.way.now (slots_of states)) refl found (λ more. made-has says states n leaf at later made.1 ways.1 more)
  where
    by : (b : Bool) → (n == number_at one.way.now (slots_of states)) ≡ b → (b || is_end (slots_of states) (map way_of later) n) ≡ true
        → (is_end (slots_of states) (map way_of later) n ≡ true → count (pass_leaf says leaf) ≤ made_count later) → count (pass_leaf says leaf) ≤ made_count (one ∷ later)
    by true is found more =
        let number = eqb-true n (number_at one.way.now (slots_of states)) is in
        let there : leaf_at one.way.now (slots_of states) ≡ Some leaf =
        sym (leaf-numbered one.way.now (slots_of states) ways.0) ∙ ap (slice_get (leaf_list (slots_of states))) (sym number) ∙ at in
        omega (arith, ap count (made.0 leaf there))
    by false is found more = omega (arith, more found)

-- ---- story by story

module _ (says before : List Say) (is_set : ℕ → Bool) (revs : List ℕ) (are : AreChanges is_set before says revs) where
  part-counted : (part : Element) (story : Story) (table : Table) (all : List Made) → IsKept before part story table → IsReady revs says story table all
      → IsUnheld is_set (slots_in opens (part.tag ∷ []) part.kids) → (place : ℕ) (path : LeafPath) → slice_get (leaves part) place ≡ Some path
      → has_member is_set path.leaf.nodes ≡ true → count (pass_leaf says path.leaf) ≤ made_count all
  part-counted part story table all kept ready unheld place path at holds =
      let slots = slots_of (states_kept story) in
      let can = ready.ways kept.table part is_set before are.same are.none are.listed unheld in
      let there : slice_get (leaf_list slots) place ≡ Some path.leaf =
      ap (λ (s : Slots). slice_get (leaf_list s) place) kept.states.split
      ∙ ap (λ (ls : List Leaf). slice_get ls place) (sym (paths-leaves (part ∷ []) (slots_in opens (part.tag ∷ []) part.kids)))
      ∙ get-map (λ (p : LeafPath). p.leaf) (leaves part) place path at
      in
      let none : 0 + place ≡ place = omega arith in
      let found = sym (ap (is_end slots (map way_of all)) none) ∙ covers-at (is_end slots (map way_of all)) is_set 0 slots can.covers place path.leaf there holds in
      made-has says (states_kept story) place path.leaf there all ready.made can.ways found

  -- the law: the steps rise by at least the nodes of each leaf that is made
  pub all-counted : (old new : ℕ) (parts : List Element) (stories : List Story) (tables : List Table) (all : List (Vec Made Global)) → AreUnheld is_set parts
      → AreKept before parts stories tables → AreReady revs says stories tables all → length all ≡ length stories → old + all_made_count all ≤ new
      → AreCounted is_set says old new parts
  all-counted old new [] stories tables all unheld kept ready many enough = tt
  all-counted old new (part ∷ parts) [] tables all unheld kept ready many enough = absurd kept
  all-counted old new (part ∷ parts) (story ∷ stories) [] all unheld kept ready many enough = absurd kept
  all-counted old new (part ∷ parts) (story ∷ stories) (table ∷ tables) [] unheld kept ready many enough = absurd (omega (arith, many))
  all-counted old new (part ∷ parts) (story ∷ stories) (table ∷ tables) (made ∷ later) unheld kept ready many enough = (
    λ place path at holds. omega (arith, enough, part-counted part story table made.items kept.0 ready.0 unheld.0 place path at holds),
    all-counted old new parts stories tables later unheld.1 kept.1 ready.1 (omega (arith, many)) (omega (arith, enough)),
  )

-- ---- where nothing is changed

same-self : (say : Say) → same_say say say ≡ true
same-self Keep = refl
same-self Accept = refl
same-self Reject = refl

unchanged : (says : List Say) (rev : ℕ) → is_changed says says rev ≡ false
unchanged says rev = ap not (same-self (say_of says rev))

no-member : (is_set : ℕ → Bool) → ((rev : ℕ) → is_set rev ≡ false) → (nodes : Nodes) → has_member is_set nodes ≡ false
no-member is_set none no_nodes = refl
no-member is_set none (bytes b rest) = no-member is_set none rest
no-member is_set none (element tag kids rest) = rw (none tag.rev, no-member is_set none kids, no-member is_set none rest) refl

-- without a change of says nothing is counted
pub none-counted : (says : List Say) (old new : ℕ) (parts : List Element) → AreCounted (is_changed says says) says old new parts
none-counted says old new [] = tt
none-counted says old new (part ∷ parts) = (
  λ place path at holds. absurd (true≢false (sym holds ∙ no-member (is_changed says says) (unchanged says) path.leaf.nodes)),
  none-counted says old new parts,
)
