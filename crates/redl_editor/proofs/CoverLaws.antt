-- The ways to the leaves that some revisions touch are those that setting takes.
use Rattle.std.proofs.Common.{◌≡◌, ◌<◌, ◌≤◌, ◌+◌, ◌==◌, ℕ, zero, suc, List, [], ◌∷◌, length, get_or, drop, Bool, true, false, true≢false, ◌&&◌, ◌||◌, not, refl, sym, ap, ◌∙◌, arith}
use Rattle.std.proofs.lemmas.List.{drop_all}
use Rattle.std.proofs.lemmas.Bool.{eqb-true, eq-eqb, ne_eqb, or_left, or_right}
use Rattle.std.proofs.Math.Bool.{or-false}
use Rattle.redl_laws.proofs.Leaves.Places.{ways-numbered, ways-count}
use Rattle.redl_tree.specs.Leaves.Leaf.{leaf_count}
use Rattle.redl_tree.specs.Leaves.Pending.{Covers}
use Rattle.redl_tree.specs.Leaves.Settings.{has_member}
use Rattle.redl_tree.specs.Leaves.Slots.{Slots, no_slots, leaf_slot, container_slot}
use Rattle.redl_tree.specs.Leaves.Ways.{ways, IsWay, AreWays, AreNumbered, number_at, is_end}
use Rattle.redl_tree.specs.Model.Nodes.{Nodes, no_nodes, bytes, element}
use Rattle.redl_editor.specs.Holdings.{HoldsOf, is_rev, is_held, is_touched, nodes_hold, slots_hold, some_held}
use Rattle.redl_editor.specs.Inside.Makes.{AreWithin, ways_of}
use Rattle.redl_editor.specs.declared.holding.Held.{Held}

-- ---- a member that is set is one of a revision that is set

pub record Named (is_set : ℕ → Bool) (nodes : Nodes) : Type 0 where
  pub rev : ℕ
  pub one : is_set rev ≡ true
  pub member : has_member (is_rev rev) nodes ≡ true

own-rev : (n : ℕ) → ((n ≡ 0) → ⊥) → is_rev n n ≡ true
own-rev n some = ap (λ b. not b && n == n) (ne_eqb n 0 some) ∙ eq-eqb n n refl

pub member-named : (is_set : ℕ → Bool) → is_set 0 ≡ false → (nodes : Nodes) → has_member is_set nodes ≡ true → Named is_set nodes
member-named is_set none no_nodes e = absurd (true≢false (sym e))
member-named is_set none (bytes b rest) e = let more = member-named is_set none rest e in record { rev = more.rev; one = more.one; member = more.member }
member-named is_set none (element tag kids rest) e =
    at (is_set tag.rev) refl (has_member is_set kids) (member-named is_set none kids) (has_member is_set rest) (member-named is_set none rest) e
  where
    at : (a : Bool) → is_set tag.rev ≡ a → (b : Bool) → (b ≡ true → Named is_set kids) → (c : Bool) → (c ≡ true → Named is_set rest)
        → ((a || b) || c) ≡ true → Named is_set (element tag kids rest)
    at true here b below c after h = record {
      rev = tag.rev;
      one = here;
      member = or_left (is_rev tag.rev tag.rev || has_member (is_rev tag.rev) kids) (has_member (is_rev tag.rev) rest)
          (or_left (is_rev tag.rev tag.rev) (has_member (is_rev tag.rev) kids) (own-rev tag.rev (λ zero_is. absurd (true≢false (sym here ∙ ap is_set zero_is ∙ none)))));
    }
    at false here true below c after h =
        let more = below refl in record {
          rev = more.rev;
          one = more.one;
          member = or_left (is_rev more.rev tag.rev || has_member (is_rev more.rev) kids) (has_member (is_rev more.rev) rest)
              (or_right (is_rev more.rev tag.rev) (has_member (is_rev more.rev) kids) more.member);
        }
    at false here false below c after h =
        let more = after h in record {
          rev = more.rev;
          one = more.one;
          member = or_right (is_rev more.rev tag.rev || has_member (is_rev more.rev) kids) (has_member (is_rev more.rev) rest) more.member;
        }

-- ---- each leaf that holds one is pending

pub covers-held : (pending is_set : ℕ → Bool) → is_set 0 ≡ false → (first : ℕ) (slots : Slots)
    → ((rev leaf : ℕ) → is_set rev ≡ true → slots_hold first slots rev leaf ≡ true → pending leaf ≡ true) → Covers pending is_set first slots
covers-held pending is_set none first no_slots h = tt
covers-held pending is_set none first (leaf_slot leaf rest) h = (
  λ free. at (has_member is_set leaf.nodes) refl free,
  covers-held pending is_set none (first + 1) rest
      (λ rev n one holds. h rev n one (or_right (nodes_hold first leaf.nodes rev n) (slots_hold (first + 1) rest rev n) holds)),
)
  where
    at : (b : Bool) → has_member is_set leaf.nodes ≡ b → pending first ≡ false → b ≡ false
    at false is free = refl
    at true is free =
        let named = member-named is_set none leaf.nodes is in
        let holds : nodes_hold first leaf.nodes named.rev first ≡ true = ap (λ b. b && first == first) named.member ∙ eq-eqb first first refl in
        absurd (true≢false (sym (h named.rev first named.one (or_left (nodes_hold first leaf.nodes named.rev first) (slots_hold (first + 1) rest named.rev first) holds)) ∙ free))
covers-held pending is_set none first (container_slot tag kids inner rest) h = (
  covers-held pending is_set none first inner
      (λ rev n one holds. h rev n one (or_left (slots_hold first inner rev n) (slots_hold (first + leaf_count inner) rest rev n) holds)),
  covers-held pending is_set none (first + leaf_count inner) rest
      (λ rev n one holds. h rev n one (or_right (slots_hold first inner rev n) (slots_hold (first + leaf_count inner) rest rev n) holds)),
)

-- ---- ways by their numbers

numbered-at : (number : ℕ) (ws : List (List ℕ)) (slots : Slots) → AreNumbered number ws slots → (k : ℕ) → k < length ws
    → IsWay (get_or ws k []) slots × (number_at (get_or ws k []) slots ≡ number + k)
numbered-at number [] slots h k within = absurd (omega (arith, within))
numbered-at number (way ∷ later) slots h zero within = (h.0, omega (arith, h.1))
numbered-at number (way ∷ later) slots h (suc k) within =
    let more = numbered-at (suc number) later slots h.2 k (omega (arith, within)) in
    (more.0, omega (arith, more.1))

pub way-numbered : (slots : Slots) (k : ℕ) → k < leaf_count slots → IsWay (get_or (ways slots) k []) slots × (number_at (get_or (ways slots) k []) slots ≡ 0 + k)
way-numbered slots k within = numbered-at 0 (ways slots) slots (ways-numbered slots) k (omega (arith, within, ways-count 0 slots))

pub ways-lead : (slots : Slots) (leaves : List ℕ) → ((k : ℕ) → is_touched leaves k ≡ true → k < leaf_count slots) → AreWays (ways_of (ways slots) leaves) slots
ways-lead slots [] within = tt
ways-lead slots (k ∷ leaves) within = (
  (way-numbered slots k (within k (or_left (k == k) (is_touched leaves k) (eq-eqb k k refl)))).0,
  ways-lead slots leaves (λ n e. within n (or_right (k == n) (is_touched leaves n) e)),
)

pub ways-end : (slots : Slots) (leaves : List ℕ) → ((k : ℕ) → is_touched leaves k ≡ true → k < leaf_count slots) → (n : ℕ)
    → is_touched leaves n ≡ true → is_end slots (ways_of (ways slots) leaves) n ≡ true
ways-end slots [] within n e = absurd (true≢false (sym e))
ways-end slots (k ∷ leaves) within n e =
    at (k == n) refl (ways-end slots leaves (λ m f. within m (or_right (k == m) (is_touched leaves m) f)) n) e
  where
    at : (b : Bool) → (k == n) ≡ b → (is_touched leaves n ≡ true → is_end slots (ways_of (ways slots) leaves) n ≡ true) → (b || is_touched leaves n) ≡ true → is_end slots (ways_of (ways slots) (k ∷ leaves)) n ≡ true
    at true same later h =
        let here = (way-numbered slots k (within k (or_left (k == k) (is_touched leaves k) (eq-eqb k k refl)))).1 in
        or_left (n == number_at (get_or (ways slots) k []) slots) (is_end slots (ways_of (ways slots) leaves) n)
        (eq-eqb n (number_at (get_or (ways slots) k []) slots) (omega (arith, here, eqb-true k n same)))
    at false other later h =
        or_right (n == number_at (get_or (ways slots) k []) slots) (is_end slots (ways_of (ways slots) leaves) n) (later h)

-- what is noted of slots is noted of leaves that are there
pub holds-within : (first : ℕ) (slots : Slots) (rev n : ℕ) → slots_hold first slots rev n ≡ true → n < first + leaf_count slots
holds-within first no_slots rev n e = absurd (true≢false (sym e))
holds-within first (leaf_slot leaf rest) rev n e =
    at (has_member (is_rev rev) leaf.nodes) (first == n) refl (holds-within (first + 1) rest rev n) e
  where
    at : (b c : Bool) → (first == n) ≡ c → (slots_hold (first + 1) rest rev n ≡ true → n < first + 1 + leaf_count rest) → ((b && c) || slots_hold (first + 1) rest rev n) ≡ true → n < first + (1 + leaf_count rest)
    at true true is later h = omega (arith, eqb-true first n is)
    at true false is later h = omega (arith, later h)
    at false c is later h = omega (arith, later h)
holds-within first (container_slot tag kids inner rest) rev n e =
    at (slots_hold first inner rev n) refl (holds-within first inner rev n) (holds-within (first + leaf_count inner) rest rev n) e
  where
    at : (b : Bool) → slots_hold first inner rev n ≡ b → (slots_hold first inner rev n ≡ true → n < first + leaf_count inner)
        → (slots_hold (first + leaf_count inner) rest rev n ≡ true → n < first + leaf_count inner + leaf_count rest) → (b || slots_hold (first + leaf_count inner) rest rev n) ≡ true → n < first + (leaf_count inner + leaf_count rest)
    at true is below later h = omega (arith, below is)
    at false is below later h = omega (arith, later h)

-- the law: where exactly the leaves that hold members and markers of the revisions that are set are listed, the ways to them are
-- ways, and cover them
pub touched-covers : (is_set : ℕ → Bool) → is_set 0 ≡ false → (slots : Slots) (leaves : List ℕ)
    → ((k : ℕ) → is_touched leaves k ≡ true → k < leaf_count slots)
    → ((rev leaf : ℕ) → is_set rev ≡ true → slots_hold 0 slots rev leaf ≡ true → is_touched leaves leaf ≡ true)
    → AreWays (ways_of (ways slots) leaves) slots × Covers (is_end slots (ways_of (ways slots) leaves)) is_set 0 slots
touched-covers is_set none slots leaves within all = (
  ways-lead slots leaves within,
  covers-held (is_end slots (ways_of (ways slots) leaves)) is_set none 0 slots (λ rev leaf one holds. ways-end slots leaves within leaf (all rev leaf one holds)),
)

-- ---- from notes

-- one of these revisions is noted of the leaf
pub record Holder (held : List Held) (revs : List ℕ) (leaf : ℕ) : Type 0 where
  pub rev : ℕ
  pub listed : is_touched revs rev ≡ true
  pub holds : is_held held rev leaf ≡ true

pub some-holder : (held : List Held) (revs : List ℕ) (leaf : ℕ) → some_held held revs leaf ≡ true → Holder held revs leaf
some-holder held [] leaf e = absurd (true≢false (sym e))
some-holder held (rev ∷ later) leaf e = at (is_held held rev leaf) refl (some-holder held later leaf) e
  where
    at : (b : Bool) → is_held held rev leaf ≡ b → (some_held held later leaf ≡ true → Holder held later leaf) → (b || some_held held later leaf) ≡ true → Holder held (rev ∷ later) leaf
    at true is more h = record { rev = rev; listed = or_left (rev == rev) (is_touched later rev) (eq-eqb rev rev refl); holds = is }
    at false is more h =
        let one = more h in
        record { rev = one.rev; listed = or_right (rev == one.rev) (is_touched later one.rev) one.listed; holds = one.holds }

listed-held : (held : List Held) (revs : List ℕ) (rev leaf : ℕ) → is_touched revs rev ≡ true → is_held held rev leaf ≡ true → some_held held revs leaf ≡ true
listed-held held [] rev leaf one holds = absurd (true≢false (sym one))
listed-held held (first ∷ later) rev leaf one holds = at (first == rev) refl (λ h. listed-held held later rev leaf h holds) one
  where
    at : (b : Bool) → (first == rev) ≡ b → (is_touched later rev ≡ true → some_held held later leaf ≡ true) → (b || is_touched later rev) ≡ true → some_held held (first ∷ later) leaf ≡ true
    at true is more h = or_left (is_held held first leaf) (some_held held later leaf) (ap (λ n. is_held held n leaf) (eqb-true first rev is) ∙ holds)
    at false is more h = or_right (is_held held first leaf) (some_held held later leaf) (more h)

pub listed-within : (held : List Held) (revs leaves : List ℕ) → ((leaf : ℕ) → is_touched leaves leaf ≡ some_held held revs leaf) → (slots : Slots) → HoldsOf held slots
    → AreWithin (ways slots) leaves
listed-within held revs leaves touched slots of k e =
    let holder = some-holder held revs k (sym (touched k) ∙ e) in
    omega (arith, holds-within 0 slots holder.rev k (sym (of.holds holder.rev k) ∙ holder.holds), ways-count 0 slots)

-- the law of what is touched: the ways to the leaves that hold one of these revisions are those that setting takes
pub listed-covers : (held : List Held) (revs leaves : List ℕ) → ((leaf : ℕ) → is_touched leaves leaf ≡ some_held held revs leaf) → (slots : Slots) → HoldsOf held slots
    → (is_set : ℕ → Bool) → is_set 0 ≡ false → ((rev : ℕ) → is_set rev ≡ true → is_touched revs rev ≡ true)
    → AreWays (ways_of (ways slots) leaves) slots × Covers (is_end slots (ways_of (ways slots) leaves)) is_set 0 slots
listed-covers held revs leaves touched slots of is_set none listed =
    touched-covers is_set none slots leaves
    (λ k e.
    let holder = some-holder held revs k (sym (touched k) ∙ e) in
    let within = holds-within 0 slots holder.rev k (sym (of.holds holder.rev k) ∙ holder.holds) in
    omega (arith, within))
    (λ rev leaf one holds. touched leaf ∙ listed-held held revs rev leaf (listed rev one) (of.holds rev leaf ∙ holds))

pub listed-ended : (held : List Held) (revs leaves : List ℕ) (i leaf : ℕ) → length revs ≤ i
    → (is_touched leaves leaf || some_held held (drop i revs) leaf) ≡ some_held held revs leaf → is_touched leaves leaf ≡ some_held held revs leaf
listed-ended held revs leaves i leaf past so_far =
    sym (or-false (is_touched leaves leaf)) ∙ ap (λ rs. is_touched leaves leaf || some_held held rs leaf) (sym (drop_all i revs past)) ∙ so_far
