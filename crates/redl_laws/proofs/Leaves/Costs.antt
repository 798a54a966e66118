-- What setting says may cost: a walk over slots, and a list of settings against single ones.
use Rattle.std.proofs.Common.{◌≡◌, ◌∙◌, refl, ap, ℕ, suc, ◌+◌, ◌*◌, ◌≤◌, List, [], ◌∷◌, length, length-append, sum_by, Bool, true, false, ◌||◌, ◌==◌, if◌then◌else◌, arith, true≢false}
use Rattle.std.proofs.lemmas.List.Sums.{sum_by-cons, sum_by-append}
use Rattle.std.proofs.lemmas.Bool.{or_from, or_parts}
use Rattle.redl_tree.specs.Model.Nodes.{Tag, Nodes, no_nodes, bytes, element}
use Rattle.redl_tree.specs.Model.View.{Element}
use Rattle.redl_tree.specs.Model.Count.{count}
use Rattle.redl_tree.specs.Leaves.Slots.{Slots, no_slots, leaf_slot, container_slot, joined_slots, slots_in}
use Rattle.redl_tree.specs.Leaves.Leaf.{leaves_in, leaves_by, leaf_count, leaf_size}
use Rattle.redl_tree.specs.Leaves.Rebuilt.{original}
use Rattle.redl_tree.specs.Leaves.Settings.{Setting, is_among, is_altered, has_member, leaf_holds, leaf_cost, setting_cost, slots_cost}
use Rattle.redl_tree.specs.Decisions.Fates.{say_of}
use Rattle.redl_tree.specs.declared.kinds.Say.{Say}
use Rattle.redl_tree.proofs.Model.Laws.{count-⊕}
use Rattle.redl_laws.proofs.Leaves.Says.{altered-none}

-- ---- the list of leaves, and a walk over slots

-- the list of leaves has as many as their number
pub count-leaves : (containers : List Element) (slots : Slots) → length (leaves_in containers slots) ≡ leaf_count slots
count-leaves containers no_slots = refl
count-leaves containers (leaf_slot leaf rest) = omega (arith, count-leaves containers rest)
count-leaves containers (container_slot tag kids inner rest) =
    length-append (leaves_in (record { tag = tag; kids = kids } ∷ containers) inner) (leaves_in containers rest)
    ∙ omega (arith, count-leaves (record { tag = tag; kids = kids } ∷ containers) inner, count-leaves containers rest)

-- what it costs to set says, counted leaf by leaf, is what a walk over the slots counts
pub cost-walk : (is_set : ℕ → Bool) (containers : List Element) (slots : Slots)
    → setting_cost is_set (leaves_in containers slots) ≡ slots_cost is_set (length containers) slots
cost-walk is_set containers no_slots = refl
cost-walk is_set containers (leaf_slot leaf rest) =
    sum_by-cons (leaf_cost is_set) (record { leaf = leaf; containers = containers }) (leaves_in containers rest)
    ∙ ap (λ n. (if has_member is_set leaf.nodes then leaf_size leaf + 4 * length containers else 0) + n) (cost-walk is_set containers rest)
cost-walk is_set containers (container_slot tag kids inner rest) =
    let below = record { tag = tag; kids = kids } ∷ containers in
    sum_by-append (leaf_cost is_set) (leaves_in below inner) (leaves_in containers rest)
    ∙ ap (λ n. n + setting_cost is_set (leaves_in containers rest)) (cost-walk is_set below inner)
    ∙ ap (λ n. slots_cost is_set (length below) inner + n) (cost-walk is_set containers rest)

-- ---- leaves that hold none of the revisions that are set cost nothing

pub cost-none : (is_set : ℕ → Bool) (depth : ℕ) (slots : Slots) → leaf_holds is_set slots ≡ false → slots_cost is_set depth slots ≡ 0
cost-none is_set depth no_slots h = refl
cost-none is_set depth (leaf_slot leaf rest) h =
    let here = ap (λ b. if b then leaf_size leaf + 4 * depth else 0) (or_parts (has_member is_set leaf.nodes) (leaf_holds is_set rest) h).0 in
    omega (arith, here, cost-none is_set depth rest (or_parts (has_member is_set leaf.nodes) (leaf_holds is_set rest) h).1)
cost-none is_set depth (container_slot tag kids inner rest) h =
    omega (
      arith,
      cost-none is_set (suc depth) inner (or_parts (leaf_holds is_set inner) (leaf_holds is_set rest) h).0,
      cost-none is_set depth rest (or_parts (leaf_holds is_set inner) (leaf_holds is_set rest) h).1,
    )

pub cost-joined : (is_set : ℕ → Bool) (depth : ℕ) (xs ys : Slots) → slots_cost is_set depth (joined_slots xs ys) ≡ slots_cost is_set depth xs + slots_cost is_set depth ys
cost-joined is_set depth no_slots ys = omega arith
cost-joined is_set depth (leaf_slot leaf rest) ys = omega (arith, cost-joined is_set depth rest ys)
cost-joined is_set depth (container_slot tag kids inner rest) ys = omega (arith, cost-joined is_set depth rest ys)

-- ---- where fewer revisions are set, the cost is less

member-fewer : (a b : ℕ → Bool) → ((n : ℕ) → b n ≡ false → a n ≡ false) → (nodes : Nodes) → has_member b nodes ≡ false → has_member a nodes ≡ false
member-fewer a b fewer no_nodes h = refl
member-fewer a b fewer (bytes bs rest) h = member-fewer a b fewer rest h
member-fewer a b fewer (element tag kids rest) h =
    let both = (or_parts (b tag.rev || has_member b kids) (has_member b rest) h).0 in
    or_from (a tag.rev || has_member a kids) (has_member a rest)
    (or_from (a tag.rev) (has_member a kids) (fewer tag.rev (or_parts (b tag.rev) (has_member b kids) both).0)
    (member-fewer a b fewer kids (or_parts (b tag.rev) (has_member b kids) both).1))
    (member-fewer a b fewer rest (or_parts (b tag.rev || has_member b kids) (has_member b rest) h).1)

fewer-le : (p q : Bool) (n : ℕ) → (q ≡ false → p ≡ false) → (if p then n else 0) ≤ (if q then n else 0)
fewer-le p true n h = at p
  where
    at : (p : Bool) → (if p then n else 0) ≤ n
    at true = omega arith
    at false = omega arith
fewer-le true false n h = absurd (true≢false (h refl))
fewer-le false false n h = omega arith

pub cost-fewer : (a b : ℕ → Bool) → ((n : ℕ) → b n ≡ false → a n ≡ false) → (depth : ℕ) (slots : Slots) → slots_cost a depth slots ≤ slots_cost b depth slots
cost-fewer a b fewer depth no_slots = omega arith
cost-fewer a b fewer depth (leaf_slot leaf rest) =
    let here = fewer-le (has_member a leaf.nodes) (has_member b leaf.nodes) (leaf_size leaf + 4 * depth) (member-fewer a b fewer leaf.nodes) in
    omega (arith, here, cost-fewer a b fewer depth rest)
cost-fewer a b fewer depth (container_slot tag kids inner rest) =
    omega (arith, cost-fewer a b fewer (suc depth) inner, cost-fewer a b fewer depth rest)

-- ---- a list of settings costs no more than the single ones do, and a leaf is counted once

member-either : (a b : ℕ → Bool) (nodes : Nodes) → has_member (λ n. a n || b n) nodes ≡ (has_member a nodes || has_member b nodes)
member-either a b no_nodes = refl
member-either a b (bytes bs rest) = member-either a b rest
member-either a b (element tag kids rest) =
    ap (λ c. a tag.rev || b tag.rev || c || has_member (λ n. a n || b n) rest) (member-either a b kids)
    ∙ ap (λ c. a tag.rev || b tag.rev || (has_member a kids || has_member b kids) || c) (member-either a b rest)
    ∙ six (a tag.rev) (b tag.rev) (has_member a kids) (has_member b kids) (has_member a rest) (has_member b rest)
  where
    six : (p q r s t u : Bool) → (p || q || (r || s) || (t || u)) ≡ (p || r || t || (q || s || u))
    six true q r s t u = refl
    six false true true s t u = refl
    six false true false s true u = refl
    six false true false s false u = refl
    six false false true s t u = refl
    six false false false true true u = refl
    six false false false true false u = refl
    six false false false false t u = refl

either-le : (p q : Bool) (n : ℕ) → (if p || q then n else 0) ≤ (if p then n else 0) + (if q then n else 0)
either-le true true n = omega arith
either-le true false n = omega arith
either-le false true n = omega arith
either-le false false n = omega arith

pub cost-either : (a b : ℕ → Bool) (depth : ℕ) (slots : Slots) → slots_cost (λ n. a n || b n) depth slots ≤ slots_cost a depth slots + slots_cost b depth slots
cost-either a b depth no_slots = omega arith
cost-either a b depth (leaf_slot leaf rest) =
    let one = either-le (has_member a leaf.nodes) (has_member b leaf.nodes) (leaf_size leaf + 4 * depth) in
    let held = ap (λ c. if c then leaf_size leaf + 4 * depth else 0) (member-either a b leaf.nodes) in
    omega (arith, one, held, cost-either a b depth rest)
cost-either a b depth (container_slot tag kids inner rest) = omega (arith, cost-either a b (suc depth) inner, cost-either a b depth rest)

member-none : (nodes : Nodes) → has_member (λ n. false) nodes ≡ false
member-none no_nodes = refl
member-none (bytes b rest) = member-none rest
member-none (element tag kids rest) = ap (λ c. c || has_member (λ n. false) rest) (member-none kids) ∙ member-none rest

holds-none : (slots : Slots) → leaf_holds (λ n. false) slots ≡ false
holds-none no_slots = refl
holds-none (leaf_slot leaf rest) = ap (λ c. c || leaf_holds (λ n. false) rest) (member-none leaf.nodes) ∙ holds-none rest
holds-none (container_slot tag kids inner rest) = ap (λ c. c || leaf_holds (λ n. false) rest) (holds-none inner) ∙ holds-none rest

-- the sum of what the single settings cost
abbrev pub single_costs : List Setting → ℕ → Slots → ℕ
single_costs [] depth slots = 0
single_costs (setting ∷ later) depth slots = slots_cost (λ n. n == setting.rev) depth slots + single_costs later depth slots

pub cost-among : (settings : List Setting) (depth : ℕ) (slots : Slots) → slots_cost (is_among settings) depth slots ≤ single_costs settings depth slots
cost-among [] depth slots = omega (arith, cost-none (λ n. false) depth slots (holds-none slots))
cost-among (setting ∷ later) depth slots =
    omega (arith, cost-either (λ n. n == setting.rev) (is_among later) depth slots, cost-among later depth slots)

-- ---- the leaves that are made anew are no larger than the original

-- the sizes of the leaves that hold one
abbrev pub held_size : (ℕ → Bool) → Slots → ℕ
held_size is_set no_slots = 0
held_size is_set (leaf_slot leaf rest) = (if has_member is_set leaf.nodes then leaf_size leaf else 0) + held_size is_set rest
held_size is_set (container_slot tag kids inner rest) = held_size is_set inner + held_size is_set rest

chosen-le : (b : Bool) (n : ℕ) → (if b then n else 0) ≤ n
chosen-le true n = omega arith
chosen-le false n = omega arith

pub held-count : (is_set : ℕ → Bool) (slots : Slots) → held_size is_set slots ≤ count (original slots)
held-count is_set no_slots = omega arith
held-count is_set (leaf_slot leaf rest) =
    omega (arith, chosen-le (has_member is_set leaf.nodes) (count leaf.nodes), held-count is_set rest, count-⊕ leaf.nodes (original rest))
held-count is_set (container_slot tag kids inner rest) = omega (arith, held-count is_set inner, held-count is_set rest)

-- ---- of a story

-- the sum of what the single settings cost in these leaves
pub cost-once : (opens : List Tag → Tag → Bool) (settings : List Setting) (story : Element)
    → setting_cost (is_among settings) (leaves_by opens story) ≤ sum_by (λ setting. setting_cost (λ n. n == setting.rev) (leaves_by opens story)) settings
cost-once opens settings story =
    let slots = slots_in opens (story.tag ∷ []) story.kids in
    omega (arith, cost-walk (is_among settings) (story ∷ []) slots, cost-among settings 1 slots, singles settings)
  where
    singles : (settings : List Setting) → single_costs settings 1 (slots_in opens (story.tag ∷ []) story.kids)
        ≡ sum_by (λ setting. setting_cost (λ n. n == setting.rev) (leaves_by opens story)) settings
    singles [] = refl
    singles (setting ∷ later) =
        omega (
          arith,
          cost-walk (λ n. n == setting.rev) (story ∷ []) (slots_in opens (story.tag ∷ []) story.kids),
          singles later,
          sum_by-cons (λ setting. setting_cost (λ n. n == setting.rev) (leaves_by opens story)) setting later,
        )

-- a setting that alters nothing costs nothing
pub cost-own : (opens : List Tag → Tag → Bool) (says : List Say) (setting : Setting) (story : Element) → say_of says setting.rev ≡ setting.say
    → setting_cost (is_altered says (setting ∷ [])) (leaves_by opens story) ≡ 0
cost-own opens says setting story e =
    let slots = slots_in opens (story.tag ∷ []) story.kids in
    omega (
      arith,
      cost-walk (is_altered says (setting ∷ [])) (story ∷ []) slots,
      cost-fewer (is_altered says (setting ∷ [])) (λ n. false) (λ n h. altered-none says setting e n) 1 slots,
      cost-none (λ n. false) 1 slots (holds-none slots),
    )
