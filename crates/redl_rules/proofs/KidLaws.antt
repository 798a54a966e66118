-- What is asked of the kids of an element, of one node and those after it.
use Rattle.std.proofs.Common.{◌≡◌, ◌∙◌, refl, sym, ap, ℕ, List, Bool, true, false, true≢false, ◌&&◌, not, if◌then◌else◌}
use Rattle.redl_tree.specs.Model.Nodes.{Tag, Nodes, no_nodes, bytes, element, Item, bytes_item, element_item, idle_item, in_front, ◌⊕◌}
use Rattle.redl_tree.specs.Model.IdleTexts.{idle_nodes}
use Rattle.redl_tree.specs.Model.Kids.{some_element, has_element, item_is}
use Rattle.redl_tree.specs.Roles.Arounds.{role_in}
use Rattle.redl_tree.specs.Roles.Idle.{is_idle}
use Rattle.redl_tree.specs.Roles.Kinds.{is_change}
use Rattle.redl_tree.specs.Roles.Names.{named}
use Rattle.redl_tree.specs.Rules.Sound.{former_declares}
use Rattle.redl_tree.specs.Rules.Tests.{implies, at_most_one, only_first, only_last}
use Rattle.redl_tree.specs.declared.around.Around.{Around}
use Rattle.redl_tree.proofs.Idle.Items.{nodes_are_idle, element_first, element_among, none_idle}
use Rattle.redl_tree.proofs.Idle.Lists.{NoneIs, some_past, few_past, first_past, last_past}
use Rattle.redl_tree.proofs.Idle.Tags.{idle_parts}
use Rattle.redl_rules.proofs.IdleLaws.{no_role_in}

-- ---- idle elements pass no such test

-- a test that no idle element passes does not pass an idle item
pub is_none : (test : Tag → Bool) → NoneIs false test → (x : Item) (t : List ℕ) → x ≡ idle_item t → false ≡ item_is test x
is_none test none x t is = sym (ap (item_is test) is ∙ none_idle test none t)

pub none_changes : (in_run : Bool) (around : Around) → NoneIs in_run (λ kid. is_change (role_in around kid))
none_changes in_run around tag i = ap is_change (no_role_in in_run around tag i)

-- ---- whether one at most passes, where one did before

abbrev pub few : Bool → (Tag → Bool) → Nodes → Bool
few seen test nodes = implies seen (not (some_element test nodes)) && at_most_one test nodes

pub few-other : (seen : Bool) (test : Tag → Bool) → NoneIs false test → (x : Item) (xs : Nodes) → item_is test x ≡ false → few seen test (in_front x xs) ≡ few seen test xs
few-other seen test none (bytes_item b) xs e = refl
few-other seen test none (element_item tag kids) xs e = rw e refl
few-other seen test none (idle_item t) xs e =
    ap (λ b. implies seen (not b) && at_most_one test (idle_nodes t ⊕ xs)) (some_past false test none (idle_nodes t) xs (nodes_are_idle t))
    ∙ ap (λ b. implies seen (not (some_element test xs)) && b) (few_past false test none (idle_nodes t) xs (nodes_are_idle t))

pub few-stop : (test : Tag → Bool) → NoneIs false test → (x : Item) (xs : Nodes) → item_is test x ≡ true → few true test (in_front x xs) ≡ false
few-stop test none (bytes_item b) xs e = absurd cc
few-stop test none (element_item tag kids) xs e = rw e refl
few-stop test none (idle_item t) xs e = absurd (true≢false (sym e ∙ none_idle test none t))

pub few-next : (test : Tag → Bool) → NoneIs false test → (x : Item) (xs : Nodes) → item_is test x ≡ true → few false test (in_front x xs) ≡ few true test xs
few-next test none (bytes_item b) xs e = absurd cc
few-next test none (element_item tag kids) xs e = rw e refl
few-next test none (idle_item t) xs e = absurd (true≢false (sym e ∙ none_idle test none t))

-- ---- whether none that passes comes after an element

pub first-other : (test : Tag → Bool) (x : Item) (xs : Nodes) → has_element (in_front x no_nodes) ≡ false → only_first test (in_front x xs) ≡ only_first test xs
first-other test (bytes_item b) xs e = refl
first-other test (element_item tag kids) xs e = absurd (true≢false e)
first-other test (idle_item t) xs e = absurd (true≢false (sym (element_first t no_nodes) ∙ e))

pub first-found : (test : Tag → Bool) → NoneIs false test → (x : Item) (xs : Nodes) → has_element (in_front x no_nodes) ≡ true → only_first test (in_front x xs) ≡ not (some_element test xs)
first-found test none (bytes_item b) xs e = absurd (true≢false (sym e))
first-found test none (element_item tag kids) xs e = refl
first-found test none (idle_item t) xs e = first_past false test none (idle_nodes t) xs (nodes_are_idle t) (element_among t)

-- ---- whether no element comes after one that passes, where one did just before

abbrev pub ends : Bool → (Tag → Bool) → Nodes → Bool
ends ended test nodes = implies ended (not (has_element nodes)) && only_last test nodes

pub ends-other : (ended : Bool) (test : Tag → Bool) (x : Item) (xs : Nodes) → has_element (in_front x no_nodes) ≡ false → ends ended test (in_front x xs) ≡ ends ended test xs
ends-other ended test (bytes_item b) xs e = refl
ends-other ended test (element_item tag kids) xs e = absurd (true≢false e)
ends-other ended test (idle_item t) xs e = absurd (true≢false (sym (element_first t no_nodes) ∙ e))

pub ends-stop : (test : Tag → Bool) (x : Item) (xs : Nodes) → has_element (in_front x no_nodes) ≡ true → ends true test (in_front x xs) ≡ false
ends-stop test (bytes_item b) xs e = absurd (true≢false (sym e))
ends-stop test (element_item tag kids) xs e = refl
ends-stop test (idle_item t) xs e = ap (λ b. not b && only_last test (idle_nodes t ⊕ xs)) (element_first t xs)

pub ends-next : (test : Tag → Bool) → NoneIs false test → (x : Item) (xs : Nodes) → ends false test (in_front x xs) ≡ ends (item_is test x) test xs
ends-next test none (bytes_item b) xs = refl
ends-next test none (element_item tag kids) xs = refl
ends-next test none (idle_item t) xs =
    last_past false test none (idle_nodes t) xs (nodes_are_idle t) ∙ ap (λ b. ends b test xs) (sym (none_idle test none t))

-- ---- what the first that has a name declares

former-past : (declares : List ℕ → Bool) (name : List ℕ) → NoneIs false (named name) → (x y : Nodes) → is_idle x ≡ true → former_declares declares name (x ⊕ y) ≡ former_declares declares name y
former-past declares name none no_nodes y h = refl
former-past declares name none (bytes b rest) y h = former-past declares name none rest y h
former-past declares name none (element tag kids rest) y h =
    let p = idle_parts false tag kids rest h in
    ap (λ b. if b then declares tag.tail else former_declares declares name (rest ⊕ y)) (none tag p.own) ∙ former-past declares name none rest y p.later

pub former-other : (declares : List ℕ → Bool) (name : List ℕ) → NoneIs false (named name) → (x : Item) (xs : Nodes) → item_is (named name) x ≡ false → former_declares declares name (in_front x xs) ≡ former_declares declares name xs
former-other declares name none (bytes_item b) xs e = refl
former-other declares name none (element_item tag kids) xs e = ap (λ b. if b then declares tag.tail else former_declares declares name xs) e
former-other declares name none (idle_item t) xs e = former-past declares name none (idle_nodes t) xs (nodes_are_idle t)
