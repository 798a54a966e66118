-- Laws of `only` and `without`, which pick the elements that a change doesn't cover: of one node and the nodes after it.
use Rattle.std.proofs.Common.{◌≡◌, Bool, true, false, true≢false, not, ◌||◌, List, [], ◌∷◌, refl, sym, ap, ◌∙◌}
use Rattle.std.specs.Prelude.{if◌then◌else◌}
use Rattle.std.specs.List.{filter}
use Rattle.std.proofs.Math.Bool.{or_assoc}
use Rattle.redl_tree.specs.Model.Nodes.{Tag, Nodes, no_nodes, bytes, element, Item, bytes_item, element_item, idle_item, in_front, ◌⊕◌}
use Rattle.redl_tree.specs.Model.Kids.{only, without, some_element, item_is, has_element}
use Rattle.redl_tree.specs.Model.IdleTexts.{idle_nodes}
use Rattle.redl_tree.specs.Model.View.{item_of, nodes_of}
use Rattle.redl_tree.specs.declared.node.Node.{Node}
use Rattle.redl_tree.proofs.Model.Laws.{⊕-no_nodes, in_front-⊕}
use Rattle.redl_tree.proofs.Decisions.PassLaws.{without-⊕}
use Rattle.redl_tree.proofs.Idle.Lists.{NoneIs, only_past, without_past}
use Rattle.redl_tree.proofs.Idle.Items.{nodes_are_idle, none_idle}

-- a first node that passes the test is kept by `only`
pub only_kept : (test : Tag → Bool) → NoneIs false test → (x : Item) (xs : Nodes) → item_is test x ≡ true → only test (in_front x xs) ≡ in_front x (only test xs)
only_kept test none (bytes_item b) xs e = absurd cc
only_kept test none (element_item tag kids) xs e = rw e refl
only_kept test none (idle_item t) xs e = absurd (true≢false (sym e ∙ none_idle test none t))

-- a first node that does not pass the test is left out by `only`
pub only_left : (test : Tag → Bool) → NoneIs false test → (x : Item) (xs : Nodes) → item_is test x ≡ false → only test (in_front x xs) ≡ only test xs
only_left test none (bytes_item b) xs e = refl
only_left test none (element_item tag kids) xs e = rw e refl
only_left test none (idle_item t) xs e = only_past false test none (idle_nodes t) xs (nodes_are_idle t)

-- a first node that passes the test is left out by `without`
pub without_left : (test : Tag → Bool) → NoneIs false test → (x : Item) (xs : Nodes) → item_is test x ≡ true → without test (in_front x xs) ≡ without test xs
without_left test none (bytes_item b) xs e = absurd cc
without_left test none (element_item tag kids) xs e = rw e refl
without_left test none (idle_item t) xs e = absurd (true≢false (sym e ∙ none_idle test none t))

-- a first node that does not pass the test is kept by `without`
pub without_kept : (test : Tag → Bool) → NoneIs false test → (x : Item) (xs : Nodes) → item_is test x ≡ false → without test (in_front x xs) ≡ in_front x (without test xs)
without_kept test none (bytes_item b) xs e = refl
without_kept test none (element_item tag kids) xs e = rw e refl
without_kept test none (idle_item t) xs e = without_past false test none (idle_nodes t) xs (nodes_are_idle t)

-- the nodes that a test keeps are those of their list
pub filter_only : (test : Tag → Bool) → NoneIs false test → (xs : List Node) → nodes_of (filter (λ x. item_is test (item_of x)) xs) ≡ only test (nodes_of xs)
filter_only test none [] = refl
filter_only test none (x ∷ xs) = by_first (item_is test (item_of x)) refl (filter_only test none xs) where
  rest : List Node
  rest = filter (λ y. item_is test (item_of y)) xs

  by_first : (b : Bool) → item_is test (item_of x) ≡ b → nodes_of rest ≡ only test (nodes_of xs) → nodes_of (if b then x ∷ rest else rest) ≡ only test (nodes_of (x ∷ xs))
  by_first true e same = ap (in_front (item_of x)) same ∙ sym (only_kept test none (item_of x) (nodes_of xs) e)
  by_first false e same = same ∙ sym (only_left test none (item_of x) (nodes_of xs) e)

-- the nodes that a test doesn't keep
pub filter_without : (test : Tag → Bool) → NoneIs false test → (xs : List Node) → nodes_of (filter (λ x. not (item_is test (item_of x))) xs) ≡ without test (nodes_of xs)
filter_without test none [] = refl
filter_without test none (x ∷ xs) = by_first (item_is test (item_of x)) refl (filter_without test none xs) where
  rest : List Node
  rest = filter (λ y. not (item_is test (item_of y))) xs

  by_first : (b : Bool) → item_is test (item_of x) ≡ b → nodes_of rest ≡ without test (nodes_of xs) → nodes_of (if not b then x ∷ rest else rest) ≡ without test (nodes_of (x ∷ xs))
  by_first true e same = same ∙ sym (without_left test none (item_of x) (nodes_of xs) e)
  by_first false e same = ap (in_front (item_of x)) same ∙ sym (without_kept test none (item_of x) (nodes_of xs) e)

-- ---- of two lists, one after the other

only-⊕ : (test : Tag → Bool) (xs ys : Nodes) → only test (xs ⊕ ys) ≡ only test xs ⊕ only test ys
only-⊕ test no_nodes ys = refl
only-⊕ test (bytes b rest) ys = only-⊕ test rest ys
only-⊕ test (element tag kids rest) ys = at (test tag) (only-⊕ test rest ys) where
  at : (b : Bool) → only test (rest ⊕ ys) ≡ only test rest ⊕ only test ys → (if b then element tag kids (only test (rest ⊕ ys)) else only test (rest ⊕ ys)) ≡ (if b then element tag kids (only test rest) else only test rest) ⊕ only test ys
  at true later = ap (element tag kids) later
  at false later = later

has-⊕ : (xs ys : Nodes) → has_element (xs ⊕ ys) ≡ (has_element xs || has_element ys)
has-⊕ no_nodes ys = refl
has-⊕ (bytes b rest) ys = has-⊕ rest ys
has-⊕ (element tag kids rest) ys = refl

-- some element of two lists passes a test if one of the first list or one of the second does
pub some-⊕ : (test : Tag → Bool) (xs ys : Nodes) → some_element test (xs ⊕ ys) ≡ (some_element test xs || some_element test ys)
some-⊕ test no_nodes ys = refl
some-⊕ test (bytes b rest) ys = some-⊕ test rest ys
some-⊕ test (element tag kids rest) ys =
    ap (λ b. test tag || b) (some-⊕ test rest ys) ∙ sym (or_assoc (test tag) (some_element test rest) (some_element test ys))

-- of one node and the nodes after it
pub has-in_front : (x : Item) (xs : Nodes) → has_element (in_front x xs) ≡ (has_element (in_front x no_nodes) || has_element xs)
has-in_front x xs = ap has_element (sym (in_front-⊕ x no_nodes xs)) ∙ has-⊕ (in_front x no_nodes) xs

-- the same of one node and the nodes after it
pub some-in_front : (test : Tag → Bool) (x : Item) (xs : Nodes) → some_element test (in_front x xs) ≡ (item_is test x || some_element test xs)
some-in_front test (bytes_item b) xs = refl
some-in_front test (element_item tag kids) xs = refl
some-in_front test (idle_item t) xs = some-⊕ test (idle_nodes t) xs

pub more_front : (test : Tag → Bool) (x : Item) (xs : Nodes) → has_element (without test (in_front x xs)) ≡ (has_element (without test (in_front x no_nodes)) || has_element (without test xs))
more_front test (bytes_item b) xs = refl
more_front test (idle_item t) xs =
    ap has_element (without-⊕ test (idle_nodes t) xs) ∙ has-⊕ (without test (idle_nodes t)) (without test xs)
    ∙ ap (λ (ns : Nodes). has_element (without test ns) || has_element (without test xs)) (sym (⊕-no_nodes (idle_nodes t)))
more_front test (element_item tag kids) xs = at (test tag)
  where
    at : (b : Bool) → has_element (if b then without test xs else element tag kids (without test xs)) ≡ (has_element (if b then no_nodes else element tag kids no_nodes) || has_element (without test xs))
    at true = refl
    at false = refl

-- `only` takes the first node and the nodes after it apart from each other
pub only_front : (test : Tag → Bool) (x : Item) (xs : Nodes) → only test (in_front x xs) ≡ only test (in_front x no_nodes) ⊕ only test xs
only_front test (bytes_item b) xs = refl
only_front test (idle_item t) xs =
    only-⊕ test (idle_nodes t) xs ∙ ap (λ (ns : Nodes). only test ns ⊕ only test xs) (sym (⊕-no_nodes (idle_nodes t)))
only_front test (element_item tag kids) xs = at (test tag)
  where
    at : (b : Bool) → (if b then element tag kids (only test xs) else only test xs) ≡ (if b then element tag kids no_nodes else no_nodes) ⊕ only test xs
    at true = refl
    at false = refl
