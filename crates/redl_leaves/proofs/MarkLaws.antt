-- Tests over nodes, a node at a time.
use Prim.Native.String.{String}
use Rattle.std.proofs.Common.{◌≡◌, ◌<◌, ◌+◌, ℕ, List, length, get_or, drop, Bool, true, false, refl, sym, ap, ◌∙◌, ◌&&◌, ◌||◌, if◌then◌else◌}
use Rattle.std.proofs.Math.Bool.{or_assoc}
use Rattle.redl_tree.specs.Model.Nodes.{Tag, Nodes, no_nodes, bytes, element, Item, bytes_item, element_item, idle_item, in_front, ◌⊕◌}
use Rattle.redl_tree.specs.Model.IdleTexts.{idle_nodes}
use Rattle.redl_tree.specs.Model.Kids.{some_element, kids_of_all}
use Rattle.redl_tree.specs.Model.View.{nodes_of, item_of}
use Rattle.redl_tree.specs.Roles.Names.{is}
use Rattle.redl_tree.specs.Roles.Kinds.{is_mark}
use Rattle.redl_tree.specs.Leaves.Slots.{has_mark}
use Rattle.redl_tree.specs.declared.node.Node.{Node}
use Rattle.redl_tree.proofs.Model.Laws.{⊕_assoc, nodes_here}
use Rattle.redl_tree.proofs.Idle.Items.{nodes_are_idle}
use Rattle.redl_tree.proofs.Idle.Lists.{NoneIs, name_none, some_past, kids_of_all_past}
use Rattle.redl_leaves.specs.Inside.Marks.{has_run_mark, has_para_mark, is_mark_item, is_marked_run, is_marked_para}

some-⊕ : (test : Tag → Bool) (xs ys : Nodes) → some_element test (xs ⊕ ys) ≡ (some_element test xs || some_element test ys)
some-⊕ test no_nodes ys = refl
some-⊕ test (bytes b rest) ys = some-⊕ test rest ys
some-⊕ test (element tag kids rest) ys =
    ap (λ b. test tag || b) (some-⊕ test rest ys) ∙ sym (or_assoc (test tag) (some_element test rest) (some_element test ys))

kids-⊕ : (name : String) (xs ys : Nodes) → kids_of_all name (xs ⊕ ys) ≡ kids_of_all name xs ⊕ kids_of_all name ys
kids-⊕ name no_nodes ys = refl
kids-⊕ name (bytes b rest) ys = kids-⊕ name rest ys
kids-⊕ name (element tag kids rest) ys = at (is name tag) (kids-⊕ name rest ys)
  where
    at : (b : Bool) → kids_of_all name (rest ⊕ ys) ≡ kids_of_all name rest ⊕ kids_of_all name ys
        → (if b then kids ⊕ kids_of_all name (rest ⊕ ys) else kids_of_all name (rest ⊕ ys)) ≡ (if b then kids ⊕ kids_of_all name rest else kids_of_all name rest) ⊕ kids_of_all name ys
    at true ih = ap (λ n. kids ⊕ n) ih ∙ sym (⊕_assoc kids (kids_of_all name rest) (kids_of_all name ys))
    at false ih = ih

no_mark : NoneIs false (λ tag. is_mark tag.kind)
no_mark tag i = ap is_mark i.kind

pub run-in_front : (x : Item) (ys : Nodes) → has_run_mark (in_front x ys) ≡ (is_mark_item x || has_run_mark ys)
run-in_front (bytes_item b) ys = refl
run-in_front (idle_item t) ys = some_past false (λ tag. is_mark tag.kind) no_mark (idle_nodes t) ys (nodes_are_idle t)
run-in_front (element_item tag kids) ys = refl

pub para-in_front : (x : Item) (ys : Nodes) → has_para_mark (in_front x ys) ≡ (is_marked_run x || has_para_mark ys)
para-in_front (bytes_item b) ys = refl
para-in_front (idle_item t) ys = ap has_run_mark (kids_of_all_past false "rPr" (name_none "rPr" false refl) (idle_nodes t) ys (nodes_are_idle t))
para-in_front (element_item tag kids) ys = at (is "rPr" tag)
  where
    at : (b : Bool) → has_run_mark (if b then kids ⊕ kids_of_all "rPr" ys else kids_of_all "rPr" ys) ≡ ((b && has_run_mark kids) || has_para_mark ys)
    at true = some-⊕ (λ tag. is_mark tag.kind) kids (kids_of_all "rPr" ys)
    at false = refl

pub mark-in_front : (x : Item) (ys : Nodes) → has_mark (in_front x ys) ≡ (is_marked_para x || has_mark ys)
mark-in_front (bytes_item b) ys = refl
mark-in_front (idle_item t) ys = ap has_para_mark (kids_of_all_past false "pPr" (name_none "pPr" false refl) (idle_nodes t) ys (nodes_are_idle t))
mark-in_front (element_item tag kids) ys = at (is "pPr" tag)
  where
    at : (b : Bool) → has_para_mark (if b then kids ⊕ kids_of_all "pPr" ys else kids_of_all "pPr" ys) ≡ ((b && has_para_mark kids) || has_mark ys)
    at true =
        ap has_run_mark (kids-⊕ "rPr" kids (kids_of_all "pPr" ys))
        ∙ some-⊕ (λ tag. is_mark tag.kind) (kids_of_all "rPr" kids) (kids_of_all "rPr" (kids_of_all "pPr" ys))
    at false = refl

-- one step of a loop over nodes that looks for one of which a test holds
pub step : (whole : Nodes → Bool) (one : Item → Bool) → ((x : Item) (ys : Nodes) → whole (in_front x ys) ≡ (one x || whole ys))
    → (xs : List Node) (i : ℕ) (x : Node) (b : Bool) → i < length xs → x ≡ get_or xs i x → one (item_of x) ≡ b
    → whole (nodes_of (drop i xs)) ≡ (b || whole (nodes_of (drop (i + 1) xs)))
step whole one law xs i x b within is e =
    ap whole (nodes_here xs i x within is) ∙ law (item_of x) (nodes_of (drop (i + 1) xs)) ∙ ap (λ c. c || whole (nodes_of (drop (i + 1) xs))) e
