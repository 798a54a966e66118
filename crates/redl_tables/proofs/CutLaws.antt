-- What cuts, and what goes, a node at a time.
use Prim.Native.String.{String}
use Rattle.std.proofs.Common.{◌≡◌, List, [], ◌∷◌, ◌++◌, Bool, true, false, refl, sym, ap, ◌∙◌, ◌&&◌, ◌||◌, if◌then◌else◌}
use Rattle.std.proofs.Math.Bool.{or_assoc}
use Rattle.std.specs.List.{list_all}
use Rattle.redl_tree.proofs.Model.Laws.{⊕_assoc}
use Rattle.redl_tree.proofs.Idle.Items.{nodes_are_idle}
use Rattle.redl_tree.proofs.Idle.Lists.{NoneIs, name_none, some_past, kids_of_all_past, own_past}
use Rattle.redl_tree.specs.Model.Nodes.{Nodes, no_nodes, bytes, element, Item, bytes_item, element_item, idle_item, in_front, ◌⊕◌}
use Rattle.redl_tree.specs.Model.IdleTexts.{idle_nodes}
use Rattle.redl_tree.specs.Roles.Names.{is}
use Rattle.redl_tree.specs.Model.Kids.{kids_of_all}
use Rattle.redl_tree.specs.Roles.Lists.{into, is_direct}
use Rattle.redl_tree.specs.Decisions.Fates.{fate_of}
use Rattle.redl_tree.specs.Roles.Kinds.{is_cut, is_mark, is_row, is_cell}
use Rattle.redl_tree.specs.Decisions.Tables.{own, has_cut, para_is_cut, all_of_some, cells_go, cell_is_cut}
use Rattle.redl_tree.specs.declared.kinds.Say.{Say}
use Rattle.redl_tree.specs.declared.kinds.Kind.{Kind}
use Rattle.redl_tree.specs.declared.lists.Reach.{Reach}
use Rattle.redl_tree.specs.declared.lists.Reach.TheVariants.{Beyond}
use Rattle.redl_tables.specs.Owners.{test_of, name_of, item_cuts, item_cuts_below, item_cuts_para, unit_name, unit_goes, and_then, found_of, is_gone, is_living, item_found}
use Rattle.redl_tables.specs.declared.cuts.Owner.{Owner}
use Rattle.redl_tables.specs.declared.cuts.Owner.TheVariants.{Mark, Row, Cell}
use Rattle.redl_tables.specs.declared.owned.Unit.{Unit as Own}
use Rattle.redl_tables.specs.declared.owned.Unit.TheVariants as unit
use Rattle.redl_tables.specs.declared.owned.Finding.{Finding}
use Rattle.redl_tables.specs.declared.owned.Finding.TheVariants.{Nothing, Gone, Living}

-- two lists of nodes have such a member if one of them has it
pub has_cut-⊕ : (test : Kind → Bool) (says : List Say) (xs ys : Nodes) → has_cut test says (xs ⊕ ys) ≡ (has_cut test says xs || has_cut test says ys)
has_cut-⊕ test says no_nodes ys = refl
has_cut-⊕ test says (bytes b rest) ys = has_cut-⊕ test says rest ys
has_cut-⊕ test says (element tag kids rest) ys =
    let here = test tag.kind && is_cut (fate_of says tag) in
    ap (λ b. here || b) (has_cut-⊕ test says rest ys) ∙ sym (or_assoc here (has_cut test says rest) (has_cut test says ys))

-- the kids of the elements with a name are those in the first list of nodes, and then those in the second
pub kids_of_all-⊕ : (name : String) (xs ys : Nodes) → kids_of_all name (xs ⊕ ys) ≡ kids_of_all name xs ⊕ kids_of_all name ys
kids_of_all-⊕ name no_nodes ys = refl
kids_of_all-⊕ name (bytes b rest) ys = kids_of_all-⊕ name rest ys
kids_of_all-⊕ name (element tag kids rest) ys = at (is name tag) (kids_of_all-⊕ name rest ys)
  where
    at : (b : Bool) → kids_of_all name (rest ⊕ ys) ≡ kids_of_all name rest ⊕ kids_of_all name ys
        → (if b then kids ⊕ kids_of_all name (rest ⊕ ys) else kids_of_all name (rest ⊕ ys)) ≡ (if b then kids ⊕ kids_of_all name rest else kids_of_all name rest) ⊕ kids_of_all name ys
    at true ih = ap (λ n. kids ⊕ n) ih ∙ sym (⊕_assoc kids (kids_of_all name rest) (kids_of_all name ys))
    at false ih = ih

-- idle elements are no members, hold none, and are no rows or cells
no_member : (owner : Owner) (says : List Say) → NoneIs false (λ tag. test_of owner tag.kind && is_cut (fate_of says tag))
no_member Mark says tag i = ap (λ k. is_mark k && is_cut (fate_of says tag)) i.kind
no_member Row says tag i = ap (λ k. is_row k && is_cut (fate_of says tag)) i.kind
no_member Cell says tag i = ap (λ k. is_cell k && is_cut (fate_of says tag)) i.kind

no_holder : (owner : Owner) → NoneIs false (is (name_of owner))
no_holder Mark = name_none "rPr" false refl
no_holder Row = name_none "trPr" false refl
no_holder Cell = name_none "tcPr" false refl

no_unit : (what : Own) (in_run : Bool) → NoneIs in_run (is (unit_name what))
no_unit unit.Row in_run = name_none "tr" in_run refl
no_unit unit.Cell in_run = name_none "tc" in_run refl

pub cuts-in_front : (owner : Owner) (says : List Say) (x : Item) (ys : Nodes)
    → has_cut (test_of owner) says (in_front x ys) ≡ (item_cuts owner says x || has_cut (test_of owner) says ys)
cuts-in_front owner says (bytes_item b) ys = refl
cuts-in_front owner says (element_item tag kids) ys = refl
cuts-in_front owner says (idle_item t) ys = some_past false _ (no_member owner says) (idle_nodes t) ys (nodes_are_idle t)

-- the kids of all elements with a name, with a test of nodes that goes through
below : (test : Kind → Bool) (says : List Say) (b : Bool) (kids more : Nodes)
    → has_cut test says (if b then kids ⊕ more else more) ≡ ((b && has_cut test says kids) || has_cut test says more)
below test says true kids more = has_cut-⊕ test says kids more
below test says false kids more = refl

pub below-in_front : (owner : Owner) (says : List Say) (x : Item) (ys : Nodes)
    → has_cut (test_of owner) says (kids_of_all (name_of owner) (in_front x ys)) ≡ (item_cuts_below owner says x || has_cut (test_of owner) says (kids_of_all (name_of owner) ys))
below-in_front owner says (bytes_item b) ys = refl
below-in_front owner says (idle_item t) ys =
    ap (has_cut (test_of owner) says) (kids_of_all_past false (name_of owner) (no_holder owner) (idle_nodes t) ys (nodes_are_idle t))
below-in_front owner says (element_item tag kids) ys = below (test_of owner) says (is (name_of owner) tag) kids (kids_of_all (name_of owner) ys)

pub para-in_front : (says : List Say) (x : Item) (ys : Nodes) → para_is_cut says (in_front x ys) ≡ (item_cuts_para says x || para_is_cut says ys)
para-in_front says (bytes_item b) ys = refl
para-in_front says (idle_item t) ys =
    ap (λ (ns : Nodes). has_cut is_mark says (kids_of_all "rPr" ns)) (kids_of_all_past false "pPr" (name_none "pPr" false refl) (idle_nodes t) ys (nodes_are_idle t))
para-in_front says (element_item tag kids) ys = at (is "pPr" tag)
  where
    more : Nodes
    more = kids_of_all "pPr" ys

    at : (b : Bool) → has_cut is_mark says (kids_of_all "rPr" (if b then kids ⊕ more else more))
        ≡ ((b && has_cut is_mark says (kids_of_all "rPr" kids)) || has_cut is_mark says (kids_of_all "rPr" more))
    at true = ap (has_cut is_mark says) (kids_of_all-⊕ "rPr" kids more) ∙ has_cut-⊕ is_mark says (kids_of_all "rPr" kids) (kids_of_all "rPr" more)
    at false = refl

-- ---- own rows and cells

then_assoc : (a b c : Finding) → and_then (and_then a b) c ≡ and_then a (and_then b c)
then_assoc Nothing b c = refl
then_assoc Living b c = refl
then_assoc Gone Nothing Nothing = refl
then_assoc Gone Nothing Gone = refl
then_assoc Gone Nothing Living = refl
then_assoc Gone Living c = refl
then_assoc Gone Gone Nothing = refl
then_assoc Gone Gone Gone = refl
then_assoc Gone Gone Living = refl

-- nothing found later leaves a finding as it is
pub then-nothing : (a : Finding) → and_then a Nothing ≡ a
then-nothing Nothing = refl
then-nothing Living = refl
then-nothing Gone = refl

pub found_of-append : (test : Nodes → Bool) (xs ys : List Nodes) → found_of test (xs ++ ys) ≡ and_then (found_of test xs) (found_of test ys)
found_of-append test [] ys = refl
found_of-append test (x ∷ xs) ys =
    let here = if test x then Gone else Living in
    ap (and_then here) (found_of-append test xs ys) ∙ sym (then_assoc here (found_of test xs) (found_of test ys))

pub found-in_front : (what : Own) (says : List Say) (reach : Reach) (x : Item) (ys : Nodes)
    → found_of (unit_goes what says) (own (unit_name what) reach (in_front x ys))
    ≡ and_then (item_found what says reach x) (found_of (unit_goes what says) (own (unit_name what) reach ys))
found-in_front what says reach (bytes_item b) ys = refl
found-in_front what says reach (idle_item t) ys =
    ap (found_of (unit_goes what says)) (own_past (unit_name what) (no_unit what) false reach (idle_nodes t) ys (nodes_are_idle t))
found-in_front what says reach (element_item tag kids) ys = at (is_direct reach && is (unit_name what) tag)
  where
    test : Nodes → Bool
    test = unit_goes what says

    further : List Nodes
    further = own (unit_name what) (into reach tag) kids

    more : List Nodes
    more = own (unit_name what) reach ys

    at : (b : Bool) → found_of test ((if b then kids ∷ [] else further) ++ more)
        ≡ and_then (if b then (if test kids then Gone else Living) else found_of test further) (found_of test more)
    at true = refl
    at false = found_of-append test further more

-- one step of the walk, and what is built already
pub found-more : (what : Own) (says : List Say) (reach : Reach) (x : Item) (ys left : Nodes) (all whole : Finding) → left ≡ in_front x ys
    → and_then all (found_of (unit_goes what says) (own (unit_name what) reach left)) ≡ whole
    → and_then (and_then all (item_found what says reach x)) (found_of (unit_goes what says) (own (unit_name what) reach ys)) ≡ whole
found-more what says reach x ys left all whole here before =
    let test = unit_goes what says in
    then_assoc all (item_found what says reach x) (found_of test (own (unit_name what) reach ys))
    ∙ ap (and_then all) (sym (ap (λ n. found_of test (own (unit_name what) reach n)) here ∙ found-in_front what says reach x ys)) ∙ before

pub all-gone : (test : Nodes → Bool) (xs : List Nodes) → all_of_some test xs ≡ is_gone (found_of test xs)
all-gone test [] = refl
all-gone test (x ∷ xs) = at (test x) (rest xs)
  where
    at : (b : Bool) → (list_all test xs ≡ is_gone (and_then Gone (found_of test xs))) → (b && list_all test xs) ≡ is_gone (and_then (if b then Gone else Living) (found_of test xs))
    at true same = same
    at false same = refl

    rest : (ys : List Nodes) → list_all test ys ≡ is_gone (and_then Gone (found_of test ys))
    rest [] = refl
    rest (y ∷ ys) = by (test y) (found_of test ys) (rest ys)
      where
        by : (b : Bool) (f : Finding) → list_all test ys ≡ is_gone (and_then Gone f) → (b && list_all test ys) ≡ is_gone (and_then Gone (and_then (if b then Gone else Living) f))
        by true Nothing same = same
        by true Gone same = same
        by true Living same = same
        by false f same = refl

pub own-beyond : (name : String) (nodes : Nodes) → own name Beyond nodes ≡ []
own-beyond name no_nodes = refl
own-beyond name (bytes b rest) = own-beyond name rest
own-beyond name (element tag kids rest) = ap (λ xs. xs ++ own name Beyond rest) (own-beyond name kids) ∙ own-beyond name rest

pub living-is : (f : Finding) → is_living f ≡ true → f ≡ Living
living-is Living e = refl
living-is Nothing e = absurd (cc)
living-is Gone e = absurd (cc)

pub cells-gone : (says : List Say) (reach : Reach) (kids : Nodes) → cells_go says reach kids ≡ is_gone (found_of (cell_is_cut says) (own "tc" reach kids))
cells-gone says reach kids = all-gone (cell_is_cut says) (own "tc" reach kids)
