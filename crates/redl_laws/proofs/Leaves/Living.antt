-- The numbers of own rows and cells that stay tell which tables, rows and shells go.
use Prim.Native.String.{String}
use Rattle.std.proofs.Common.{◌≡◌, ◌∙◌, refl, sym, ap, ℕ, suc, ◌+◌, List, [], ◌∷◌, ◌++◌, Bool, true, false, true≢false, ◌&&◌, ◌||◌, not, ◌==◌, None, if◌then◌else◌, arith, rules}
use Rattle.std.specs.List.{list_any, list_all}
use Rattle.std.proofs.lemmas.Bool.{false_from_ne_true, or_right, and_right}
use Rattle.std.proofs.Math.Bool.{and-true, and-false, or-false}
use Rattle.std.specs.Cmp.{first_so, second_so}
use Rattle.redl_tree.specs.Model.Nodes.{Tag, Nodes, no_nodes, bytes, element}
use Rattle.redl_tree.specs.Roles.Names.{is, is_any}
use Rattle.redl_tree.specs.Roles.Places.{is_quiet, is_open}
use Rattle.redl_tree.specs.Roles.Lists.{into, nowhere, still, has_blocks, place, is_direct, is_blocks, is_rows, is_cells, in_blocks, in_rows, in_cells, is_wrapper, is_shell, is_thick}
use Rattle.redl_tree.specs.Revisions.Markers.{is_own, is_reached}
use Rattle.redl_tree.specs.Decisions.Tables.{own, all_of_some, cell_is_cut, row_is_cut, row_goes, rows_go, cells_go, goes_at}
use Rattle.redl_tree.specs.Leaves.Containers.{is_control, opens, opens_outer, is_control_content}
use Rattle.redl_tree.specs.Leaves.Slots.{has_mark, Slots, Sibling, para_sibling, thin_sibling, thick_sibling, open_sibling, slots_from, sibling, siblings, slots_in}
use Rattle.redl_tree.specs.Leaves.Living.{own_sum, holds_own_of_ancestor, owned, living, all_gone, cut_at, goes_by_counts}
use Rattle.redl_tree.specs.declared.lists.Place.{Place}
use Rattle.redl_tree.specs.declared.lists.Reach.{Reach}
use Rattle.redl_tree.specs.declared.lists.Reach.TheVariants.{Direct, Control, Beyond}
use Rattle.redl_tree.specs.declared.lists.Lot.{Lot}
use Rattle.redl_tree.specs.declared.lists.Lot.TheVariants.{Blocks, Rows, Cells}
use Rattle.redl_tree.specs.declared.kinds.Say.{Say}
use Rattle.redl_tree.proofs.Roles.NameLaws.{all_differ, is_any-apart, is-other, is_frame, frame_names, frame-quiet, is-among, is_any-among}
use Rattle.redl_laws.proofs.Leaves.Openings.{opens-named, outer_names, outer-named, outer-root, root-nowhere, place-choice, into-direct}
use Rattle.redl_laws.proofs.Leaves.Containers.{AllContainers, Carries, all-containers}

-- a sum over a list
abbrev pub total : {X : Type 0} → (X → ℕ) → List X → ℕ
total value [] = 0
total value (x ∷ xs) = value x + total value xs

pub total-append : {X : Type 0} (value : X → ℕ) (xs ys : List X) → total value (xs ++ ys) ≡ total value xs + total value ys
total-append value [] ys = omega arith
total-append value (x ∷ xs) ys = let e = total-append value xs ys in omega arith

zero-test : (n : ℕ) → (suc n == 0) ≡ false
zero-test n = search (rules, arith)

zero-sum : (b : Bool) (n : ℕ) → (((if b then 0 else 1) + n) == 0) ≡ (b && n == 0)
zero-sum true n = ap (λ k. k == 0) (let e : 0 + n ≡ n = omega arith in e)
zero-sum false n = ap (λ k. k == 0) (let e : 1 + n ≡ suc n = omega arith in e) ∙ zero-test n

all-total : {X : Type 0} (test : X → Bool) (xs : List X) →
    list_all test xs ≡ (total (λ x. if test x then 0 else 1) xs == 0)
all-total test [] = refl
all-total test (x ∷ xs) =
    ap (λ b. test x && b) (all-total test xs) ∙ sym (zero-sum (test x) (total (λ x. if test x then 0 else 1) xs))

-- some and all, by numbers
pub gone-all : {X : Type 0} (test : X → Bool) (xs : List X) →
    all_of_some test xs ≡ all_gone (total (λ x. 1) xs) (total (λ x. if test x then 0 else 1) xs)
gone-all test [] = refl
gone-all test (x ∷ xs) =
    all-total test (x ∷ xs)
    ∙ ap (λ b. not b && total (λ x. if test x then 0 else 1) (x ∷ xs) == 0)
    (sym (ap (λ k. k == 0) (let e : 1 + total (λ x. 1) xs ≡ suc (total (λ x. 1) xs) = omega arith in e) ∙ zero-test (total (λ x. 1) xs)))

pub own-beyond : (name : String) (nodes : Nodes) → own name Beyond nodes ≡ []
own-beyond name no_nodes = refl
own-beyond name (bytes b rest) = own-beyond name rest
own-beyond name (element tag kids rest) =
    ap (λ xs. xs ++ own name Beyond rest) (own-beyond name kids) ∙ own-beyond name rest

abbrev at_place : Lot → Reach → Place
at_place l r = record { lot = l; reach = r }

-- below a table or row no element is an outer container
not-outer : (ancestors : List Tag) (tag : Tag) → ((place ancestors ≡ nowhere) → ⊥) → opens_outer ancestors tag ≡ false
not-outer [] tag h = refl
not-outer (root ∷ other ∷ ancestors) tag h = refl
not-outer (root ∷ []) tag h =
    false_from_ne_true (opens_outer (root ∷ []) tag) (λ e. h (root-nowhere root (outer-root root tag e)))

direct-no_control : (ancestors : List Tag) (tag : Tag) → is_direct (place ancestors).reach ≡ true → is_control_content ancestors tag ≡ false
direct-no_control ancestors tag h = at (place ancestors).reach h
  where
    at : (r : Reach) → is_direct r ≡ true → (is_control r && is "sdtContent" tag) ≡ false
    at Direct h = refl
    at Control h = absurd (true≢false (sym h))
    at Beyond h = refl

control-content : (ancestors : List Tag) (tag : Tag) → (place ancestors).reach ≡ Control → is_control_content ancestors tag ≡ is "sdtContent" tag
control-content ancestors tag h = ap (λ r. is_control r && is "sdtContent" tag) h

-- whether an element is a container, by its place
abbrev opens_by : Bool → Bool → Place → Tag → Bool
opens_by below content p tag =
    below
    || (is_direct p.reach && is_blocks p.lot) && (is "tbl" tag || is_wrapper tag)
    || (is_direct p.reach && is_rows p.lot) && is "tr" tag
    || (is_direct p.reach && is_cells p.lot) && is "tc" tag
    || is_wrapper tag && ((is_direct p.reach && is_rows p.lot) || (is_direct p.reach && is_cells p.lot))
    || content

opens-by : (ancestors : List Tag) (tag : Tag) → opens ancestors tag ≡ opens_by (opens_outer ancestors tag) (is_control_content ancestors tag) (place ancestors) tag
opens-by ancestors tag = refl

reach-rows : {l : Lot} {r : Reach} → at_place l r ≡ nowhere → r ≡ Beyond
reach-rows e = ap (λ p. p.reach) e

opens-rows : (ancestors : List Tag) (tag : Tag) → place ancestors ≡ at_place Rows Direct → opens ancestors tag ≡ (is "tr" tag || is_wrapper tag)
opens-rows ancestors tag e =
    ap (λ b. opens_by b (is_control_content ancestors tag) (place ancestors) tag)
    (not-outer ancestors tag (λ n. let k : Direct ≡ Beyond = ap (λ p. p.reach) (sym e ∙ n) in cc))
    ∙ ap (λ c. opens_by false c (place ancestors) tag) (direct-no_control ancestors tag (ap (λ p. is_direct p.reach) e))
    ∙ ap (λ p. opens_by false false p tag) e
    ∙ or-false (is "tr" tag || false || is_wrapper tag && true)
    ∙ ap (λ b. b || is_wrapper tag && true) (or-false (is "tr" tag))
    ∙ ap (λ b. is "tr" tag || b) (and-true (is_wrapper tag))

opens-cells : (ancestors : List Tag) (tag : Tag) → place ancestors ≡ at_place Cells Direct → opens ancestors tag ≡ (is "tc" tag || is_wrapper tag)
opens-cells ancestors tag e =
    ap (λ b. opens_by b (is_control_content ancestors tag) (place ancestors) tag)
    (not-outer ancestors tag (λ n. let k : Direct ≡ Beyond = ap (λ p. p.reach) (sym e ∙ n) in cc))
    ∙ ap (λ c. opens_by false c (place ancestors) tag) (direct-no_control ancestors tag (ap (λ p. is_direct p.reach) e))
    ∙ ap (λ p. opens_by false false p tag) e
    ∙ or-false (is "tc" tag || is_wrapper tag && true)
    ∙ ap (λ b. is "tc" tag || b) (and-true (is_wrapper tag))

opens-control : (ancestors : List Tag) (tag : Tag) (l : Lot) → place ancestors ≡ at_place l Control → opens ancestors tag ≡ is "sdtContent" tag
opens-control ancestors tag l e =
    ap (λ b. opens_by b (is_control_content ancestors tag) (place ancestors) tag)
    (not-outer ancestors tag (λ n. let k : Control ≡ Beyond = ap (λ p. p.reach) (sym e ∙ n) in cc))
    ∙ ap (λ p. opens_by false (is_control_content ancestors tag) p tag) e
    ∙ ap (λ b. b || is_control_content ancestors tag) (and-false (is_wrapper tag))
    ∙ control-content ancestors tag (ap (λ p. p.reach) e)

-- the lists of rows, and of cells: what opens there, and what is own there
pub record IsGrid (l : Lot) (name : String) : Type 0 where
  pub opened : (ancestors : List Tag) (tag : Tag) → place ancestors ≡ at_place l Direct → opens ancestors tag ≡ (is name tag || is_wrapper tag)
  pub shells : (ancestors : List Tag) (tag : Tag) → place ancestors ≡ at_place l Direct → is_wrapper tag ≡ true → is_shell ancestors tag ≡ true
  pub own_here : (ancestors : List Tag) (tag : Tag) → place ancestors ≡ at_place l Direct → is_own ancestors tag ≡ is name tag
  pub no_blocks : is_blocks l ≡ false

abbrev own_by : Place → Tag → Bool
own_by p tag = (is_direct p.reach && is_rows p.lot) && is "tr" tag || (is_direct p.reach && is_cells p.lot) && is "tc" tag

abbrev shell_by : Place → Tag → Bool
shell_by p tag = is_wrapper tag && ((is_direct p.reach && is_rows p.lot) || (is_direct p.reach && is_cells p.lot))

rows-grid : IsGrid Rows "tr"
rows-grid = record {
  opened = λ ancestors tag e. opens-rows ancestors tag e;
  shells = λ ancestors tag e h. ap (λ p. shell_by p tag) e ∙ and-true (is_wrapper tag) ∙ h;
  own_here = λ ancestors tag e. ap (λ p. own_by p tag) e ∙ or-false (is "tr" tag);
  no_blocks = refl;
}

cells-grid : IsGrid Cells "tc"
cells-grid = record {
  opened = λ ancestors tag e. opens-cells ancestors tag e;
  shells = λ ancestors tag e h. ap (λ p. shell_by p tag) e ∙ and-true (is_wrapper tag) ∙ h;
  own_here = λ ancestors tag e. ap (λ p. own_by p tag) e;
  no_blocks = refl;
}

open-below : (tag : Tag) (ancestors : List Tag) → is_frame tag ≡ true → is_open ancestors ≡ true → is_open (tag ∷ ancestors) ≡ true
open-below tag ancestors f h = ap (λ b. not (b || list_any is_quiet ancestors)) (frame-quiet tag f) ∙ h

abbrev shell_names : List String
shell_names = "sdt" ∷ "customXml" ∷ "sdtContent" ∷ []

place-below : (tag : Tag) (ancestors : List Tag) (l : Lot) (r : Reach) → is_any shell_names tag ≡ true → is_open ancestors ≡ true →
    place ancestors ≡ at_place l r → place (tag ∷ ancestors) ≡ still l (into r tag)
place-below tag ancestors l r n o e =
    place-choice (is_open (tag ∷ ancestors)) (has_blocks tag) (is "tbl" tag) (is "tr" tag)
    (still (place ancestors).lot (into (place ancestors).reach tag))
    (is_any-apart shell_names ("body" ∷ "hdr" ∷ "ftr" ∷ "footnote" ∷ "endnote" ∷ "comment" ∷ "tc" ∷ "txbxContent" ∷ []) tag n refl)
    (sym (or-false (is "tbl" tag)) ∙ is_any-apart shell_names ("tbl" ∷ []) tag n refl)
    (sym (or-false (is "tr" tag)) ∙ is_any-apart shell_names ("tr" ∷ []) tag n refl)
    ∙ ap (λ b. if b then still (place ancestors).lot (into (place ancestors).reach tag) else nowhere)
    (open-below tag ancestors (is_any-among shell_names frame_names tag n refl) o)
    ∙ ap (λ p. still p.lot (into p.reach tag)) e

still-reached : (l : Lot) (r : Reach) → is_reached r ≡ true → still l r ≡ at_place l r
still-reached l Direct h = refl
still-reached l Control h = refl
still-reached l Beyond h = absurd (true≢false (sym h))

wrapper-reached : (tag : Tag) → is_wrapper tag ≡ true → is_reached (into Direct tag) ≡ true
wrapper-reached tag h = at (is "sdt" tag) (is "customXml" tag) h
  where
    at : (a b : Bool) → (a || (b || false)) ≡ true → is_reached (if a then Control else if b then Direct else Beyond) ≡ true
    at true b h = refl
    at false true h = refl
    at false false h = absurd (true≢false (sym h))

-- what a container adds to the sum
abbrev share : (List Tag → Tag → Nodes → ℕ) → List Tag → Tag → Nodes → Slots → ℕ
share w ancestors tag kids inner =
    if is_own ancestors tag then w ancestors tag kids else if holds_own_of_ancestor ancestors tag then own_sum w (tag ∷ ancestors) inner else 0

-- one element before others, outside lists of blocks
sum-front : (w : List Tag → Tag → Nodes → ℕ) (ancestors : List Tag) (tag : Tag) (kids : Nodes) (inner : Slots) (later : List Sibling) → in_blocks ancestors ≡ false →
    own_sum w ancestors (slots_from false None (sibling opens ancestors tag kids inner ∷ later))
    ≡ (if opens ancestors tag then share w ancestors tag kids inner + own_sum w ancestors (slots_from false None later)
    else own_sum w ancestors (slots_from false None later))
sum-front w ancestors tag kids inner later e = at (opens ancestors tag) (is "p" tag && in_blocks ancestors) (and_right (is "p" tag) (in_blocks ancestors) e) (is_thick tag)
  where
    at : (o p : Bool) → p ≡ false → (t : Bool) →
        own_sum w ancestors (slots_from false None ((if o then open_sibling tag kids inner else if p then para_sibling (has_mark kids) (element tag kids no_nodes)
        else if t then thick_sibling (element tag kids no_nodes) else thin_sibling (element tag kids no_nodes)) ∷ later))
        ≡ (if o then share w ancestors tag kids inner + own_sum w ancestors (slots_from false None later)
        else own_sum w ancestors (slots_from false None later))
    at true p e t = refl
    at false true e t = absurd (true≢false e)
    at false false e true = refl
    at false false e false = refl

-- one element among rows or cells
grid-direct : (name : String) (w : List Tag → Tag → Nodes → ℕ) (v : Nodes → ℕ) (ancestors : List Tag) (tag : Tag) (kids : Nodes)
    (inner : Slots) (after : ℕ) (others : List Nodes) (n m : Bool) → is_own ancestors tag ≡ n → is_wrapper tag ≡ m →
    (n ≡ true → w ancestors tag kids ≡ v kids) →
    (m ≡ true → holds_own_of_ancestor ancestors tag ≡ true) →
    (m ≡ true → own_sum w (tag ∷ ancestors) inner ≡ total v (own name (into Direct tag) kids)) →
    after ≡ total v others →
    (if n || m then share w ancestors tag kids inner + after else after)
    ≡ total v ((if n then kids ∷ [] else own name (into Direct tag) kids) ++ others)
grid-direct name w v ancestors tag kids inner after others true m o k weigh between below e =
    ap (λ b. (if b then w ancestors tag kids else if holds_own_of_ancestor ancestors tag then own_sum w (tag ∷ ancestors) inner else 0) + after) o
    ∙ ap (λ a. a + after) (weigh refl)
    ∙ ap (λ a. v kids + a) e
grid-direct name w v ancestors tag kids inner after others false true o k weigh between below e =
    ap (λ b. (if b then w ancestors tag kids else if holds_own_of_ancestor ancestors tag then own_sum w (tag ∷ ancestors) inner else 0) + after) o
    ∙ ap (λ b. (if b then own_sum w (tag ∷ ancestors) inner else 0) + after) (between refl)
    ∙ ap (λ a. a + after) (below refl)
    ∙ ap (λ a. total v (own name (into Direct tag) kids) + a) e
    ∙ sym (total-append v (own name (into Direct tag) kids) others)
grid-direct name w v ancestors tag kids inner after others false false o k weigh between below e =
    e ∙ sym (ap (λ xs. total v (xs ++ others)) (ap (λ r. own name r kids) (into-direct tag k) ∙ own-beyond name kids))

-- one element of a content control
grid-control : (name : String) (w : List Tag → Tag → Nodes → ℕ) (v : Nodes → ℕ) (ancestors : List Tag) (tag : Tag) (kids : Nodes)
    (inner : Slots) (after : ℕ) (others : List Nodes) (s : Bool) → is_own ancestors tag ≡ false →
    (s ≡ true → holds_own_of_ancestor ancestors tag ≡ true) →
    (s ≡ true → own_sum w (tag ∷ ancestors) inner ≡ total v (own name Direct kids)) →
    after ≡ total v others →
    (if s then share w ancestors tag kids inner + after else after)
    ≡ total v (own name (if s then Direct else Beyond) kids ++ others)
grid-control name w v ancestors tag kids inner after others true o between below e =
    ap (λ b. (if b then w ancestors tag kids else if holds_own_of_ancestor ancestors tag then own_sum w (tag ∷ ancestors) inner else 0) + after) o
    ∙ ap (λ b. (if b then own_sum w (tag ∷ ancestors) inner else 0) + after) (between refl)
    ∙ ap (λ a. a + after) (below refl)
    ∙ ap (λ a. total v (own name Direct kids) + a) e
    ∙ sym (total-append v (own name Direct kids) others)
grid-control name w v ancestors tag kids inner after others false o between below e =
    e ∙ sym (ap (λ xs. total v (xs ++ others)) (own-beyond name kids))

no-list : (ancestors : List Tag) (l : Lot) (r : Reach) → is_blocks l ≡ false → place ancestors ≡ at_place l r → in_blocks ancestors ≡ false
no-list ancestors l r b e = ap (λ p. is_direct p.reach && is_blocks p.lot) e ∙ ap (λ c. is_direct r && c) b ∙ and-false (is_direct r)

-- the sum over the slots is the sum over the own rows or cells
pub sum-grid : (l : Lot) (name : String) → IsGrid l name → (w : List Tag → Tag → Nodes → ℕ) (v : Nodes → ℕ) →
    ((ancestors : List Tag) (tag : Tag) (kids : Nodes) → is name tag ≡ true → w ancestors tag kids ≡ v kids) →
    (ancestors : List Tag) (nodes : Nodes) (r : Reach) → is_reached r ≡ true → is_open ancestors ≡ true → place ancestors ≡ at_place l r →
    own_sum w ancestors (slots_from false None (siblings opens ancestors nodes)) ≡ total v (own name r nodes)
sum-grid l name grid w v weigh ancestors no_nodes r k o e = refl
sum-grid l name grid w v weigh ancestors (bytes b rest) r k o e =
    sum-grid l name grid w v weigh ancestors rest r k o e
sum-grid l name grid w v weigh ancestors (element tag kids rest) Beyond k o e = absurd (true≢false (sym k))
sum-grid l name grid w v weigh ancestors (element tag kids rest) Direct k o e =
    let inner = slots_in opens (tag ∷ ancestors) kids in
    let after = own_sum w ancestors (slots_from false None (siblings opens ancestors rest)) in
    sum-front w ancestors tag kids inner (siblings opens ancestors rest) (no-list ancestors l Direct grid.no_blocks e)
    ∙ ap (λ c. if c then share w ancestors tag kids inner + after else after)
    (grid.opened ancestors tag e)
    ∙ grid-direct name w v ancestors tag kids inner after
    (own name Direct rest) (is name tag) (is_wrapper tag) (grid.own_here ancestors tag e) refl
    (λ n. weigh ancestors tag kids n)
    (λ m. ap (λ b. b || is_control_content ancestors tag) (grid.shells ancestors tag e m))
    (λ m.
    let named : is_any shell_names tag ≡ true = is_any-among ("sdt" ∷ "customXml" ∷ []) shell_names tag m refl in
    let here : place (tag ∷ ancestors) ≡ at_place l (into Direct tag) =
    place-below tag ancestors l Direct named o e ∙ still-reached l (into Direct tag) (wrapper-reached tag m) in
    ap (λ b. own_sum w (tag ∷ ancestors) (slots_from b None (siblings opens (tag ∷ ancestors) kids)))
    (no-list (tag ∷ ancestors) l (into Direct tag) grid.no_blocks here)
    ∙ sum-grid l name grid w v weigh (tag ∷ ancestors) kids (into Direct tag) (wrapper-reached tag m)
    (open-below tag ancestors (is_any-among shell_names frame_names tag named refl) o) here)
    (sum-grid l name grid w v weigh ancestors rest Direct k o e)
sum-grid l name grid w v weigh ancestors (element tag kids rest) Control k o e =
    let inner = slots_in opens (tag ∷ ancestors) kids in
    let after = own_sum w ancestors (slots_from false None (siblings opens ancestors rest)) in
    sum-front w ancestors tag kids inner (siblings opens ancestors rest) (no-list ancestors l Control grid.no_blocks e)
    ∙ ap (λ c. if c then share w ancestors tag kids inner + after else after)
    (opens-control ancestors tag l e)
    ∙ grid-control name w v ancestors tag kids inner after
    (own name Control rest) (is "sdtContent" tag) (ap (λ p. own_by p tag) e)
    (λ s. or_right (is_shell ancestors tag) (is_control_content ancestors tag) (control-content ancestors tag (ap (λ p. p.reach) e) ∙ s))
    (λ s.
    let named : is_any shell_names tag ≡ true = is-among "sdtContent" shell_names tag s refl in
    let here : place (tag ∷ ancestors) ≡ at_place l Direct =
    place-below tag ancestors l Control named o e ∙ ap (λ b. still l (if b then Direct else Beyond)) s in
    ap (λ b. own_sum w (tag ∷ ancestors) (slots_from b None (siblings opens (tag ∷ ancestors) kids)))
    (no-list (tag ∷ ancestors) l Direct grid.no_blocks here)
    ∙ sum-grid l name grid w v weigh (tag ∷ ancestors) kids Direct refl
    (open-below tag ancestors (is_any-among shell_names frame_names tag named refl) o) here)
    (sum-grid l name grid w v weigh ancestors rest Control k o e)

-- the same from the kids of a container
pub sum-kids : (l : Lot) (name : String) → IsGrid l name → (w : List Tag → Tag → Nodes → ℕ) (v : Nodes → ℕ) →
    ((ancestors : List Tag) (tag : Tag) (kids : Nodes) → is name tag ≡ true → w ancestors tag kids ≡ v kids) →
    (ancestors : List Tag) (nodes : Nodes) (r : Reach) → is_reached r ≡ true → is_open ancestors ≡ true → place ancestors ≡ at_place l r →
    own_sum w ancestors (slots_in opens ancestors nodes) ≡ total v (own name r nodes)
sum-kids l name grid w v weigh ancestors nodes r k o e =
    ap (λ b. own_sum w ancestors (slots_from b None (siblings opens ancestors nodes))) (no-list ancestors l r grid.no_blocks e)
    ∙ sum-grid l name grid w v weigh ancestors nodes r k o e

-- what goes of own rows and cells
goes-row : (says : List Say) (ancestors : List Tag) (tag : Tag) (kids : Nodes) → is "tr" tag ≡ true → goes_at says ancestors tag kids ≡ row_goes says kids
goes-row says ancestors tag kids h =
    at (is "tc" tag) (is "tr" tag) (is "tbl" tag) (is_shell ancestors tag) (cell_is_cut says kids) (row_goes says kids)
    (if is "tbl" tag then rows_go says Direct kids else if in_cells ancestors then cells_go says (into Direct tag) kids else rows_go says (into Direct tag) kids)
    (is-other "tr" "tc" tag h refl) h
  where
    at : (c r t s x y z : Bool) → c ≡ false → r ≡ true → ((c || r || t || s) && (if c then x else if r then y else z)) ≡ y
    at true r t s x y z p q = absurd (true≢false p)
    at false false t s x y z p q = absurd (true≢false (sym q))
    at false true t s x y z p q = refl

goes-cell : (says : List Say) (ancestors : List Tag) (tag : Tag) (kids : Nodes) → is "tc" tag ≡ true → goes_at says ancestors tag kids ≡ cell_is_cut says kids
goes-cell says ancestors tag kids h =
    at (is "tc" tag) (is "tr" tag) (is "tbl" tag) (is_shell ancestors tag) (cell_is_cut says kids)
    (if is "tr" tag then row_goes says kids else if is "tbl" tag then rows_go says Direct kids
    else if in_cells ancestors then cells_go says (into Direct tag) kids else rows_go says (into Direct tag) kids) h
  where
    at : (c r t s x z : Bool) → c ≡ true → ((c || r || t || s) && (if c then x else z)) ≡ x
    at false r t s x z p = absurd (true≢false (sym p))
    at true r t s x z p = refl

-- what a container of rows or of cells holds goes where none of them lives
gone-grid : (l : Lot) (name : String) → IsGrid l name → (says : List Say) (test : Nodes → Bool) →
    ((ancestors : List Tag) (tag : Tag) (kids : Nodes) → is name tag ≡ true → goes_at says ancestors tag kids ≡ test kids) →
    (ancestors : List Tag) (nodes : Nodes) (r : Reach) → is_reached r ≡ true → is_open ancestors ≡ true → place ancestors ≡ at_place l r →
    all_of_some test (own name r nodes) ≡ all_gone (owned ancestors (slots_in opens ancestors nodes)) (living says ancestors (slots_in opens ancestors nodes))
gone-grid l name grid says test same ancestors nodes r k o e =
    gone-all test (own name r nodes)
    ∙ ap (λ n. all_gone n (total (λ x. if test x then 0 else 1) (own name r nodes)))
    (sym (sum-kids l name grid (λ ancestors tag kids. 1) (λ x. 1) (λ ancestors tag kids h. refl) ancestors nodes r k o e))
    ∙ ap (λ n. all_gone (owned ancestors (slots_in opens ancestors nodes)) n)
    (sym (sum-kids l name grid (λ ancestors tag kids. if goes_at says ancestors tag kids then 0 else 1) (λ x. if test x then 0 else 1)
    (λ ancestors tag kids h. ap (λ b. if b then 0 else 1) (same ancestors tag kids h)) ancestors nodes r k o e))

-- the place of the rows of a table and of the cells of a row
below-list : (o h t r : Bool) (l : Place) → o ≡ true → h ≡ false →
    (if o then (if h then at_place Blocks Direct else if t then at_place Rows Direct else if r then at_place Cells Direct else l) else nowhere)
    ≡ (if t then at_place Rows Direct else if r then at_place Cells Direct else l)
below-list true false t r l p q = refl
below-list true true t r l p q = absurd (true≢false q)
below-list false h t r l p q = absurd (true≢false (sym p))

table-place : (tag : Tag) (ancestors : List Tag) → is "tbl" tag ≡ true → is_open ancestors ≡ true → place (tag ∷ ancestors) ≡ at_place Rows Direct
table-place tag ancestors h o =
    below-list (is_open (tag ∷ ancestors)) (has_blocks tag) (is "tbl" tag) (is "tr" tag) (still (place ancestors).lot (into (place ancestors).reach tag))
    (open-below tag ancestors (is-among "tbl" frame_names tag h refl) o)
    (is_any-apart ("tbl" ∷ []) ("body" ∷ "hdr" ∷ "ftr" ∷ "footnote" ∷ "endnote" ∷ "comment" ∷ "tc" ∷ "txbxContent" ∷ []) tag (or-false (is "tbl" tag) ∙ h) refl)
    ∙ ap (λ b. if b then at_place Rows Direct else if is "tr" tag then at_place Cells Direct
    else still (place ancestors).lot (into (place ancestors).reach tag)) h

row-place : (tag : Tag) (ancestors : List Tag) → is "tr" tag ≡ true → is_open ancestors ≡ true → place (tag ∷ ancestors) ≡ at_place Cells Direct
row-place tag ancestors h o =
    below-list (is_open (tag ∷ ancestors)) (has_blocks tag) (is "tbl" tag) (is "tr" tag) (still (place ancestors).lot (into (place ancestors).reach tag))
    (open-below tag ancestors (is-among "tr" frame_names tag h refl) o)
    (is_any-apart ("tr" ∷ []) ("body" ∷ "hdr" ∷ "ftr" ∷ "footnote" ∷ "endnote" ∷ "comment" ∷ "tc" ∷ "txbxContent" ∷ []) tag (or-false (is "tr" tag) ∙ h) refl)
    ∙ ap (λ b. if b then at_place Rows Direct else if is "tr" tag then at_place Cells Direct
    else still (place ancestors).lot (into (place ancestors).reach tag)) (is-other "tr" "tbl" tag h refl)
    ∙ ap (λ b. if b then at_place Cells Direct else still (place ancestors).lot (into (place ancestors).reach tag)) h

rows-here : (p : Place) → (is_direct p.reach && is_rows p.lot) ≡ true → p ≡ at_place Rows Direct
rows-here p h = at p.lot p.reach h
  where
    at : (l : Lot) (r : Reach) → (is_direct r && is_rows l) ≡ true → at_place l r ≡ at_place Rows Direct
    at Rows Direct h = refl
    at Blocks Direct h = absurd (true≢false (sym h))
    at Cells Direct h = absurd (true≢false (sym h))
    at l Control h = absurd (true≢false (sym h))
    at l Beyond h = absurd (true≢false (sym h))

cells-here : (p : Place) → (is_direct p.reach && is_cells p.lot) ≡ true → p ≡ at_place Cells Direct
cells-here p h = at p.lot p.reach h
  where
    at : (l : Lot) (r : Reach) → (is_direct r && is_cells l) ≡ true → at_place l r ≡ at_place Cells Direct
    at Cells Direct h = refl
    at Blocks Direct h = absurd (true≢false (sym h))
    at Rows Direct h = absurd (true≢false (sym h))
    at l Control h = absurd (true≢false (sym h))
    at l Beyond h = absurd (true≢false (sym h))

-- the numbers of a container
abbrev pub own_number : List Tag → Tag → Nodes → ℕ
own_number ancestors tag kids = owned (tag ∷ ancestors) (slots_in opens (tag ∷ ancestors) kids)

abbrev pub live_number : List Say → List Tag → Tag → Nodes → ℕ
live_number says ancestors tag kids = living says (tag ∷ ancestors) (slots_in opens (tag ∷ ancestors) kids)

gone-table : (says : List Say) (ancestors : List Tag) (tag : Tag) (kids : Nodes) → is_open ancestors ≡ true → is "tbl" tag ≡ true →
    rows_go says Direct kids ≡ all_gone (own_number ancestors tag kids) (live_number says ancestors tag kids)
gone-table says ancestors tag kids o h =
    gone-grid Rows "tr" rows-grid says (row_goes says) (goes-row says) (tag ∷ ancestors) kids Direct refl
    (open-below tag ancestors (is-among "tbl" frame_names tag h refl) o) (table-place tag ancestors h o)

gone-row : (says : List Say) (ancestors : List Tag) (tag : Tag) (kids : Nodes) → is_open ancestors ≡ true → is "tr" tag ≡ true →
    cells_go says Direct kids ≡ all_gone (own_number ancestors tag kids) (live_number says ancestors tag kids)
gone-row says ancestors tag kids o h =
    gone-grid Cells "tc" cells-grid says (cell_is_cut says) (goes-cell says) (tag ∷ ancestors) kids Direct refl
    (open-below tag ancestors (is-among "tr" frame_names tag h refl) o) (row-place tag ancestors h o)

gone-shell_of_rows : (says : List Say) (ancestors : List Tag) (tag : Tag) (kids : Nodes) → is_open ancestors ≡ true → is_wrapper tag ≡ true →
    place ancestors ≡ at_place Rows Direct →
    rows_go says (into Direct tag) kids ≡ all_gone (own_number ancestors tag kids) (live_number says ancestors tag kids)
gone-shell_of_rows says ancestors tag kids o h e =
    let named : is_any shell_names tag ≡ true = is_any-among ("sdt" ∷ "customXml" ∷ []) shell_names tag h refl in
    gone-grid Rows "tr" rows-grid says (row_goes says) (goes-row says) (tag ∷ ancestors) kids (into Direct tag) (wrapper-reached tag h)
    (open-below tag ancestors (is_any-among shell_names frame_names tag named refl) o)
    (place-below tag ancestors Rows Direct named o e ∙ still-reached Rows (into Direct tag) (wrapper-reached tag h))

gone-shell_of_cells : (says : List Say) (ancestors : List Tag) (tag : Tag) (kids : Nodes) → is_open ancestors ≡ true → is_wrapper tag ≡ true →
    place ancestors ≡ at_place Cells Direct →
    cells_go says (into Direct tag) kids ≡ all_gone (own_number ancestors tag kids) (live_number says ancestors tag kids)
gone-shell_of_cells says ancestors tag kids o h e =
    let named : is_any shell_names tag ≡ true = is_any-among ("sdt" ∷ "customXml" ∷ []) shell_names tag h refl in
    gone-grid Cells "tc" cells-grid says (cell_is_cut says) (goes-cell says) (tag ∷ ancestors) kids (into Direct tag) (wrapper-reached tag h)
    (open-below tag ancestors (is_any-among shell_names frame_names tag named refl) o)
    (place-below tag ancestors Cells Direct named o e ∙ still-reached Cells (into Direct tag) (wrapper-reached tag h))

-- a shell: by where it stands
shell-choice : (says : List Say) (ancestors : List Tag) (tag : Tag) (kids : Nodes) → is_open ancestors ≡ true → is_shell ancestors tag ≡ true →
    (b : Bool) → in_cells ancestors ≡ b →
    (if b then cells_go says (into Direct tag) kids else rows_go says (into Direct tag) kids)
    ≡ all_gone (own_number ancestors tag kids) (live_number says ancestors tag kids)
shell-choice says ancestors tag kids o h true e =
    gone-shell_of_cells says ancestors tag kids o (first_so (is_wrapper tag) (in_rows ancestors || in_cells ancestors) h) (cells-here (place ancestors) e)
shell-choice says ancestors tag kids o h false e =
    gone-shell_of_rows says ancestors tag kids o (first_so (is_wrapper tag) (in_rows ancestors || in_cells ancestors) h)
    (rows-here (place ancestors)
    (sym (or-false (in_rows ancestors)) ∙ sym (ap (λ b. in_rows ancestors || b) e)
    ∙ second_so (is_wrapper tag) (in_rows ancestors || in_cells ancestors) h))

choose-counts : (c r t s : Bool) (cell row tab sh cut spent : Bool) →
    (r ≡ true → row ≡ (cut || spent)) → (t ≡ true → tab ≡ spent) → (s ≡ true → sh ≡ spent) →
    ((c || r || t || s) && (if c then cell else if r then row else if t then tab else sh))
    ≡ (if c then (if c then cell else if r then cut else false) else if r then (if c then cell else if r then cut else false) || spent
    else (t || s) && spent)
choose-counts true r t s cell row tab sh cut spent a b d = refl
choose-counts false true t s cell row tab sh cut spent a b d = a refl
choose-counts false false true s cell row tab sh cut spent a b d = b refl
choose-counts false false false true cell row tab sh cut spent a b d = d refl
choose-counts false false false false cell row tab sh cut spent a b d = refl

-- the law of counts: a cell goes where it is cut, a row where it is cut or has cells and none stays, a table or a shell where it
-- has rows or cells and none stays
pub goes-by-counts : (says : List Say) (ancestors : List Tag) (tag : Tag) (kids : Nodes) → is_open ancestors ≡ true →
    goes_at says ancestors tag kids
    ≡ goes_by_counts ancestors tag (cut_at says tag kids) (own_number ancestors tag kids) (live_number says ancestors tag kids)
goes-by-counts says ancestors tag kids o =
    choose-counts (is "tc" tag) (is "tr" tag) (is "tbl" tag) (is_shell ancestors tag) (cell_is_cut says kids) (row_goes says kids)
    (rows_go says Direct kids)
    (if in_cells ancestors then cells_go says (into Direct tag) kids else rows_go says (into Direct tag) kids)
    (row_is_cut says kids) (all_gone (own_number ancestors tag kids) (live_number says ancestors tag kids))
    (λ h. ap (λ b. row_is_cut says kids || b) (gone-row says ancestors tag kids o h))
    (λ h. gone-table says ancestors tag kids o h)
    (λ h. shell-choice says ancestors tag kids o h (in_cells ancestors) refl)

-- whether a container goes is what its numbers say
abbrev pub IsCounted : List Say → List Tag → Tag → Nodes → Slots → Type 0
IsCounted says ancestors tag kids inner =
    goes_at says ancestors tag kids ≡ goes_by_counts ancestors tag (cut_at says tag kids) (owned (tag ∷ ancestors) inner) (living says (tag ∷ ancestors) inner)

counts-carry : (says : List Say) → Carries opens (λ ancestors nodes. is_open ancestors ≡ true) (IsCounted says)
counts-carry says = record {
  after_bytes = λ ancestors b rest known. known;
  after_element = λ ancestors tag kids rest known. known;
  below = λ ancestors tag kids rest known o. open-below tag ancestors (opens-named ancestors tag o) known;
  here = λ ancestors tag kids rest known o. goes-by-counts says ancestors tag kids known;
}

-- the law of counts, for each container of a split
pub counted-containers : (says : List Say) (ancestors : List Tag) (nodes : Nodes) → is_open ancestors ≡ true →
    AllContainers (IsCounted says) ancestors (slots_in opens ancestors nodes)
counted-containers says ancestors nodes o = all-containers (IsCounted says) opens (λ ancestors nodes. is_open ancestors ≡ true) (counts-carry says) ancestors nodes o

-- ---- where the outer containers alone are opened, none of them goes

outer-counted : (says : List Say) (ancestors : List Tag) (tag : Tag) (kids : Nodes) (inner : Slots) → opens_outer ancestors tag ≡ true → IsCounted says ancestors tag kids inner
outer-counted says ancestors tag kids inner o =
    let named = outer-named ancestors tag o in
    at (is "tc" tag) (is "tr" tag) (is "tbl" tag) (is_wrapper tag) (none "tc" named refl) (none "tr" named refl) (none "tbl" named refl)
    (is_any-apart outer_names ("sdt" ∷ "customXml" ∷ []) tag named refl)
    (in_rows ancestors || in_cells ancestors) _ _ _
  where
    none : (name : String) → is_any outer_names tag ≡ true → all_differ outer_names (name ∷ []) ≡ true → is name tag ≡ false
    none name named apart = sym (or-false (is name tag)) ∙ is_any-apart outer_names (name ∷ []) tag named apart

    at : (c r t w : Bool) → c ≡ false → r ≡ false → t ≡ false → w ≡ false → (x y cut gone : Bool)
        → ((c || r || t || w && x) && y) ≡ (if c then cut else if r then cut || gone else (t || w && x) && gone)
    at true r t w p q k l x y cut gone = absurd (true≢false p)
    at false true t w p q k l x y cut gone = absurd (true≢false q)
    at false false true w p q k l x y cut gone = absurd (true≢false k)
    at false false false true p q k l x y cut gone = absurd (true≢false l)
    at false false false false p q k l x y cut gone = refl

pub counted-outer : (says : List Say) (ancestors : List Tag) (nodes : Nodes) → AllContainers (IsCounted says) ancestors (slots_in opens_outer ancestors nodes)
counted-outer says ancestors nodes = all-containers (IsCounted says) opens_outer (λ ancestors nodes. Unit {0}) carries ancestors nodes tt
  where
    carries : Carries opens_outer (λ ancestors nodes. Unit {0}) (IsCounted says)
    carries = record {
      after_bytes = λ ancestors b rest known. tt;
      after_element = λ ancestors tag kids rest known. tt;
      below = λ ancestors tag kids rest known o. tt;
      here = λ ancestors tag kids rest known o. outer-counted says ancestors tag kids (slots_in opens_outer (tag ∷ ancestors) kids) o;
    }
