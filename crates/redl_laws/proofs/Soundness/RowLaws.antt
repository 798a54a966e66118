-- Rule 2 holds again after a pass: a row that stays has a cell that stays.
use Prim.Native.String.{String}
use Rattle.std.proofs.Common.{◌≡◌, List, [], ◌∷◌, ◌++◌, append_assoc, Bool, true, false, ◌&&◌, ◌||◌, not, ◌⊎◌, inl, inr, is_some, refl, sym, ap, ◌∙◌, true≢false, ⊎_elim, if◌then◌else◌}
use Rattle.std.proofs.lemmas.Bool.{and_from, or_parts, and_right, false_from_ne_true}
use Rattle.std.specs.List.{list_all}
use Rattle.std.proofs.Math.Bool.{and-true}
use Rattle.redl_tree.specs.Model.Nodes.{Tag, Nodes, no_nodes, bytes, element, ◌⊕◌}
use Rattle.redl_tree.specs.Roles.Names.{is}
use Rattle.redl_tree.specs.Model.Kids.{only}
use Rattle.redl_tree.specs.Roles.Places.{is_quiet, is_open, is_range_edge, trace_of}
use Rattle.redl_tree.specs.Roles.Lists.{into, place, inside, is_direct, in_blocks, in_cells, is_shell}
use Rattle.redl_tree.specs.Roles.Kinds.{is_content}
use Rattle.redl_tree.specs.Decisions.Fates.{fate, fate_of, say_of, renamed}
use Rattle.redl_tree.specs.Decisions.Restored.{after_change}
use Rattle.redl_tree.specs.Decisions.Tables.{own, has_own, cell_is_cut, row_is_cut, row_goes, cells_go, all_of_some, goes, goes_at}
use Rattle.redl_tree.specs.Decisions.Pass.{by_fate, kept_kids, element_pass, pass}
use Rattle.redl_tree.specs.Rules.Tests.{Test, open_one}
use Rattle.redl_tree.specs.Rules.Sound.{test_2}
use Rattle.redl_tree.specs.declared.lists.Reach.{Reach}
use Rattle.redl_tree.specs.declared.lists.Reach.TheVariants.{Direct, Control, Beyond}
use Rattle.redl_tree.specs.declared.lists.Lot.TheVariants.{Cells}
use Rattle.redl_tree.specs.declared.kinds.Kind.TheVariants.{Plain}
use Rattle.redl_tree.specs.declared.kinds.Say.{Say}
use Rattle.redl_tree.specs.declared.kinds.Fate.{Fate}
use Rattle.redl_tree.specs.declared.kinds.Fate.TheVariants.{Leave}
use Rattle.redl_tree.proofs.Decisions.PassLaws.{each, pass-each}
use Rattle.redl_tree.proofs.Roles.Named.{by_name}
use Rattle.redl_tree.proofs.Roles.Fits.{Fits, true_false, open_∷, open_fits, OpenKind, plain, content, marker, open_none_rejected}
use Rattle.redl_laws.proofs.Soundness.AlikeTags.{Like, own_renamed, like_into}
use Rattle.redl_laws.proofs.Soundness.Ancestors.{Came, came_open, implies_from, implies_of, not_to}
use Rattle.redl_laws.proofs.Soundness.Walk.{Holds, Ground, Kept, made, change_shut}
use Rattle.redl_laws.proofs.Soundness.Properties.{fits_of, made_open, open_came, no_p, shut_one}

-- the list is empty
abbrev pub is_empty : {X : Type 0} → List X → Bool
is_empty [] = true
is_empty (x ∷ xs) = false

own-⊕ : (name : String) (reach : Reach) (xs ys : Nodes) → own name reach (xs ⊕ ys) ≡ own name reach xs ++ own name reach ys
own-⊕ name reach no_nodes ys = refl
own-⊕ name reach (bytes b rest) ys = own-⊕ name reach rest ys
own-⊕ name reach (element t k rest) ys =
    let here = if is_direct reach && is name t then k ∷ [] else own name (into reach t) k in
    ap (λ x. here ++ x) (own-⊕ name reach rest ys) ∙ sym (append_assoc here (own name reach rest) (own name reach ys))

-- a list has rows or cells of its own if the list of these is not empty
pub own-has : (name : String) (reach : Reach) (xs : Nodes) → has_own name reach xs ≡ not (is_empty (own name reach xs))
own-has name reach no_nodes = refl
own-has name reach (bytes b rest) = own-has name reach rest
own-has name reach (element t k rest) = at (is_direct reach && is name t) (own-has name (into reach t) k) (own-has name reach rest)
  where
    left : (xs ys : List Nodes) (p q : Bool) → p ≡ not (is_empty xs) → q ≡ not (is_empty ys) → (p || q) ≡ not (is_empty (xs ++ ys))
    left [] ys p q e f = rw e f
    left (x ∷ xs) ys p q e f = rw e refl

    at : (b : Bool) → has_own name (into reach t) k ≡ not (is_empty (own name (into reach t) k)) → has_own name reach rest ≡ not (is_empty (own name reach rest)) →
        ((if b then true else has_own name (into reach t) k) || has_own name reach rest) ≡ not (is_empty ((if b then k ∷ [] else own name (into reach t) k) ++ own name reach rest))
    at true e f = refl
    at false e f = left (own name (into reach t) k) (own name reach rest) (has_own name (into reach t) k) (has_own name reach rest) e f

own_beyond : (name : String) (xs : Nodes) → own name Beyond xs ≡ []
own_beyond name no_nodes = refl
own_beyond name (bytes b rest) = own_beyond name rest
own_beyond name (element t k rest) = rw (own_beyond name k, own_beyond name rest) refl

all-++ : {X : Type 0} (test : X → Bool) (xs ys : List X) → list_all test (xs ++ ys) ≡ false → (list_all test xs ≡ false) ⊎ (list_all test ys ≡ false)
all-++ test [] ys e = inr e
all-++ test (x ∷ xs) ys e = at (test x) refl e (λ h. all-++ test xs ys h)
  where
    at : (b : Bool) → test x ≡ b → (b && list_all test (xs ++ ys)) ≡ false → (list_all test (xs ++ ys) ≡ false → (list_all test xs ≡ false) ⊎ (list_all test ys ≡ false)) →
        ((b && list_all test xs) ≡ false) ⊎ (list_all test ys ≡ false)
    at true h e ih = ih e
    at false h e ih = inl refl

full_left : {X : Type 0} (xs ys : List X) → is_empty xs ≡ false → is_empty (xs ++ ys) ≡ false
full_left [] ys e = absurd (true≢false e)
full_left (x ∷ xs) ys e = refl

full_right : {X : Type 0} (xs ys : List X) → is_empty ys ≡ false → is_empty (xs ++ ys) ≡ false
full_right [] ys e = e
full_right (x ∷ xs) ys e = refl

-- an element among the content that is no revision and doesn't go stays
pub plain_stays : (ext : Test) → (says : List Say) (ancestors : List Tag) (a : Tag) (kids passed : Nodes) → is_open ancestors ≡ true → Fits ancestors a → is_quiet a ≡ false → Ground ext (a ∷ ancestors) kids →
    is_some (trace_of a) ≡ false → is_range_edge a ≡ false → goes_at says ancestors a kids ≡ false →
    element_pass says ancestors a kids passed ≡ element (renamed says ancestors a) passed no_nodes
plain_stays ext says ancestors a kids passed o fit q g t e w = of_kind (open_fits ancestors a o fit)
  where
    stays : (f : Fate) (ic gone : Bool) (x y : Nodes) → f ≡ Leave → gone ≡ false → by_fate f ic x (if gone then no_nodes else y) ≡ y
    stays f ic gone x y p r = rw (p, r) refl

    of_plain : a.kind ≡ Plain → element_pass says ancestors a kids passed ≡ element (renamed says ancestors a) passed no_nodes
    of_plain k =
        stays (fate_of says a) (is_content a.kind) (goes_at says ancestors a kids) passed (element (renamed says ancestors a) (kept_kids says ancestors a kids passed) no_nodes) (ap (λ x. fate x (say_of says a.rev)) k) w
        ∙ ap (λ u. element (renamed says ancestors a) (after_change ancestors a u passed) no_nodes) (open_none_rejected says (a ∷ ancestors) kids (open_∷ a ancestors q ∙ o) (fits_of ext (a ∷ ancestors) kids g))

    of_kind : OpenKind a → element_pass says ancestors a kids passed ≡ element (renamed says ancestors a) passed no_nodes
    of_kind (plain k h) = of_plain k
    of_kind (content tr k h) = absurd (true≢false (sym (ap is_some h) ∙ t))
    of_kind (marker k h) = absurd (true_false (is_range_edge a) h e)

own_one : (name : String) (reach : Reach) (t : Tag) (kids : Nodes) → own name reach (element t kids no_nodes) ≡ (if is_direct reach && is name t then kids ∷ [] else own name (into reach t) kids) ++ []
own_one name reach t kids = refl

-- among cells, at a reach
abbrev AtCells : Reach → List Tag → Type 0
AtCells reach ancestors = (place ancestors ≡ record { lot = Cells; reach = reach }) × (is_open ancestors ≡ true)

cells_blocks : (reach : Reach) (ancestors : List Tag) → AtCells reach ancestors → in_blocks ancestors ≡ false
cells_blocks Direct ancestors h = rw h.0 refl
cells_blocks Control ancestors h = rw h.0 refl
cells_blocks Beyond ancestors h = rw h.0 refl

-- the parts of a shell round cells
data Part_of : Reach → Tag → Reach → Type 0 where
  control_in : (a : Tag) → is "sdt" a ≡ true → Part_of Direct a Control
  custom_in : (a : Tag) → is "customXml" a ≡ true → Part_of Direct a Direct
  content_in : (a : Tag) → is "sdtContent" a ≡ true → Part_of Control a Direct
  none_in : (reach : Reach) (a : Tag) → Part_of reach a Beyond

part_of : (reach : Reach) (a : Tag) → Part_of reach a (into reach a)
part_of Direct a = at (is "sdt" a) refl (is "customXml" a) refl
  where
    at : (x : Bool) → is "sdt" a ≡ x → (y : Bool) → is "customXml" a ≡ y → Part_of Direct a (if x then Control else if y then Direct else Beyond)
    at true e y f = control_in a e
    at false e true f = custom_in a f
    at false e false f = none_in Direct a
part_of Control a = at (is "sdtContent" a) refl
  where
    at : (x : Bool) → is "sdtContent" a ≡ x → Part_of Control a (if x then Direct else Beyond)
    at true e = content_in a e
    at false e = none_in Control a
part_of Beyond a = none_in Beyond a

-- what is needed of a part of a shell
record ShellPart (says : List Say) (ancestors : List Tag) (a : Tag) (kids : Nodes) (reach inner : Reach) : Type 0 where
  quiet : is_quiet a ≡ false
  no_trace : is_some (trace_of a) ≡ false
  no_edge : is_range_edge a ≡ false
  no_cell : is "tc" a ≡ false
  no_para : is "p" a ≡ false
  stays : list_all (cell_is_cut says) (own "tc" inner kids) ≡ false → goes_at says ancestors a kids ≡ false
  inside : AtCells inner (a ∷ ancestors)

not_all_some : {X : Type 0} (test : X → Bool) (xs : List X) → list_all test xs ≡ false → all_of_some test xs ≡ false
not_all_some test [] e = refl
not_all_some test (x ∷ xs) e = e

shell_goes : (says : List Say) (ancestors : List Tag) (a : Tag) (kids : Nodes) (x : Reach) → in_cells ancestors ≡ true → is "tc" a ≡ false → is "tr" a ≡ false → is "tbl" a ≡ false → into Direct a ≡ x →
    list_all (cell_is_cut says) (own "tc" x kids) ≡ false → goes_at says ancestors a kids ≡ false
shell_goes says ancestors a kids x c p q r e h =
    and_right (is "tc" a || is "tr" a || is "tbl" a || is_shell ancestors a) (goes says (in_cells ancestors) a kids)
    (rw (p, q, r, c, e) (not_all_some (cell_is_cut says) (own "tc" x kids) h))

shell_part : (says : List Say) (ancestors : List Tag) (a : Tag) (kids : Nodes) (reach inner : Reach) → AtCells reach ancestors → Part_of reach a inner → list_all (cell_is_cut says) (own "tc" inner kids) ≡ false →
    ShellPart says ancestors a kids reach inner
shell_part says ancestors a kids reach inner h (control_in a2 e) all = record {
  quiet = by_name (λ t. is_quiet t ≡ false) "sdt" a e refl;
  no_trace = by_name (λ t. is_some (trace_of t) ≡ false) "sdt" a e refl;
  no_edge = by_name (λ t. is_range_edge t ≡ false) "sdt" a e refl;
  no_cell = by_name (λ t. is "tc" t ≡ false) "sdt" a e refl;
  no_para = by_name (λ t. is "p" t ≡ false) "sdt" a e refl;
  stays = λ x. shell_goes says ancestors a kids Control (rw h.0 refl) (by_name (λ t. is "tc" t ≡ false) "sdt" a e refl) (by_name (λ t. is "tr" t ≡ false) "sdt" a e refl) (by_name (λ t. is "tbl" t ≡ false) "sdt" a e refl) (by_name (λ t. into Direct t ≡ Control) "sdt" a e refl) x;
  inside = (
    rw (open_∷ a ancestors (by_name (λ t. is_quiet t ≡ false) "sdt" a e refl) ∙ h.1, h.0) (by_name (λ t. inside t (record { lot = Cells; reach = Direct }) ≡ record { lot = Cells; reach = Control }) "sdt" a e refl),
    open_∷ a ancestors (by_name (λ t. is_quiet t ≡ false) "sdt" a e refl) ∙ h.1,
  );
}
shell_part says ancestors a kids reach inner h (custom_in a2 e) all = record {
  quiet = by_name (λ t. is_quiet t ≡ false) "customXml" a e refl;
  no_trace = by_name (λ t. is_some (trace_of t) ≡ false) "customXml" a e refl;
  no_edge = by_name (λ t. is_range_edge t ≡ false) "customXml" a e refl;
  no_cell = by_name (λ t. is "tc" t ≡ false) "customXml" a e refl;
  no_para = by_name (λ t. is "p" t ≡ false) "customXml" a e refl;
  stays = λ x. shell_goes says ancestors a kids Direct (rw h.0 refl) (by_name (λ t. is "tc" t ≡ false) "customXml" a e refl) (by_name (λ t. is "tr" t ≡ false) "customXml" a e refl) (by_name (λ t. is "tbl" t ≡ false) "customXml" a e refl) (by_name (λ t. into Direct t ≡ Direct) "customXml" a e refl) x;
  inside = (
    rw (open_∷ a ancestors (by_name (λ t. is_quiet t ≡ false) "customXml" a e refl) ∙ h.1, h.0) (by_name (λ t. inside t (record { lot = Cells; reach = Direct }) ≡ record { lot = Cells; reach = Direct }) "customXml" a e refl),
    open_∷ a ancestors (by_name (λ t. is_quiet t ≡ false) "customXml" a e refl) ∙ h.1,
  );
}
shell_part says ancestors a kids reach inner h (content_in a2 e) all = record {
  quiet = by_name (λ t. is_quiet t ≡ false) "sdtContent" a e refl;
  no_trace = by_name (λ t. is_some (trace_of t) ≡ false) "sdtContent" a e refl;
  no_edge = by_name (λ t. is_range_edge t ≡ false) "sdtContent" a e refl;
  no_cell = by_name (λ t. is "tc" t ≡ false) "sdtContent" a e refl;
  no_para = by_name (λ t. is "p" t ≡ false) "sdtContent" a e refl;
  stays = λ x. by_name (λ t. goes_at says ancestors t kids ≡ false) "sdtContent" a e refl;
  inside = (
    rw (open_∷ a ancestors (by_name (λ t. is_quiet t ≡ false) "sdtContent" a e refl) ∙ h.1, h.0) (by_name (λ t. inside t (record { lot = Cells; reach = Control }) ≡ record { lot = Cells; reach = Direct }) "sdtContent" a e refl),
    open_∷ a ancestors (by_name (λ t. is_quiet t ≡ false) "sdtContent" a e refl) ∙ h.1,
  );
}
shell_part says ancestors a kids reach inner h (none_in r2 a2) all = absurd (true≢false (ap (list_all (cell_is_cut says)) (sym (own_beyond "tc" kids)) ∙ all))

-- one element of such a list leaves a cell that stays
cell_left : (ext : Test) → (says : List Say) (ancestors : List Tag) (a : Tag) (kids : Nodes) → is_open ancestors ≡ true → Fits ancestors a → Ground ext (a ∷ ancestors) kids → is "tc" a ≡ true → cell_is_cut says kids ≡ false → (passed : Nodes) →
    is_empty (own "tc" Direct (element_pass says ancestors a kids passed)) ≡ false
cell_left ext says ancestors a kids o fit g e c passed =
    ap (λ n. is_empty (own "tc" Direct n))
    (plain_stays ext says ancestors a kids passed o fit (by_name (λ t. is_quiet t ≡ false) "tc" a e refl) g
    (by_name (λ t. is_some (trace_of t) ≡ false) "tc" a e refl) (by_name (λ t. is_range_edge t ≡ false) "tc" a e refl) (cell_goes_not a e c))
    ∙ ap is_empty (own_one "tc" Direct (renamed says ancestors a) passed)
    ∙ here (is "tc" (renamed says ancestors a)) ((own_renamed says ancestors a).like.name "tc" refl ∙ e)
  where
    cell_goes_not : (a : Tag) → is "tc" a ≡ true → cell_is_cut says kids ≡ false → goes_at says ancestors a kids ≡ false
    cell_goes_not a e c = and_right (is "tc" a || is "tr" a || is "tbl" a || is_shell ancestors a) (goes says (in_cells ancestors) a kids) (rw e c)

    here : (b : Bool) → b ≡ true → is_empty ((if b then passed ∷ [] else own "tc" (into Direct (renamed says ancestors a)) passed) ++ []) ≡ false
    here true h = refl
    here false h = absurd (true≢false (sym h))

if_first : (b : Bool) (x y : List Nodes) → b ≡ false → (if b then x else y) ≡ y
if_first true x y e = absurd (true≢false e)
if_first false x y e = refl

shell_left : (ext : Test) → (says : List Say) (ancestors : List Tag) (a : Tag) (kids passed : Nodes) (reach inner : Reach) → is_open ancestors ≡ true → Fits ancestors a → Ground ext (a ∷ ancestors) kids → ShellPart says ancestors a kids reach inner → into reach a ≡ inner →
    list_all (cell_is_cut says) (own "tc" inner kids) ≡ false → is_empty (own "tc" inner passed) ≡ false → is_empty (own "tc" reach (element_pass says ancestors a kids passed)) ≡ false
shell_left ext says ancestors a kids passed reach inner o fit g sp e all full =
    let t = renamed says ancestors a in
    let l = (own_renamed says ancestors a).like in
    ap (λ n. is_empty (own "tc" reach n)) (plain_stays ext says ancestors a kids passed o fit sp.quiet g sp.no_trace sp.no_edge (sp.stays all))
    ∙ ap is_empty (own_one "tc" reach t passed)
    ∙ ap (λ x. is_empty (x ++ [])) (if_first (is_direct reach && is "tc" t) (passed ∷ []) (own "tc" (into reach t) passed) (and_right (is_direct reach) (is "tc" t) (l.name "tc" refl ∙ sp.no_cell)))
    ∙ ap (λ r. is_empty (own "tc" r passed ++ [])) (like_into reach a t l ∙ e)
    ∙ full_left (own "tc" inner passed) [] full

abbrev first_of : List Say → List Tag → Tag → Nodes → Nodes
first_of says ancestors a kids = element_pass says ancestors a kids (pass says (a ∷ ancestors) kids)

first_left : (ext : Test) → (says : List Say) (ancestors : List Tag) (a : Tag) (kids : Nodes) (reach : Reach) → AtCells reach ancestors → Fits ancestors a → Ground ext (a ∷ ancestors) kids → (b : Bool) → (is_direct reach && is "tc" a) ≡ b →
    list_all (cell_is_cut says) (if b then kids ∷ [] else own "tc" (into reach a) kids) ≡ false →
    (AtCells (into reach a) (a ∷ ancestors) → list_all (cell_is_cut says) (own "tc" (into reach a) kids) ≡ false → is_empty (own "tc" (into reach a) (each says (a ∷ ancestors) kids)) ≡ false) →
    is_empty (own "tc" reach (first_of says ancestors a kids)) ≡ false
first_left ext says ancestors a kids Direct h fit g true w x ih =
    cell_left ext says ancestors a kids h.1 fit g w (sym (and-true (cell_is_cut says kids)) ∙ x) (pass says (a ∷ ancestors) kids)
first_left ext says ancestors a kids Control h fit g true w x ih = absurd (true≢false (sym w))
first_left ext says ancestors a kids Beyond h fit g true w x ih = absurd (true≢false (sym w))
first_left ext says ancestors a kids reach h fit g false w x ih =
    let sp = shell_part says ancestors a kids reach (into reach a) h (part_of reach a) x in
    shell_left ext says ancestors a kids (pass says (a ∷ ancestors) kids) reach (into reach a) h.1 fit g sp refl x
    (ap (λ n. is_empty (own "tc" (into reach a) n)) (pass-each says (a ∷ ancestors) kids (cells_blocks (into reach a) (a ∷ ancestors) sp.inside)) ∙ ih sp.inside x)

-- where a cell isn't cut, a cell is left
cells_left : (ext : Test) → (says : List Say) (ancestors : List Tag) (reach : Reach) (nodes : Nodes) → AtCells reach ancestors → Ground ext ancestors nodes → list_all (cell_is_cut says) (own "tc" reach nodes) ≡ false →
    is_empty (own "tc" reach (each says ancestors nodes)) ≡ false
cells_left ext says ancestors reach no_nodes h g e = absurd (true≢false e)
cells_left ext says ancestors reach (bytes b rest) h g e = cells_left ext says ancestors reach rest h g e
cells_left ext says ancestors reach (element a kids rest) h g e =
    ap is_empty (own-⊕ "tc" reach (first_of says ancestors a kids) (each says ancestors rest))
    ∙ ⊎_elim
    (λ x. full_left (own "tc" reach (first_of says ancestors a kids)) (own "tc" reach (each says ancestors rest))
    (first_left ext says ancestors a kids reach h g.0.fits g.1 (is_direct reach && is "tc" a) refl x (λ w y. cells_left ext says (a ∷ ancestors) (into reach a) kids w g.1 y)))
    (λ x. full_right (own "tc" reach (first_of says ancestors a kids)) (own "tc" reach (each says ancestors rest)) (cells_left ext says ancestors reach rest h g.2 x))
    (all-++ (cell_is_cut says) (if is_direct reach && is "tc" a then kids ∷ [] else own "tc" (into reach a) kids) (own "tc" reach rest) e)

-- RULE 2

some_all : {X : Type 0} (test : X → Bool) (xs : List X) → is_empty xs ≡ false → all_of_some test xs ≡ false → list_all test xs ≡ false
some_all test [] e h = absurd (true≢false e)
some_all test (x ∷ xs) e h = h

row_stays : (says : List Say) (old : List Tag) (a : Tag) (kids : Nodes) → is "tr" a ≡ true → goes_at says old a kids ≡ false → cells_go says Direct kids ≡ false
row_stays says old a kids e w = (or_parts (row_is_cut says kids) (cells_go says Direct kids) (goes_row (row_goes says kids) (is "tc" a) (is "tbl" a) (is_shell old a) (is "tr" a) _ e (by_name (λ t. is "tc" t ≡ false) "tr" a e refl) w)).1
  where
    goes_row : (r tc tbl shell tr : Bool) (other : Bool) → tr ≡ true → tc ≡ false →
        ((tc || tr || tbl || shell) && (if tc then cell_is_cut says kids else if tr then r else other)) ≡ false → r ≡ false
    goes_row r tc tbl shell false other e c w = absurd (true≢false (sym e))
    goes_row r true tbl shell true other e c w = absurd (true≢false c)
    goes_row r false tbl shell true other e c w = w

row_stays_2 : (ext : Test) → (says : List Say) (old new : List Tag) (a b : Tag) (kids : Nodes) → Came old new → Like a b → Holds ext old a kids → Ground ext (a ∷ old) kids → goes_at says old a kids ≡ false →
    open_one "tr" new b ≡ true → has_own "tc" Direct (made says old a kids) ≡ true
row_stays_2 ext says old new a b kids c l h g lives o =
    let w = open_came "tr" refl old new a b c l o in
    let quiet = by_name (λ t. is_quiet t ≡ false) "tr" a w.0 refl in
    let full = false_from_ne_true (is_empty (own "tc" Direct kids)) (not_to (is_empty (own "tc" Direct kids)) (sym (own-has "tc" Direct kids) ∙ implies_of _ _ h.rule_2 (and_from (is "tr" a) (is_open old) w.0 w.1))) in
    let at : AtCells Direct (a ∷ old) =
    (rw (open_∷ a old quiet ∙ w.1) (by_name (λ t. inside t (place old) ≡ record { lot = Cells; reach = Direct }) "tr" a w.0 refl), open_∷ a old quiet ∙ w.1) in
    let left = cells_left ext says (a ∷ old) Direct kids at g (some_all (cell_is_cut says) (own "tc" Direct kids) full (row_stays says old a kids w.0 lives)) in
    own-has "tc" Direct (made says old a kids)
    ∙ ap (λ n. not (is_empty (own "tc" Direct n)))
    (made_open ext says old a kids w.1 quiet g ∙ pass-each says (a ∷ old) kids (cells_blocks Direct (a ∷ old) at))
    ∙ ap not left

pub kept_2 : (ext : Test) → (says : List Say) → Kept ext says test_2
kept_2 ext says = record {
  stays = λ old new a b kids c pr mk h g s o. implies_from (open_one "tr" new b) (has_own "tc" Direct (made says old a kids)) (row_stays_2 ext says old new a b kids c o.like h g s.lives);
  alone = λ old new a b kids c pr h g e o. implies_from (open_one "tr" new b) (has_own "tc" Direct (pass says (a ∷ old) kids)) (λ w. no_p "tr" new b (o.like.name "p" refl ∙ e) (λ t q. by_name (λ t. is "tr" t ≡ false) "p" t q refl) w);
  joined = λ new a cl kids more e h none.
      implies_from (open_one "tr" new (record a { close = cl })) (has_own "tc" Direct (only (is "pPr") kids ⊕ more))
      (λ o. no_p "tr" new a e (λ t q. by_name (λ t. is "tr" t ≡ false) "p" t q refl) o);
  former = λ old new a kids c e h g m. implies_from (open_one "tr" new a) (has_own "tc" Direct kids) (λ o. shut_one "tr" new a (came_open old new c ∙ change_shut old e) o);
}
