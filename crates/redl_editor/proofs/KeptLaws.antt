-- Stories that are kept, one by one, and all of them.
use Rattle.std.proofs.Common.{◌≡◌, ◌<◌, ◌≤◌, ◌+◌, ℕ, zero, suc, List, [], ◌∷◌, ◌++◌, length, get_or, set, take, map, slice_get, Option, Some, None, Vec, All, Bool, true, refl, sym, ap, subst, ◌∙◌, arith}
use Rattle.std.proofs.lemmas.List.{take_more, take_all}
use Rattle.std.proofs.lemmas.List.Elements.{All-nil, All-cons}
use Rattle.std.specs.Global.{Global}
use Rattle.std.specs.List.Sorted.{IsNonDecreasingBy}
use Rattle.redl_leaves.specs.Spots.{spot_of}
use Rattle.redl_leaves.specs.Steps.{AreMade, CanSet, way_of}
use Rattle.redl_leaves.specs.declared.stepping.Made.{Made}
use Rattle.redl_laws.proofs.Leaves.Costs.{cost-walk}
use Rattle.redl_tree.specs.Leaves.Containers.{opens}
use Rattle.redl_tree.specs.Leaves.Shown.{AreStatesOf}
use Rattle.redl_tree.specs.Leaves.Leaf.{leaves}
use Rattle.redl_tree.specs.Leaves.Settings.{Setting, set_each, slots_cost, setting_cost}
use Rattle.redl_tree.specs.Leaves.Slots.{Slots, slots_in}
use Rattle.redl_tree.specs.Model.View.{Element}
use Rattle.redl_tree.specs.declared.kinds.Say.{Say}
use Rattle.redl_editor.proofs.FormerLaws.{former-differ, changed-same}
use Rattle.redl_editor.specs.Changes.{former_of, differ, is_changed}
use Rattle.redl_editor.specs.Holdings.{is_touched}
use Rattle.redl_editor.specs.Kept.{IsKept, AreKept, AreUnheld, IsReady, AreReady, AreChanges, AreTables}
use Rattle.redl_editor.specs.Stories.{states_kept, slots_kept}
use Rattle.redl_editor.specs.Tables.{IsTable}
use Rattle.redl_editor.specs.declared.story.Story.{Story}
use Rattle.redl_editor.specs.declared.table.Table.{Table}

-- ---- as many of each

pub kept-tables : (says : List Say) (parts : List Element) (stories : List Story) (tables : List Table) → AreKept says parts stories tables → length tables ≡ length stories
kept-tables says [] [] [] kept = refl
kept-tables says [] [] (table ∷ tables) kept = absurd kept
kept-tables says [] (story ∷ stories) tables kept = absurd kept
kept-tables says (part ∷ parts) [] tables kept = absurd kept
kept-tables says (part ∷ parts) (story ∷ stories) [] kept = absurd kept
kept-tables says (part ∷ parts) (story ∷ stories) (table ∷ tables) kept = ap suc (kept-tables says parts stories tables kept.1)

pub kept-parts : (says : List Say) (parts : List Element) (stories : List Story) (tables : List Table) → AreKept says parts stories tables → length stories ≡ length parts
kept-parts says [] [] [] kept = refl
kept-parts says [] [] (table ∷ tables) kept = absurd kept
kept-parts says [] (story ∷ stories) tables kept = absurd kept
kept-parts says (part ∷ parts) [] tables kept = absurd kept
kept-parts says (part ∷ parts) (story ∷ stories) [] kept = absurd kept
kept-parts says (part ∷ parts) (story ∷ stories) (table ∷ tables) kept = ap suc (kept-parts says parts stories tables kept.1)

-- the notes of each are in the order of revisions
pub kept-rises : (says : List Say) (parts : List Element) (stories : List Story) (tables : List Table) → AreKept says parts stories tables
    → All (λ table. IsNonDecreasingBy (λ one. one.rev) table.held.items) tables
kept-rises says [] [] [] kept = All-nil (λ (table : Table). IsNonDecreasingBy (λ one. one.rev) table.held.items)
kept-rises says [] [] (table ∷ tables) kept = absurd kept
kept-rises says [] (story ∷ stories) tables kept = absurd kept
kept-rises says (part ∷ parts) [] tables kept = absurd kept
kept-rises says (part ∷ parts) (story ∷ stories) [] kept = absurd kept
kept-rises says (part ∷ parts) (story ∷ stories) (table ∷ tables) kept =
    All-cons (λ (table : Table). IsNonDecreasingBy (λ one. one.rev) table.held.items) table tables kept.0.table.held.rises (kept-rises says parts stories tables kept.1)

-- under all says they have the slots of the originals
pub kept-slots : (says others : List Say) (parts : List Element) (xs ys : List Story) (tables those : List Table) → AreKept says parts xs tables → AreKept others parts ys those
    → map slots_kept xs ≡ map slots_kept ys
kept-slots says others [] [] [] [] those kept also = refl
kept-slots says others [] [] (y ∷ ys) [] those kept also = absurd also
kept-slots says others [] [] ys (table ∷ tables) those kept also = absurd kept
kept-slots says others [] (x ∷ xs) ys tables those kept also = absurd kept
kept-slots says others (part ∷ parts) [] ys tables those kept also = absurd kept
kept-slots says others (part ∷ parts) (x ∷ xs) ys [] those kept also = absurd kept
kept-slots says others (part ∷ parts) (x ∷ xs) [] (table ∷ tables) those kept also = absurd also
kept-slots says others (part ∷ parts) (x ∷ xs) (y ∷ ys) (table ∷ tables) [] kept also = absurd also
kept-slots says others (part ∷ parts) (x ∷ xs) (y ∷ ys) (table ∷ tables) (that ∷ those) kept also =
    let one : slots_kept x ≡ slots_kept y = kept.0.states.split ∙ sym also.0.states.split in
    ap (λ (s : Slots). s ∷ map slots_kept xs) one ∙ ap (λ more. slots_kept y ∷ more) (kept-slots says others parts xs ys tables those kept.1 also.1)

-- ---- the story with a number

abbrev pub IsKeptAt : List Say → Option Element → Option Story → Option Table → Type 0
IsKeptAt says None None None = Unit {0}
IsKeptAt says (Some part) (Some story) (Some table) = IsKept says part story table
IsKeptAt says _ _ _ = ⊥

pub kept-at : (says : List Say) (parts : List Element) (stories : List Story) (tables : List Table) → AreKept says parts stories tables → (k : ℕ)
    → IsKeptAt says (slice_get parts k) (slice_get stories k) (slice_get tables k)
kept-at says [] [] [] kept k = tt
kept-at says [] [] (table ∷ tables) kept k = absurd kept
kept-at says [] (story ∷ stories) tables kept k = absurd kept
kept-at says (part ∷ parts) [] tables kept k = absurd kept
kept-at says (part ∷ parts) (story ∷ stories) [] kept k = absurd kept
kept-at says (part ∷ parts) (story ∷ stories) (table ∷ tables) kept zero = kept.0
kept-at says (part ∷ parts) (story ∷ stories) (table ∷ tables) kept (suc k) = kept-at says parts stories tables kept.1 k

-- ---- stories that are made ready one after the other

pub ready-pushed : (revs : List ℕ) (says : List Say) (stories : List Story) (tables : List Table) (all : List (Vec Made Global)) (one : Vec Made Global) (x : Story) (y : Table)
    → length all < length stories → length all < length tables → IsReady revs says (get_or stories (length all) x) (get_or tables (length all) y) one.items
    → AreReady revs says stories tables all → AreReady revs says stories tables (all ++ one ∷ [])
ready-pushed revs says [] tables all one x y within there is are = absurd (omega (arith, within))
ready-pushed revs says (story ∷ stories) [] all one x y within there is are = absurd (omega (arith, there))
ready-pushed revs says (story ∷ stories) (table ∷ tables) [] one x y within there is are = (is, tt)
ready-pushed revs says (story ∷ stories) (table ∷ tables) (made ∷ all) one x y within there is are =
    (are.0, ready-pushed revs says stories tables all one x y (omega (arith, within)) (omega (arith, there)) is are.1)

-- ---- stories that are set one after the other

-- the first `n` of them are under the new says, and the later ones are ready
abbrev pub AreSet : List ℕ → List Say → List Say → ℕ → List Element → List Story → List Table → List (Vec Made Global) → Type 0
AreSet revs before says zero parts stories tables rest = AreKept before parts stories tables × AreReady revs says stories tables rest
AreSet revs before says (suc n) (part ∷ parts) (story ∷ stories) (table ∷ tables) rest = IsKept says part story table × AreSet revs before says n parts stories tables rest
AreSet revs before says (suc n) _ _ _ rest = ⊥

-- what setting one story does
abbrev pub SetsStory : (ℕ → Bool) → List Say → List Say → Story → Story → List Made → Type 0
SetsStory is_set before says old new all =
    (part : Element) → old.spot ≡ spot_of (part.tag ∷ []) → CanSet is_set before says part (map way_of all) (states_kept old)
    → AreMade says all (states_kept old) → AreStatesOf opens before part (states_kept old) → AreStatesOf opens says part (states_kept new)

module _ (is_set : ℕ → Bool) (before says : List Say) (revs : List ℕ) (are : AreChanges is_set before says revs) where
  kept-set : (part : Element) (old new : Story) (table : Table) (all : List Made) → new.spot ≡ old.spot → SetsStory is_set before says old new all
      → AreUnheld is_set (part ∷ []) → IsKept before part old table → IsReady revs says old table all → IsKept says part new table
  kept-set part old new table all same sets unheld kept ready =
      let states = sets part kept.spot (ready.ways kept.table part is_set before are.same are.none are.listed unheld.0) ready.made kept.states in
      let slots : slots_kept old ≡ slots_kept new = kept.states.split ∙ sym states.split in
      record {
        spot = same ∙ kept.spot;
        table = subst (λ (s : Slots). IsTable table s) slots kept.table;
        states = states;
      }

  pub set-more : (n : ℕ) (parts : List Element) (stories : List Story) (tables : List Table) (one : Vec Made Global) (rest : List (Vec Made Global)) (x new : Story)
      → AreUnheld is_set parts → x ≡ get_or stories n x → new.spot ≡ x.spot → SetsStory is_set before says x new one.items
      → AreSet revs before says n parts stories tables (one ∷ rest) → AreSet revs before says (suc n) parts (set stories n new) tables rest
  set-more zero parts [] tables one rest x new unheld is same sets h = absurd h.1
  set-more zero parts (story ∷ stories) [] one rest x new unheld is same sets h = absurd h.1
  set-more zero [] (story ∷ stories) (table ∷ tables) one rest x new unheld is same sets h = absurd h.0
  set-more zero (part ∷ parts) (story ∷ stories) (table ∷ tables) one rest x new unheld is same sets h = (
    kept-set part story new table one.items (same ∙ ap (λ s. s.spot) is) (subst (λ (s : Story). SetsStory is_set before says s new one.items) is sets) (unheld.0, tt) h.0.0 h.1.0,
    (h.0.1, h.1.1),
  )
  set-more (suc n) [] stories tables one rest x new unheld is same sets h = absurd h
  set-more (suc n) (part ∷ parts) [] tables one rest x new unheld is same sets h = absurd h
  set-more (suc n) (part ∷ parts) (story ∷ stories) [] one rest x new unheld is same sets h = absurd h
  set-more (suc n) (part ∷ parts) (story ∷ stories) (table ∷ tables) one rest x new unheld is same sets h =
      (h.0, set-more n parts stories tables one rest x new unheld.1 is same sets h.1)

pub set-done : (revs : List ℕ) (before says : List Say) (n : ℕ) (parts : List Element) (stories : List Story) (tables : List Table) (rest : List (Vec Made Global))
    → length stories ≡ n → AreSet revs before says n parts stories tables rest → AreKept says parts stories tables
set-done revs before says zero [] [] [] rest all h = tt
set-done revs before says zero [] [] (table ∷ tables) rest all h = absurd h.0
set-done revs before says zero (part ∷ parts) [] tables rest all h = absurd h.0
set-done revs before says zero parts (story ∷ stories) tables rest all h = absurd (omega (arith, all))
set-done revs before says (suc n) [] stories tables rest all h = absurd h
set-done revs before says (suc n) (part ∷ parts) [] tables rest all h = absurd h
set-done revs before says (suc n) (part ∷ parts) (story ∷ stories) [] rest all h = absurd h
set-done revs before says (suc n) (part ∷ parts) (story ∷ stories) (table ∷ tables) rest all h =
    (h.0, set-done revs before says n parts stories tables rest (omega (arith, all)) h.1)

-- ---- tables that are made one after the other

tables-append : (xs ys : List Story) (ts us : List Table) → AreTables xs ts → AreTables ys us → AreTables (xs ++ ys) (ts ++ us)
tables-append [] ys [] us h k = k
tables-append [] ys (t ∷ ts) us h k = absurd h
tables-append (x ∷ xs) ys [] us h k = absurd h
tables-append (x ∷ xs) ys (t ∷ ts) us h k = (h.0, tables-append xs ys ts us h.1 k)

pub tables-pushed : (xs : List Story) (i : ℕ) (x : Story) (ts : List Table) (t : Table) → i < length xs → x ≡ get_or xs i x → AreTables (take i xs) ts → IsTable t (slots_kept x)
    → AreTables (take (i + 1) xs) (ts ++ t ∷ [])
tables-pushed xs i x ts t lt is so_far one =
    subst (λ (ys : List Story). AreTables ys (ts ++ t ∷ [])) (sym (take_more xs i x lt ∙ ap (λ y. take i xs ++ y ∷ []) (sym is)))
    (tables-append (take i xs) (x ∷ []) ts (t ∷ []) so_far (one, tt))

pub tables-done : (xs : List Story) (i : ℕ) (ts : List Table) → length xs ≤ i → AreTables (take i xs) ts → AreTables xs ts
tables-done xs i ts past so_far = subst (λ (ys : List Story). AreTables ys ts) (take_all i xs past) so_far

-- ---- what making a story's leaves may cost

-- the story with a number, and what is kept of it
pub record KeptHere (says : List Say) (parts : List Element) (i : ℕ) (story : Story) (known : Table) : Type 0 where
  pub part : Element
  pub within : i < length parts
  pub is : part ≡ get_or parts i part
  pub kept : IsKept says part story known

pub kept-here : (says : List Say) (parts : List Element) (stories : List Story) (tables : List Table) (i : ℕ) (x : Story) (y : Table) → AreKept says parts stories tables
    → i < length stories → x ≡ get_or stories i x → y ≡ get_or tables i y → KeptHere says parts i x y
kept-here says parts [] tables i x y kept lt is there = absurd (omega (arith, lt))
kept-here says [] (story ∷ stories) tables i x y kept lt is there = absurd kept
kept-here says (part ∷ parts) (story ∷ stories) [] i x y kept lt is there = absurd kept
kept-here says (part ∷ parts) (story ∷ stories) (table ∷ tables) zero x y kept lt is there = record {
  part = part;
  within = omega arith;
  is = refl;
  kept = subst (λ (s : Story). IsKept says part s y) (sym is) (subst (λ (t : Table). IsKept says part story t) (sym there) kept.0);
}
kept-here says (part ∷ parts) (story ∷ stories) (table ∷ tables) (suc i) x y kept lt is there =
    let later = kept-here says parts stories tables i x y kept.1 (omega (arith, lt)) is there in record {
      part = later.part;
      within = omega (arith, later.within);
      is = later.is;
      kept = later.kept;
    }

pub kept-cost : (says : List Say) (part : Element) (story : Story) (table : Table) → IsKept says part story table → (is_set : ℕ → Bool)
    → slots_cost is_set 1 (slots_kept story) ≡ setting_cost is_set (leaves part)
kept-cost says part story table kept is_set =
    ap (slots_cost is_set 1) kept.states.split ∙ sym (cost-walk is_set (part ∷ []) (slots_in opens (part.tag ∷ []) part.kids))

-- ---- says that are set

pub changes-made : (old now : List Say) (settings former : List Setting) (revs : List ℕ) → former ≡ former_of old settings → now ≡ set_each old settings
    → ((rev : ℕ) → is_touched revs rev ≡ differ now former rev) → AreChanges (is_changed old now) old now revs
changes-made old now settings former revs before is listed = record {
  same = changed-same old now;
  none = refl;
  listed = λ rev one.
      listed rev ∙ ap (λ f. differ now f rev) before ∙ ap (λ s. differ s (former_of old settings) rev) is
      ∙ former-differ old settings rev ∙ ap (λ s. is_changed old s rev) (sym is) ∙ one;
}

-- the revisions that differ from the former says are those that are changed
pub differ-listed : (old now : List Say) (settings former : List Setting) → former ≡ former_of old settings → now ≡ set_each old settings
    → (rev : ℕ) → differ now former rev ≡ true → is_changed old (set_each old settings) rev ≡ true
differ-listed old now settings former before is rev one =
    sym (former-differ old settings rev) ∙ ap (λ s. differ s (former_of old settings) rev) (sym is) ∙ ap (λ f. differ now f rev) (sym before) ∙ one

pub ready-more : (revs : List ℕ) (says : List Say) (stories : List Story) (tables : List Table) (all : List (Vec Made Global)) (one : Vec Made Global) (n : ℕ) (x : Story) (y : Table)
    → length all ≡ n → n < length stories → n < length tables → x ≡ get_or stories n x → y ≡ get_or tables n y → IsReady revs says x y one.items
    → AreReady revs says stories tables all → AreReady revs says stories tables (all ++ one ∷ [])
ready-more revs says stories tables all one n x y as_many within there is_x is_y ready are =
    let story : get_or stories (length all) x ≡ x = ap (λ k. get_or stories k x) as_many ∙ sym is_x in
    let table : get_or tables (length all) y ≡ y = ap (λ k. get_or tables k y) as_many ∙ sym is_y in
    ready-pushed revs says stories tables all one x y (omega (arith, as_many, within)) (omega (arith, as_many, there))
    (subst (λ (s : Story). IsReady revs says s (get_or tables (length all) y) one.items) (sym story) (subst (λ (t : Table). IsReady revs says x t one.items) (sym table) ready)) are
