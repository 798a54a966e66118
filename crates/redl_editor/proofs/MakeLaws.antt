-- Leaves that are made one after the other.
use Rattle.std.proofs.Common.{◌≡◌, ◌<◌, ◌≤◌, ◌+◌, ◌==◌, ℕ, zero, suc, Vec, List, [], ◌∷◌, ◌++◌, length, get_or, drop, map, refl, sym, ap, ◌∙◌, arith}
use Rattle.std.specs.Global.{Global}
use Rattle.std.proofs.lemmas.Bool.{eq-eqb}
use Rattle.std.proofs.lemmas.List.{drop_more, drop_all, map-append}
use Rattle.std.proofs.lemmas.List.Folds.{list_any_at}
use Rattle.std.proofs.lemmas.List.Sums.{sum_by-cons}
use Rattle.redl_tree.specs.Leaves.Slots.{Slots}
use Rattle.redl_tree.specs.Leaves.States.{States}
use Rattle.redl_tree.specs.Leaves.Ways.{leaf_at}
use Rattle.redl_tree.specs.Model.Count.{count}
use Rattle.redl_tree.specs.Model.View.{nodes_of}
use Rattle.redl_tree.specs.declared.kinds.Say.{Say}
use Rattle.redl_leaves.specs.Finds.{size_at}
use Rattle.redl_editor.specs.Inside.Makes.{AreWithin, all_made_count, made_count, ways_of, sizes_of}
use Rattle.redl_leaves.specs.Puts.{IsMade}
use Rattle.redl_leaves.specs.Steps.{AreMade, way_of}
use Rattle.redl_leaves.specs.declared.stepping.Made.{Made}

pub made-pushed : (says : List Say) (xs : List Made) (one : Made) (states : States) → AreMade says xs states → IsMade says one.way.now (nodes_of one.nodes.items) states
    → AreMade says (xs ++ one ∷ []) states
made-pushed says [] one states all is = (is, tt)
made-pushed says (x ∷ xs) one states all is = (all.0, made-pushed says xs one states all.1 is)

append-assoc : (xs ys zs : List (List ℕ)) → (xs ++ ys) ++ zs ≡ xs ++ (ys ++ zs)
append-assoc [] ys zs = refl
append-assoc (x ∷ xs) ys zs = ap (λ more. x ∷ more) (append-assoc xs ys zs)

append-none : (xs : List (List ℕ)) → xs ++ [] ≡ xs
append-none [] = refl
append-none (x ∷ xs) = ap (λ more. x ∷ more) (append-none xs)

pub leaf-within : (ways : List (List ℕ)) (leaves : List ℕ) (i n : ℕ) → AreWithin ways leaves → i < length leaves → n ≡ get_or leaves i n → n < length ways
leaf-within ways leaves i n within lt is = within n (list_any_at (λ m. m == n) leaves i n lt (eq-eqb (get_or leaves i n) n (sym is)))

pub ways-more : (ways : List (List ℕ)) (leaves : List ℕ) (i n : ℕ) (all : List Made) (one : Made) → i < length leaves → n ≡ get_or leaves i n
    → one.way.now ≡ get_or ways n [] → map way_of all ++ ways_of ways (drop i leaves) ≡ ways_of ways leaves
    → map way_of (all ++ one ∷ []) ++ ways_of ways (drop (i + 1) leaves) ≡ ways_of ways leaves
ways-more ways leaves i n all one lt is way so_far =
    ap (λ ws. ws ++ ways_of ways (drop (i + 1) leaves)) (map-append way_of all (one ∷ []))
    ∙ append-assoc (map way_of all) (one.way.now ∷ []) (ways_of ways (drop (i + 1) leaves))
    ∙ ap (λ w. map way_of all ++ (w ∷ ways_of ways (drop (i + 1) leaves))) (way ∙ ap (λ m. get_or ways m []) is)
    ∙ ap (λ ls. map way_of all ++ ways_of ways ls) (sym (drop_more leaves i n lt))
    ∙ so_far

pub ways-done : (ways : List (List ℕ)) (leaves : List ℕ) (i : ℕ) (all : List Made) → length leaves ≤ i
    → map way_of all ++ ways_of ways (drop i leaves) ≡ ways_of ways leaves → map way_of all ≡ ways_of ways leaves
ways-done ways leaves i all past so_far =
    sym (append-none (map way_of all)) ∙ ap (λ ls. map way_of all ++ ways_of ways ls) (sym (drop_all i leaves past)) ∙ so_far

sizes-first : (ways : List (List ℕ)) (slots : Slots) (n : ℕ) (later : List ℕ)
    → sizes_of ways slots (n ∷ later) ≡ size_at (leaf_at (get_or ways n []) slots) + sizes_of ways slots later
sizes-first ways slots n later = sum_by-cons (λ leaf. size_at (leaf_at (get_or ways leaf []) slots)) n later

pub sizes-here : (ways : List (List ℕ)) (slots : Slots) (leaves : List ℕ) (i n : ℕ) → i < length leaves → n ≡ get_or leaves i n
    → sizes_of ways slots (drop i leaves) ≡ size_at (leaf_at (get_or ways n []) slots) + sizes_of ways slots (drop (i + 1) leaves)
sizes-here ways slots leaves i n lt is =
    let rest = sizes_of ways slots (drop (i + 1) leaves) in
    let size = λ (m : ℕ). size_at (leaf_at (get_or ways m []) slots) in
    omega (arith, ap (sizes_of ways slots) (drop_more leaves i n lt), sizes-first ways slots (get_or leaves i n) (drop (i + 1) leaves), ap size is)

-- what stands in a list, whatever stands for what doesn't
pub any-number : (xs : List ℕ) (k d e : ℕ) → k < length xs → get_or xs k d ≡ get_or xs k e
any-number [] k d e within = absurd (omega (arith, within))
any-number (x ∷ xs) zero d e within = refl
any-number (x ∷ xs) (suc k) d e within = any-number xs k d e (omega (arith, within))

-- ---- how many nodes were made

pub made_count-more : (xs : List Made) (one : Made) → made_count (xs ++ one ∷ []) ≡ made_count xs + count (nodes_of one.nodes.items)
made_count-more [] one = omega arith
made_count-more (x ∷ xs) one = omega (arith, made_count-more xs one)

pub all_made_count-more : (xs : List (Vec Made Global)) (one : Vec Made Global) → all_made_count (xs ++ one ∷ []) ≡ all_made_count xs + made_count one.items
all_made_count-more [] one = omega arith
all_made_count-more (x ∷ xs) one = omega (arith, all_made_count-more xs one)
