-- Elements that are too deep, by their depth, by their number, and by what the walk over kept text shows.
use Rattle.std.proofs.Common.{◌≡◌, ◌∙◌, refl, sym, ap, ℕ, zero, suc, ◌+◌, ◌-◌, ◌≤◌, max, nat_lt, List, [], ◌∷◌, ◌++◌, append-nil, Bool, true, false, ◌||◌, ◌==◌, arith, if◌then◌else◌}
use Rattle.std.proofs.Math.Bool.{or_assoc, or-false}
use Rattle.redl_idle.specs.Shows.{shows}
use Rattle.redl_tree.specs.Model.Elements.{elements}
use Rattle.redl_tree.specs.Model.Nodes.{Nodes, no_nodes, bytes, element, ◌⊕◌, Item, bytes_item, element_item, idle_item, in_front}
use Rattle.redl_tree.specs.Model.IdleTexts.{idle_nodes}
use Rattle.redl_tree.specs.Model.Shapes.{depth_of}
use Rattle.redl_again.specs.Idle.{idle_rule, met_after, met_after-append}
use Rattle.redl_again.specs.Inside.Depth.{passes}
use Rattle.redl_again.specs.declared.depth.Met.{Met}
use Rattle.redl_again.specs.declared.depth.Room.{Room}

-- ---- nodes one after the other

passes-⊕ : (levels : ℕ) (x y : Nodes) → passes levels (x ⊕ y) ≡ passes levels x || passes levels y
passes-⊕ levels no_nodes y = refl
passes-⊕ levels (bytes b rest) y = passes-⊕ levels rest y
passes-⊕ levels (element tag kids rest) y =
    ap (λ t. (levels == 0 || passes (levels - 1) kids) || t) (passes-⊕ levels rest y)
    ∙ sym (or_assoc (levels == 0 || passes (levels - 1) kids) (passes levels rest) (passes levels y))

pub passes-in_front : (levels : ℕ) (x : Item) (ys : Nodes) → passes levels (in_front x ys) ≡ passes levels (in_front x no_nodes) || passes levels ys
passes-in_front levels (bytes_item b) ys = refl
passes-in_front levels (element_item tag kids) ys = ap (λ t. t || passes levels ys) (sym (or-false (levels == 0 || passes (levels - 1) kids)))
passes-in_front levels (idle_item t) ys =
    passes-⊕ levels (idle_nodes t) ys
    ∙ ap (λ t. t || passes levels ys) (sym (passes-⊕ levels (idle_nodes t) no_nodes ∙ or-false (passes levels (idle_nodes t))))

-- ---- by their depth

lt-max : (n a b : ℕ) → nat_lt n (max a b) ≡ nat_lt n a || nat_lt n b
lt-max n a b = grind arith

lt-below : (n a : ℕ) → nat_lt n (a + 1) ≡ (n == 0) || nat_lt (n - 1) a
lt-below zero a = grind arith
lt-below (suc n) a = grind arith

pub passes-depth : (levels : ℕ) (x : Nodes) → passes levels x ≡ nat_lt levels (depth_of x)
passes-depth levels no_nodes = grind arith
passes-depth levels (bytes b rest) = passes-depth levels rest
passes-depth levels (element tag kids rest) =
    ap (λ t. (levels == 0 || t) || passes levels rest) (passes-depth (levels - 1) kids)
    ∙ ap (λ t. t || passes levels rest) (sym (lt-below levels (depth_of kids)))
    ∙ ap (λ t. nat_lt levels (depth_of kids + 1) || t) (passes-depth levels rest)
    ∙ sym (lt-max levels (depth_of kids + 1) (depth_of rest))

depth-elements : (x : Nodes) → depth_of x ≤ elements x
depth-elements no_nodes = omega arith
depth-elements (bytes b rest) = depth-elements rest
depth-elements (element tag kids rest) = omega (arith, depth-elements kids, depth-elements rest)

lt-few : (n a : ℕ) → a ≤ n → nat_lt n a ≡ false
lt-few n a h = grind arith

-- no element is too deep where there are so few
pub passes-few : (levels : ℕ) (x : Nodes) → elements x ≤ levels → false ≡ passes levels x
passes-few levels x few = sym (passes-depth levels x ∙ lt-few levels (depth_of x) (omega (arith, depth-elements x, few)))

-- ---- by what the walk over kept text shows

-- an element was met before, or is met among nodes
met_if : Met → Bool → Met
met_if met b = record { deeper = met.deeper || b }

met-nothing : (met : Met) → met_if met false ≡ met
unfolding met_if
met-nothing met = ap (λ (b : Bool). let m : Met = record { deeper = b } in m) (or-false met.deeper)

met-both : (met : Met) (a b : Bool) → met_if (met_if met a) b ≡ met_if met (a || b)
unfolding met_if
met-both met a b = ap (λ (b : Bool). let m : Met = record { deeper = b } in m) (or_assoc met.deeper a b)

met-one : (met : Met) (b : Bool) → met_after met (if b then 0 ∷ [] else []) ≡ met_if met b
unfolding met_if
met-one met true = ap (λ (b : Bool). let m : Met = record { deeper = b } in m) (true-or met.deeper)
  where
    true-or : (a : Bool) → true ≡ a || true
    true-or true = refl
    true-or false = refl
met-one met false = sym (met-nothing met)

met-shown : (room : Room) (met : Met) (x : Nodes) → met_after met (shows idle_rule room x) ≡ met_if met (passes room.levels x)
met-shown room met no_nodes = sym (met-nothing met)
met-shown room met (bytes b rest) = met-shown room met rest
met-shown room met (element tag kids rest) =
    let below : Room = record { levels = room.levels - 1 } in
    let own : List ℕ = if room.levels == 0 then 0 ∷ [] else [] in
    let inner = shows idle_rule below kids in
    let later = shows idle_rule room rest in
    sym (met_after-append met (own ++ (inner ++ [])) later)
    ∙ ap (λ (m : Met). met_after m later) (
    sym (met_after-append met own (inner ++ []))
    ∙ ap (met_after (met_after met own)) (append-nil inner)
    ∙ met-shown below (met_after met own) kids
    ∙ ap (λ (m : Met). met_if m (passes (room.levels - 1) kids)) (met-one met (room.levels == 0))
    ∙ met-both met (room.levels == 0) (passes (room.levels - 1) kids)
    )
    ∙ met-shown room (met_if met (room.levels == 0 || passes (room.levels - 1) kids)) rest
    ∙ met-both met (room.levels == 0 || passes (room.levels - 1) kids) (passes room.levels rest)

pub met-idle : (room : Room) (t : List ℕ) → (met_after (record { deeper = false }) (shows idle_rule room (idle_nodes t))).deeper ≡ passes room.levels (idle_nodes t)
unfolding met_if
met-idle room t = ap (λ (m : Met). m.deeper) (met-shown room (record { deeper = false }) (idle_nodes t))
