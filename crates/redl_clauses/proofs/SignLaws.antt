-- Signs among nodes one after the other, and those that the walk over kept text shows.
use Rattle.std.proofs.Common.{◌≡◌, ◌∙◌, refl, sym, ap, ℕ, List, [], ◌∷◌, ◌++◌, Bool, true, false, ◌&&◌, ◌||◌, not}
use Rattle.std.proofs.Math.Bool.{and-false}
use Rattle.redl_tree.specs.Model.IdleTexts.{idle_nodes}
use Rattle.redl_tree.specs.Model.Nodes.{Tag, Nodes, no_nodes, bytes, element, Item, bytes_item, element_item, idle_item, in_front, ◌⊕◌}
use Rattle.redl_tree.specs.Roles.Idle.{is_idle_in}
use Rattle.redl_tree.specs.Roles.Names.{is, of_w}
use Rattle.redl_tree.specs.Roles.Places.{is_quiet}
use Rattle.redl_tree.proofs.Idle.Items.{nodes_are_idle}
use Rattle.redl_tree.proofs.Idle.Tags.{Idle, idle_parts}
use Rattle.redl_idle.specs.Shows.{shows}
use Rattle.redl_idle.proofs.RoleLaws.{quiet_same}
use Rattle.redl_numbering.specs.Counts.{is_filled}
use Rattle.redl_clauses.specs.Signs.{has_sign, is_sign, is_sign_name}
use Rattle.redl_clauses.specs.Inside.Signs.{element_has_sign, inside_idle, item_has_sign, sign_rule, sign_shown}
use Rattle.redl_clauses.specs.declared.signs.Below.{Below}

any_of_three : (a b c : Bool) → a || (b || c) ≡ (a || b) || c
any_of_three true b c = refl
any_of_three false b c = refl

-- ---- nodes one after the other

has_sign-⊕ : (x y : Nodes) → has_sign (x ⊕ y) ≡ has_sign x || has_sign y
has_sign-⊕ no_nodes y = refl
has_sign-⊕ (bytes b rest) y = has_sign-⊕ rest y
has_sign-⊕ (element tag kids rest) y =
    ap (λ s. element_has_sign tag kids || s) (has_sign-⊕ rest y) ∙ any_of_three (element_has_sign tag kids) (has_sign rest) (has_sign y)

has_sign-in_front : (x : Item) (rest : Nodes) → has_sign (in_front x rest) ≡ item_has_sign x || has_sign rest
has_sign-in_front (bytes_item b) rest = refl
has_sign-in_front (element_item tag kids) rest = refl
has_sign-in_front (idle_item t) rest = has_sign-⊕ (idle_nodes t) rest

-- the first node has a sign, or has none
pub sign-here : (nodes : Nodes) (x : Item) (rest : Nodes) → nodes ≡ in_front x rest → item_has_sign x ≡ true → has_sign nodes ≡ true
sign-here nodes x rest is here = ap has_sign is ∙ has_sign-in_front x rest ∙ ap (λ s. s || has_sign rest) here

pub sign-later : (nodes : Nodes) (x : Item) (rest : Nodes) → nodes ≡ in_front x rest → item_has_sign x ≡ false → has_sign rest ≡ has_sign nodes
sign-later nodes x rest is none = sym (ap has_sign is ∙ has_sign-in_front x rest ∙ ap (λ s. s || has_sign rest) none)

-- ---- kept text

filled-append : (x y : List ℕ) → is_filled (x ++ y) ≡ is_filled x || is_filled y
filled-append [] y = refl
filled-append (b ∷ bs) y = refl

pub sign_filled : (sign : Bool) → is_filled (sign_shown sign) ≡ sign
sign_filled true = refl
sign_filled false = refl

filled-parts : (start inner rest : List ℕ) → is_filled ((start ++ (inner ++ [])) ++ rest) ≡ (is_filled start || (is_filled inner || false)) || is_filled rest
filled-parts start inner rest =
    filled-append (start ++ (inner ++ [])) rest
    ∙ ap (λ f. f || is_filled rest) (filled-append start (inner ++ []) ∙ ap (λ f. is_filled start || f) (filled-append inner []))

-- below properties (`below`), or in them (`own`), no sign is shown
one_shown : (below own sign kids rest : Bool)
    → ((not (below || own) && sign) || ((not (below || own) && kids) || false)) || (not below && rest) ≡ not below && ((not own && (sign || kids)) || rest)
one_shown true own sign kids rest = refl
one_shown false true sign kids rest = refl
one_shown false false true kids rest = refl
one_shown false false false true rest = refl
one_shown false false false false rest = refl

sign_same : (in_run : Bool) (tag : Tag) → Idle in_run tag → is_sign tag ≡ is_sign_name tag.local
sign_same in_run tag i = ap (λ w. w && is_sign_name tag.local) i.space

shown_in : (in_run : Bool) (x : Nodes) (below : Below) → is_idle_in in_run x ≡ true → is_filled (shows sign_rule below x) ≡ not below.quiet && has_sign x
shown_in in_run no_nodes below h = sym (and-false (not below.quiet))
shown_in in_run (bytes b rest) below h = shown_in in_run rest below h
shown_in in_run (element tag kids rest) below h =
    let p = idle_parts in_run tag kids rest h in
    let inside = inside_idle below tag.local in
    let own = is "rPr" (of_w tag.local) in
    let sign = is_sign_name tag.local in
    let start = sign_shown (not inside.quiet && sign) in
    filled-parts start (shows sign_rule inside kids) (shows sign_rule below rest)
    ∙ ap (λ s. (s || (is_filled (shows sign_rule inside kids) || false)) || is_filled (shows sign_rule below rest)) (sign_filled (not inside.quiet && sign))
    ∙ ap (λ k. ((not inside.quiet && sign) || (k || false)) || is_filled (shows sign_rule below rest)) (shown_in (is "r" tag) kids inside p.below)
    ∙ ap (λ r. ((not inside.quiet && sign) || ((not inside.quiet && has_sign kids) || false)) || r) (shown_in in_run rest below p.later)
    ∙ one_shown below.quiet own sign (has_sign kids) (has_sign rest)
    ∙ ap (λ q. not below.quiet && ((not q && (sign || has_sign kids)) || has_sign rest)) (sym (quiet_same in_run tag p.own))
    ∙ ap (λ s. not below.quiet && ((not (is_quiet tag) && (s || has_sign kids)) || has_sign rest)) (sym (sign_same in_run tag p.own))

-- the walk over a kept text shows something where it has a sign
pub shown_idle : (t : List ℕ) → is_filled (shows sign_rule (record { quiet = false }) (idle_nodes t)) ≡ has_sign (idle_nodes t)
shown_idle t = shown_in false (idle_nodes t) (record { quiet = false }) (nodes_are_idle t)
