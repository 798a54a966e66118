-- An idle element has the name that its local name says in W, and holds properties only as an `rPr`.
use Rattle.std.proofs.Common.{◌≡◌, ◌∙◌, refl, ap, ℕ, List, [], ◌∷◌, Bool, true, false, ◌&&◌, ◌||◌, codes, bytes_eq}
use Rattle.redl_tree.specs.Model.Nodes.{Tag}
use Rattle.redl_tree.specs.Roles.Names.{is, is_any, is_math, is_w, is_m, of_w}
use Rattle.redl_tree.specs.Roles.Places.{is_quiet}
use Rattle.redl_tree.specs.declared.kinds.Space.{Space}
use Rattle.redl_tree.specs.declared.kinds.Space.TheVariants.{W, M, Pkg}
use Rattle.redl_tree.specs.declared.kinds.Space.TheVariants as space
use Rattle.redl_tree.proofs.Idle.Tags.{Idle, has-not}
use Rattle.redl_tree.proofs.Idle.Lists.{names_none}

-- what a name and its space say is what the name says in W
pub by_local : {X : Type 0} (says : Bool → List ℕ → X) (in_run : Bool) (tag : Tag) → Idle in_run tag → says (is_w tag.space) tag.local ≡ says true tag.local
by_local says in_run tag i = ap (λ w. says w tag.local) i.space

-- an idle tag is in the namespace of WordprocessingML, so its local name alone tells what it is
pub name_same : (in_run : Bool) (tag : Tag) → Idle in_run tag → (name : List ℕ) → (is_w tag.space && bytes_eq tag.local name) ≡ bytes_eq tag.local name
name_same in_run tag i name = by_local (λ w local. w && bytes_eq local name) in_run tag i

pub no_math : (s : Space) → is_w s ≡ true → is_m s ≡ false
no_math W h = refl
no_math M h = absurd cc
no_math Pkg h = refl
no_math space.Other h = refl

-- it holds properties only as an `rPr`
pub quiet_same : (in_run : Bool) (tag : Tag) → Idle in_run tag → is_quiet tag ≡ is "rPr" (of_w tag.local)
quiet_same in_run tag i =
    let others = is_any ("sectPr" ∷ "tblPr" ∷ "tblPrEx" ∷ "trPr" ∷ "tcPr" ∷ "sdtPr" ∷ "sdtEndPr" ∷ "tblGrid" ∷ []) tag in
    ap (λ a. (a || (is "rPr" tag || others)) || is_math "ctrlPr" tag) (has-not "pPr" in_run tag i refl)
    ∙ ap (λ r. (is "rPr" tag || r) || is_math "ctrlPr" tag) (names_none ("sectPr" ∷ "tblPr" ∷ "tblPrEx" ∷ "trPr" ∷ "tcPr" ∷ "sdtPr" ∷ "sdtEndPr" ∷ "tblGrid" ∷ []) in_run refl tag i)
    ∙ ap (λ m. (is "rPr" tag || false) || (m && bytes_eq tag.local (codes "ctrlPr"))) (no_math tag.space i.space)
    ∙ ap (λ w. ((w && bytes_eq tag.local (codes "rPr")) || false) || false) i.space
    ∙ or_none (bytes_eq tag.local (codes "rPr"))
  where
    or_none : (b : Bool) → ((b || false) || false) ≡ b
    or_none true = refl
    or_none false = refl
