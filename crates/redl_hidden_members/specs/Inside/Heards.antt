-- What hears whether anything is said.
use Rattle.std.specs.Prelude.{◌≡◌, ℕ, ◌||◌, Bool, true, false, List, [], ◌∷◌, ◌++◌, refl}
use Rattle.std.proofs.Common.{ap}
use Rattle.redl_hidden_members.specs.Walks.{is_filled}
use Rattle.redl_hidden_members.specs.declared.heard.Heard.{Heard}

abbrev pub heard : Heard → List ℕ → Heard
heard ear bytes = record { any = ear.any || is_filled bytes }

any-none : (b : Bool) → b || false ≡ b
any-none true = refl
any-none false = refl

any-more : (b : Bool) (x y : List ℕ) → (b || is_filled x) || is_filled y ≡ b || is_filled (x ++ y)
any-more true x y = refl
any-more false [] y = refl
any-more false (x ∷ xs) y = refl

pub heard-nothing : (ear : Heard) → heard ear [] ≡ ear
heard-nothing ear = ap (λ b. record { any = b }) (any-none ear.any)

pub heard-more : (ear : Heard) (a b : List ℕ) → heard (heard ear a) b ≡ heard ear (a ++ b)
heard-more ear a b = ap (λ c. record { any = c }) (any-more ear.any a b)
