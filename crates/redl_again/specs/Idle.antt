-- Elements that are too deep, among those that a list keeps as text, each as one byte of what the walk over the text shows.
use Rattle.std.specs.Prelude.{◌≡◌, ℕ, ◌-◌, ◌==◌, true, List, [], ◌∷◌, ◌++◌, refl, if◌then◌else◌}
use Rattle.redl_again.specs.declared.depth.Met.{Met}
use Rattle.redl_again.specs.declared.depth.Room.{Room}
use Rattle.redl_idle.specs.Shows.{ShowRule}
use Rattle.redl_idle.specs.Takes.{Taking}
use Rattle.redl_idle.specs.Takings.{by_state}

abbrev pub idle_rule : ShowRule Room
idle_rule = record {
  bytes = λ room b. [];
  start = λ room local tail kids. if room.levels == 0 then 0 ∷ [] else [];
  inside = λ room local tail kids. record { levels = room.levels - 1 };
  end = λ room. [];
}

-- where a text has bytes, an element was too deep
abbrev pub met_after : Met → List ℕ → Met
met_after met [] = met
met_after met (b ∷ text) = record { deeper = true }

pub met_after-append : (met : Met) (first rest : List ℕ) → met_after (met_after met first) rest ≡ met_after met (first ++ rest)
met_after-append met [] rest = refl
met_after-append met (b ∷ first) [] = refl
met_after-append met (b ∷ first) (c ∷ rest) = refl

abbrev pub by_met : {E : Type 0} → Taking Met E
by_met = by_state met_after (λ met. refl) met_after-append
