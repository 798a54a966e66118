-- What idle elements show that a list keeps as text. They have no sign, and no paragraph is among them.
use Rattle.std.specs.Prelude.{◌≡◌, ℕ, List, [], ◌∷◌, ◌++◌, ◌&&◌, ◌||◌, not, Option, Some, refl, if◌then◌else◌}
use Rattle.std.proofs.Common.{ap}
use Rattle.std.specs.List.{last_or}
use Rattle.redl_tree.specs.Roles.Names.{is, of_w}
use Rattle.redl_shown.specs.Shown.{shown}
use Rattle.redl_idle.specs.Shows.{ShowRule}
use Rattle.redl_idle.specs.Takes.{Taking}
use Rattle.redl_idle.specs.Takings.{by_state}
use Rattle.redl_marked.specs.MarkedText.{open_start}
use Rattle.redl_marked.specs.declared.idle.Last.{Last}
use Rattle.redl_marked.specs.declared.summary.MarkedSummary.{MarkedSummary}

-- the summary for the kids of an idle element
abbrev pub inside_idle : MarkedSummary → List ℕ → MarkedSummary
inside_idle above local = record {
  quiet = is "rPr" (of_w local) || above.quiet;
  text = is "t" (of_w local) && not above.quiet;
}

abbrev pub idle_rule : ShowRule MarkedSummary
idle_rule = record {
  bytes = λ above b. if above.text then shown b else [];
  start = λ above local tail kids. if not above.quiet then open_start (of_w local) else [];
  inside = λ above local tail kids. inside_idle above local;
  end = λ above. [];
}

-- ---- the last byte of a text

abbrev pub last_after : Last → List ℕ → Last
last_after last text = record { byte = last_or last.byte text }

last_after-more : (last : Option ℕ) (first rest : List ℕ) → last_or (last_or last first) rest ≡ last_or last (first ++ rest)
last_after-more last [] rest = refl
last_after-more last (x ∷ first) rest = last_after-more (Some x) first rest

pub last-more : (last : Last) (first rest : List ℕ) → last_after (last_after last first) rest ≡ last_after last (first ++ rest)
last-more last first rest = ap (λ byte. record { byte = byte }) (last_after-more last.byte first rest)

abbrev pub keeps_last : {E : Type 0} → Taking Last E
keeps_last = by_state last_after (λ last. refl) last-more
