-- The walk over idle elements that a list keeps as text, as a rule of the walk over that text. No paragraph is among them, no member,
-- and no deleted text.
use Rattle.std.specs.Prelude.{ℕ, List, [], ◌++◌, Bool, false, ◌&&◌, ◌||◌, not, if◌then◌else◌}
use Rattle.redl_idle.specs.Shows.{ShowRule}
use Rattle.redl_tree.specs.Model.Nodes.{Nodes, no_nodes, bytes, element}
use Rattle.redl_tree.specs.Roles.Names.{is, of_w}
use Rattle.redl_tree.specs.Roles.Places.{is_quiet}
use Rattle.redl_spans.specs.Inside.Steps.{encoded}
use Rattle.redl_spans.specs.Units.{Step, holds_text, start_steps, steps_at, text_steps}
use Rattle.redl_spans.specs.declared.idle.Below.{Below}

-- the steps over idle elements
abbrev pub idle_steps : Bool → Nodes → List Step
idle_steps in_text no_nodes = []
idle_steps in_text (bytes b rest) = text_steps in_text b ++ idle_steps in_text rest
idle_steps in_text (element tag kids rest) =
    (if is_quiet tag then [] else steps_at tag ++ idle_steps (holds_text tag) kids) ++ idle_steps in_text rest

-- below the properties of a run
abbrev pub quiet_inside : Below → List ℕ → Bool
quiet_inside below local = below.quiet || is "rPr" (of_w local)

abbrev pub inside_idle : Below → List ℕ → Below
inside_idle below local = record {
  quiet = quiet_inside below local;
  in_text = not (quiet_inside below local) && is "t" (of_w local);
}

abbrev pub idle_start : Below → List ℕ → List ℕ → List Step
idle_start below local tail = if below.quiet then [] else start_steps local tail

abbrev pub idle_rule : ShowRule Below
idle_rule = record {
  bytes = λ below b. encoded (text_steps below.in_text b);
  start = λ below local tail kids. encoded (idle_start below local tail);
  inside = λ below local tail kids. inside_idle below local;
  end = λ below. [];
}

-- beside bytes that are text or not
abbrev pub beside : Bool → Below
beside in_text = record { quiet = false; in_text = in_text }
