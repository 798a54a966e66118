-- What a reader passes in idle elements that a list keeps as text, as a rule of the walk over that text. No paragraph is among them, no
-- member, and no deleted text.
use Rattle.std.specs.Prelude.{ℕ, List, [], Bool, false, ◌&&◌, ◌||◌, not, if◌then◌else◌}
use Rattle.redl_idle.specs.Shows.{ShowRule}
use Rattle.redl_tree.specs.Roles.Names.{is, of_w}
use Rattle.redl_edits.specs.Passed.{name_bytes, text_bytes}
use Rattle.redl_edits.specs.declared.kept.Below.{Below}

-- below the properties of a run
abbrev pub quiet_inside : Below → List ℕ → Bool
quiet_inside below local = below.quiet || is "rPr" (of_w local)

abbrev pub inside_idle : Below → List ℕ → Below
inside_idle below local = record {
  quiet = quiet_inside below local;
  in_text = not (quiet_inside below local) && is "t" (of_w local);
}

abbrev pub idle_rule : ShowRule Below
idle_rule = record {
  bytes = λ below b. text_bytes below.in_text b;
  start = λ below local tail kids. if below.quiet then [] else name_bytes local;
  inside = λ below local tail kids. inside_idle below local;
  end = λ below. [];
}

-- beside bytes that are text or not
abbrev pub beside : Bool → Below
beside in_text = record { quiet = false; in_text = in_text }
