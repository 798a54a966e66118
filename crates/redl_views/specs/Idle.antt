-- What idle elements show that a list keeps as text. No revision and no paragraph is in them, so it is what they show by themselves.
use Rattle.std.specs.Prelude.{ℕ, List, [], Bool, false, ◌&&◌, ◌||◌, not, if◌then◌else◌}
use Rattle.redl_tree.specs.Model.Nodes.{Nodes}
use Rattle.redl_tree.specs.Roles.Names.{is, of_w}
use Rattle.redl_shown.specs.Shown.{shown}
use Rattle.redl_idle.specs.Shows.{ShowRule, shows}
use Rattle.redl_views.specs.PlainText.{start_shown}
use Rattle.redl_views.specs.declared.idle.Below.{Below}

-- the parent holds the properties of a run, or has an ancestor that does
abbrev pub quiet_inside : Below → List ℕ → Bool
quiet_inside below local = below.quiet || is "rPr" (of_w local)

abbrev pub inside_idle : Below → List ℕ → Below
inside_idle below local = record {
  quiet = quiet_inside below local;
  shown = not (quiet_inside below local) && is "t" (of_w local);
}

abbrev pub idle_rule : ShowRule Below
idle_rule = record {
  bytes = λ below b. if below.shown then shown b else [];
  start = λ below local tail kids. if below.quiet then [] else start_shown (of_w local);
  inside = λ below local tail kids. inside_idle below local;
  end = λ below. [];
}

-- where bytes beside them are shown or not
abbrev pub idle_shown : Bool → Nodes → List ℕ
idle_shown in_t nodes = shows idle_rule (record { quiet = false; shown = in_t }) nodes
