-- Hidden units among idle elements that a list keeps as text: they show bytes, and nothing else does. They are in no revision, and none of
-- them is a paragraph.
use Rattle.std.specs.Prelude.{ℕ, ◌&&◌, not, Bool, List, [], ◌∷◌, if◌then◌else◌}
use Rattle.redl_tree.specs.Model.Nodes.{Nodes}
use Rattle.redl_tree.specs.Roles.Names.{is, of_w}
use Rattle.redl_idle.specs.Shows.{ShowRule}
use Rattle.redl_shown.specs.Shown.{shown}
use Rattle.redl_hidden.specs.Runs.{run_hides}
use Rattle.redl_hidden.specs.Styles.{HiddenStyles}
use Rattle.redl_hidden_members.specs.Around.{in_run}
use Rattle.redl_hidden_members.specs.Walks.{is_hidden_text, unit_is_hidden}
use Rattle.redl_hidden_members.specs.declared.around.Around.{Around}
use Rattle.redl_hidden_members.specs.declared.idle.Within.{Within}

-- where the kids of an idle element stand that is no run
abbrev pub in_idle : Around → List ℕ → Around
in_idle at local = record {
  paragraph = at.paragraph;
  mark = at.mark;
  in_mark = is "rPr" (of_w local) && at.in_mark;
  of_run = is "rPr" (of_w local) && at.of_run;
  run = at.run;
  loud = at.loud && not (is "rPr" (of_w local));
  text = is "t" (of_w local);
}

abbrev pub inside_idle : HiddenStyles → Around → List ℕ → Nodes → Around
inside_idle styles at local kids = if is "r" (of_w local) then in_run at (run_hides styles at.paragraph kids) else in_idle at local

abbrev pub sign_if : Bool → List ℕ
sign_if hidden = if hidden then 32 ∷ [] else []

abbrev pub unit_rule : ShowRule Within
unit_rule = record {
  bytes = λ within b. if is_hidden_text within.at then shown b else [];
  start = λ within local tail kids. sign_if (unit_is_hidden within.at (of_w local));
  inside = λ within local tail kids. record { styles = within.styles; at = inside_idle within.styles.now within.at local kids };
  end = λ within. [];
}
