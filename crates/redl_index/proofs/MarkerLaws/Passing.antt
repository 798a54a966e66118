-- Among idle elements there are no markers and no paragraphs: a finder goes on behind them.
use Rattle.std.proofs.Common.{◌≡◌, ◌∙◌, refl, ap, ℕ, ◌+◌, ◌^◌, ◌<◌, List, [], ◌∷◌, ◌++◌, append-nil, Bool, true, false, codes, not, Option, None, option_map, option_to_list, set, if◌then◌else◌}
use Rattle.std.specs.Prelude.{option_and_then}
use Rattle.redl_tree.specs.Model.Nodes.{Tag, Nodes}
use Rattle.redl_tree.specs.Model.IdleTexts.{idle_nodes}
use Rattle.redl_tree.specs.Model.Seen.{tags}
use Rattle.redl_tree.specs.Revisions.Moves.{Edge, Marking}
use Rattle.redl_tree.proofs.Idle.Items.{nodes_are_idle, element_among}
use Rattle.redl_tree.proofs.Idle.Roles.{no_edge}
use Rattle.redl_tree.proofs.Idle.Tags.{Idle, has-not}
use Rattle.redl_stamp.specs.Attribute.{attribute_value}
use Rattle.redl_visit.specs.declared.ancestors.Ancestors.{Ancestors}
use Rattle.redl_visit.specs.Summaries.{ancestors_inside}
use Rattle.redl_visit.specs.Visits.{visited, Needs}
use Rattle.redl_index.specs.declared.markers.trail.Trail.{Trail}
use Rattle.redl_index.specs.declared.markers.trail.Below.{Below}
use Rattle.redl_index.specs.Inside.Markers.Finding.{Finding, marking_by, marker_by, finder_rule, finder_needs}
use Rattle.redl_index.proofs.MarkerLaws.Finder.{finding, same}
use Rattle.redl_index.proofs.PassLaws.{passed, room_some}

no_marker_by : (here : Ancestors) (trail : Trail) (at : ℕ) (tag : Tag) (in_run : Bool) → Idle in_run tag → marker_by here trail at tag ≡ None
no_marker_by here trail at tag in_run i =
    ap (λ (e : Option Edge). if not here.around.quiet then option_and_then (λ edge. option_map (marking_by here trail at tag edge) (attribute_value tag.tail (codes "id"))) e else None) (no_edge in_run tag i)
    ∙ either (not here.around.quiet)
  where
    either : (b : Bool) → (if b then None else None) ≡ (let none : Option Marking = None in none)
    either true = refl
    either false = refl

abbrev pub moved : ℕ → Finding → Finding
moved n s = finding s.marks s.tails s.ends n

enters : (here : Ancestors) (own : Below) (in_run : Bool) (tag : Tag) (kids : Nodes) (s : Finding) → Idle in_run tag → finder_rule.enter here own tag kids s ≡ moved (s.at + 1) s
enters here own in_run tag kids s i =
    let none = no_marker_by here own.trail s.at tag in_run i in
    same _ _ _ _ _ _ _ _
    (ap (λ (m : Option Marking). s.marks ++ option_to_list m) none ∙ append-nil s.marks)
    (ap (λ (m : Option Marking). s.tails ++ option_to_list (option_map (λ mark. tag.tail) m)) none ∙ append-nil s.tails)
    (ap (λ b. s.ends ++ (if b then s.at ∷ [] else [])) (has-not "p" in_run tag i refl) ∙ append-nil s.ends)
    refl

leaves : (here : Ancestors) (below : Below) (in_run : Bool) (tag : Tag) (kids : Nodes) (s : Finding) → Idle in_run tag → finder_rule.leave here below tag kids s ≡ moved (s.at + 1) s
leaves here below in_run tag kids s i =
    ap (λ b. finding s.marks s.tails (if b then set s.ends below.place s.at else s.ends) (s.at + 1)) (has-not "p" in_run tag i refl)

module _ (here : Ancestors) (own : Below) (t : List ℕ) (s : Finding) where
  pub finder_passed : visited ancestors_inside finder_rule here own (idle_nodes t) s ≡ moved (s.at + tags (idle_nodes t)) s
  finder_passed =
      passed ancestors_inside finder_rule (λ s. s.at) moved (λ s. refl) (λ n s. refl) (λ m n s. refl) enters leaves here own false (idle_nodes t) s (nodes_are_idle t)

  pub finder_room : Needs ancestors_inside finder_rule finder_needs here own (idle_nodes t) s → s.at + tags (idle_nodes t) < 2 ^ 64
  finder_room needed =
      room_some ancestors_inside finder_rule (λ s. s.at) moved (λ s. refl) (λ n s. refl) (λ m n s. refl) enters leaves finder_needs (λ here below tag kids s h. h)
      here own false (idle_nodes t) s (nodes_are_idle t) (element_among t) needed
