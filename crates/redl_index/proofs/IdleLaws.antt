-- Among idle elements no revision is found, and none is numbered: a walk goes on behind them.
use Rattle.std.proofs.Common.{◌≡◌, ◌∙◌, refl, ap, ℕ, ◌+◌, ◌^◌, ◌<◌, List, Bool, false, drop, if◌then◌else◌}
use Rattle.redl_tree.specs.Model.Nodes.{Tag, Nodes}
use Rattle.redl_tree.specs.Model.IdleTexts.{idle_nodes}
use Rattle.redl_tree.specs.Model.Seen.{tags}
use Rattle.redl_tree.specs.Roles.Arounds.{around_inside}
use Rattle.redl_tree.specs.Roles.Names.{is}
use Rattle.redl_tree.specs.declared.around.Around.{Around}
use Rattle.redl_tree.proofs.Idle.Items.{nodes_are_idle, element_among}
use Rattle.redl_tree.proofs.Idle.Tags.{Idle, has-not}
use Rattle.redl_visit.specs.Labelling.{visit_of, needs_of}
use Rattle.redl_visit.specs.Visits.{visited, Needs}
use Rattle.redl_index.specs.declared.story.Sight.{Sight}
use Rattle.redl_index.specs.Inside.IdleSights.{plain-sight}
use Rattle.redl_index.specs.Inside.Numberers.{NumbererState, numberer_rule, numberer_needs}
use Rattle.redl_index.specs.Inside.Numberings.{given}
use Rattle.redl_index.specs.Inside.Seeking.{Seeking, added, seeker_rule, seeker_needs}
use Rattle.redl_index.proofs.PassLaws.{passed, room_some}

-- ---- a seeker

abbrev pub sought : ℕ → Seeking → Seeking
sought n s = record s { at = n }

seeker-enters : (here : Around) (own : ℕ) (in_run : Bool) (tag : Tag) (kids : Nodes) (s : Seeking) → Idle in_run tag → seeker_rule.enter here own tag kids s ≡ sought (s.at + 1) s
seeker-enters here own in_run tag kids s i =
    ap (λ (x : Sight). seeker_rule.leave here own tag kids (record s { found = added s.part s.tails tag.tail x s.found; ends = if is_para then drop 1 s.ends else s.ends })) (plain-sight s.marks here own s.at tag in_run i)
    ∙ ap (λ b. record s { ends = if b then drop 1 s.ends else s.ends; at = s.at + 1 }) (has-not "p" in_run tag i refl)
  where
    is_para : Bool
    is_para = is "p" tag

module _ (here : Around) (own : ℕ) (t : List ℕ) (s : Seeking) where
  pub seeker_passed : visited around_inside seeker_rule here own (idle_nodes t) s ≡ sought (s.at + tags (idle_nodes t)) s
  seeker_passed =
      passed around_inside seeker_rule (λ s. s.at) sought (λ s. refl) (λ n s. refl) (λ m n s. refl) seeker-enters (λ here below in_run tag kids s i. refl) here own false (idle_nodes t) s (nodes_are_idle t)

  pub seeker_room : Needs around_inside seeker_rule seeker_needs here own (idle_nodes t) s → s.at + tags (idle_nodes t) < 2 ^ 64
  seeker_room needed =
      room_some around_inside seeker_rule (λ s. s.at) sought (λ s. refl) (λ n s. refl) (λ m n s. refl) seeker-enters (λ here below in_run tag kids s i. refl) seeker_needs (λ here below tag kids s h. h)
      here own false (idle_nodes t) s (nodes_are_idle t) (element_among t) needed

-- ---- a numberer

abbrev pub numbered : ℕ → NumbererState → NumbererState
numbered n s = record s { at = n }

numberer-enters : (here : Around) (end : ℕ) (in_run : Bool) (tag : Tag) (kids : Nodes) (s : NumbererState) → Idle in_run tag → numberer_rule.enter here end tag kids s ≡ numbered (s.at + 1) s
numberer-enters here end in_run tag kids s i =
    ap (λ (x : Sight). record s { at = s.at + 1; ends = if is_para then drop 1 s.ends else s.ends; numbers = given x s.numbers }) (plain-sight s.marks here end s.at tag in_run i)
    ∙ ap (λ b. record s { at = s.at + 1; ends = if b then drop 1 s.ends else s.ends }) (has-not "p" in_run tag i refl)
  where
    is_para : Bool
    is_para = is "p" tag

module _ (here : Around) (end : ℕ) (t : List ℕ) (s : NumbererState) where
  pub numberer_passed : visited around_inside (visit_of numberer_rule) here end (idle_nodes t) s ≡ numbered (s.at + tags (idle_nodes t)) s
  numberer_passed =
      passed around_inside (visit_of numberer_rule) (λ s. s.at) numbered (λ s. refl) (λ n s. refl) (λ m n s. refl) numberer-enters (λ here below in_run tag kids s i. refl) here end false (idle_nodes t) s (nodes_are_idle t)

  pub numberer_room : Needs around_inside (visit_of numberer_rule) (needs_of numberer_needs) here end (idle_nodes t) s → s.at + tags (idle_nodes t) < 2 ^ 64
  numberer_room needed =
      room_some around_inside (visit_of numberer_rule) (λ s. s.at) numbered (λ s. refl) (λ n s. refl) (λ m n s. refl) numberer-enters (λ here below in_run tag kids s i. refl) (needs_of numberer_needs) (λ here below tag kids s h. h)
      here end false (idle_nodes t) s (nodes_are_idle t) (element_among t) needed
