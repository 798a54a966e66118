-- A visitor of which idle elements change nothing but the position of the next tag goes on by their tags.
use Rattle.std.proofs.Common.{◌≡◌, ◌∙◌, sym, ap, ℕ, ◌+◌, ◌^◌, ◌<◌, Bool, true, true≢false, arith}
use Rattle.redl_tree.specs.Model.Kids.{has_element}
use Rattle.redl_tree.specs.Model.Nodes.{Tag, Nodes, no_nodes, bytes, element}
use Rattle.redl_tree.specs.Model.Seen.{tags}
use Rattle.redl_tree.specs.Roles.Idle.{is_idle_in}
use Rattle.redl_tree.specs.Roles.Names.{is}
use Rattle.redl_tree.proofs.Idle.Tags.{Idle, idle_parts}
use Rattle.redl_visit.specs.Visits.{VisitRule, VisitNeeds, visited, visited_element, Needs}

module _ {H O S : Type 0} (inside : Tag → H → H) (rule : VisitRule H O S) (at : S → ℕ) (moved : ℕ → S → S)
    (stays : (s : S) → moved (at s) s ≡ s) (is_at : (n : ℕ) (s : S) → at (moved n s) ≡ n) (again : (m n : ℕ) (s : S) → moved m (moved n s) ≡ moved m s)
    (enters : (here : H) (own : O) (in_run : Bool) (tag : Tag) (kids : Nodes) (s : S) → Idle in_run tag → rule.enter here own tag kids s ≡ moved (at s + 1) s)
    (leaves : (here : H) (below : O) (in_run : Bool) (tag : Tag) (kids : Nodes) (s : S) → Idle in_run tag → rule.leave here below tag kids s ≡ moved (at s + 1) s) where
  pub passed : (here : H) (own : O) (in_run : Bool) (nodes : Nodes) (s : S) → is_idle_in in_run nodes ≡ true → visited inside rule here own nodes s ≡ moved (at s + tags nodes) s
  passed here own in_run no_nodes s h = sym (stays s) ∙ ap (λ n. moved n s) (omega arith)
  passed here own in_run (bytes b rest) s h = passed here own in_run rest s h
  passed here own in_run (element tag kids rest) s h =
      let p = idle_parts in_run tag kids rest h in
      let inner = inside tag here in
      let below = rule.below here own tag kids s in
      let entered = moved (at s + 1) s in
      let behind = moved (at s + 1 + tags kids) s in
      let left = moved (at s + 1 + tags kids + 1) s in
      let kids_are : visited inside rule inner below kids (rule.enter here own tag kids s) ≡ behind =
      ap (visited inside rule inner below kids) (enters here own in_run tag kids s p.own) ∙ passed inner below (is "r" tag) kids entered p.below
      ∙ again (at entered + tags kids) (at s + 1) s ∙ ap (λ n. moved (n + tags kids) s) (is_at (at s + 1) s) in
      let element_is : visited_element inside rule here own tag kids s ≡ left =
      ap (rule.leave here below tag kids) kids_are ∙ leaves here below in_run tag kids behind p.own
      ∙ again (at behind + 1) (at s + 1 + tags kids) s ∙ ap (λ n. moved (n + 1) s) (is_at (at s + 1 + tags kids) s) in
      ap (visited inside rule here own rest) element_is ∙ passed here own in_run rest left p.later
      ∙ again (at left + tags rest) (at s + 1 + tags kids + 1) s ∙ ap (λ n. moved (n + tags rest) s) (is_at (at s + 1 + tags kids + 1) s)
      ∙ ap (λ n. moved n s) (omega arith)

  module _ (needs : VisitNeeds H O S) (room : (here : H) (below : O) (tag : Tag) (kids : Nodes) (s : S) → needs.Leave here below tag kids s → at s + 1 < 2 ^ 64) where
    -- where there is room for each end tag, there is room for all tags
    room_past : (here : H) (own : O) (in_run : Bool) (nodes : Nodes) (s : S) → is_idle_in in_run nodes ≡ true → Needs inside rule needs here own nodes s → at s < 2 ^ 64 → at s + tags nodes < 2 ^ 64
    room_past here own in_run no_nodes s h needed fits = omega (arith, fits)
    room_past here own in_run (bytes b rest) s h needed fits = room_past here own in_run rest s h needed fits
    room_past here own in_run (element tag kids rest) s h needed fits =
        let p = idle_parts in_run tag kids rest h in
        let inner = inside tag here in
        let below = rule.below here own tag kids s in
        let entered = rule.enter here own tag kids s in
        let behind = visited inside rule inner below kids entered in
        let left = rule.leave here below tag kids behind in
        let entered_at : at entered ≡ at s + 1 = ap at (enters here own in_run tag kids s p.own) ∙ is_at (at s + 1) s in
        let behind_at : at behind ≡ at entered + tags kids = ap at (passed inner below (is "r" tag) kids entered p.below) ∙ is_at (at entered + tags kids) entered in
        let left_at : at left ≡ at behind + 1 = ap at (leaves here below in_run tag kids behind p.own) ∙ is_at (at behind + 1) behind in
        let fits_left : at left < 2 ^ 64 = omega (arith, left_at, room here below tag kids behind needed.2) in
        omega (arith, entered_at, behind_at, left_at, room_past here own in_run rest left p.later needed.3 fits_left)

    -- so where an element is among them
    pub room_some : (here : H) (own : O) (in_run : Bool) (nodes : Nodes) (s : S) → is_idle_in in_run nodes ≡ true → has_element nodes ≡ true → Needs inside rule needs here own nodes s → at s + tags nodes < 2 ^ 64
    room_some here own in_run no_nodes s h there needed = absurd (true≢false (sym there))
    room_some here own in_run (bytes b rest) s h there needed = room_some here own in_run rest s h there needed
    room_some here own in_run (element tag kids rest) s h there needed =
        let p = idle_parts in_run tag kids rest h in
        let below = rule.below here own tag kids s in
        let entered = rule.enter here own tag kids s in
        let behind = visited inside rule (inside tag here) below kids entered in
        let entered_at : at entered ≡ at s + 1 = ap at (enters here own in_run tag kids s p.own) ∙ is_at (at s + 1) s in
        let behind_at : at behind ≡ at entered + tags kids =
        ap at (passed (inside tag here) below (is "r" tag) kids entered p.below) ∙ is_at (at entered + tags kids) entered in
        room_past here own in_run (element tag kids rest) s h needed (omega (arith, entered_at, behind_at, room here below tag kids behind needed.2))
