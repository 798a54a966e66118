-- Two visitors as one: each ends as it would by itself.
use Rattle.std.proofs.Common.{◌≡◌, refl, ap, sym, ◌∙◌, subst}
use Rattle.redl_tree.specs.Model.Nodes.{Tag, Nodes, no_nodes, bytes, element}
use Rattle.redl_visit.specs.Visits.{VisitRule, VisitNeeds, visited, visited_element, Needs}
use Rattle.redl_visit.specs.Pairs.{both_rule, both_needs}

module _ {H O P S T : Type 0} (inside : Tag → H → H) (r : VisitRule H O S) (q : VisitRule H P T) where
  -- a visit with two visitors gives what two visits give
  pub both-visited : (here : H) (own : O × P) (nodes : Nodes) (s : S × T) →
      visited inside (both_rule r q) here own nodes s ≡ (visited inside r here own.0 nodes s.0, visited inside q here own.1 nodes s.1)
  both-visited here own no_nodes s = refl
  both-visited here own (bytes b rest) s = both-visited here own rest s
  both-visited here own (element tag kids rest) s =
      let below = (both_rule r q).below here own tag kids s in
      ap (λ x. visited inside (both_rule r q) here own rest ((both_rule r q).leave here below tag kids x))
      (both-visited (inside tag here) below kids ((both_rule r q).enter here own tag kids s))
      ∙ both-visited here own rest (visited_element inside r here own.0 tag kids s.0, visited_element inside q here own.1 tag kids s.1)

  pub both-visited_element : (here : H) (own : O × P) (tag : Tag) (kids : Nodes) (s : S × T) →
      visited_element inside (both_rule r q) here own tag kids s ≡ (visited_element inside r here own.0 tag kids s.0, visited_element inside q here own.1 tag kids s.1)
  both-visited_element here own tag kids s = both-visited here own (element tag kids no_nodes) s

  -- and it needs what both need
  pub both-needs : (m : VisitNeeds H O S) (n : VisitNeeds H P T) (here : H) (own : O × P) (nodes : Nodes) (s : S × T) →
      Needs inside r m here own.0 nodes s.0 → Needs inside q n here own.1 nodes s.1 → Needs inside (both_rule r q) (both_needs m n) here own nodes s
  both-needs m n here own no_nodes s a b = tt
  both-needs m n here own (bytes _ rest) s a b = both-needs m n here own rest s a b
  both-needs m n here own (element tag kids rest) s a b =
      let below = (both_rule r q).below here own tag kids s in
      let inner = inside tag here in
      let Leaves : S × T → Type 0 = λ x. (both_needs m n).Leave here below tag kids x in
      let After : S × T → Type 0 = λ x. Needs inside (both_rule r q) (both_needs m n) here own rest x in (
        (a.0, b.0),
        both-needs m n inner below kids ((both_rule r q).enter here own tag kids s) a.1 b.1,
        subst Leaves (sym (both-visited inner below kids ((both_rule r q).enter here own tag kids s))) (a.2, b.2),
        subst After (sym (both-visited_element here own tag kids s))
            (both-needs m n here own rest (visited_element inside r here own.0 tag kids s.0, visited_element inside q here own.1 tag kids s.1) a.3 b.3),
      )

  needs-each : (m : VisitNeeds H O S) (n : VisitNeeds H P T) (here : H) (own : O × P) (nodes : Nodes) (s : S × T) →
      Needs inside (both_rule r q) (both_needs m n) here own nodes s → Needs inside r m here own.0 nodes s.0 × Needs inside q n here own.1 nodes s.1
  needs-each m n here own no_nodes s h = (tt, tt)
  needs-each m n here own (bytes b rest) s h = needs-each m n here own rest s h
  needs-each m n here own (element tag kids rest) s h =
      let below = (both_rule r q).below here own tag kids s in
      let inner = inside tag here in
      let Leaves : S × T → Type 0 = λ x. (both_needs m n).Leave here below tag kids x in
      let After : S × T → Type 0 = λ x. Needs inside (both_rule r q) (both_needs m n) here own rest x in
      let inside_each = needs-each m n inner below kids ((both_rule r q).enter here own tag kids s) h.1 in
      let leaves = subst Leaves (both-visited inner below kids ((both_rule r q).enter here own tag kids s)) h.2 in
      let after = needs-each m n here own rest (visited_element inside r here own.0 tag kids s.0, visited_element inside q here own.1 tag kids s.1) (subst After (both-visited_element here own tag kids s) h.3) in
      ((h.0.0, inside_each.0, leaves.0, after.0), (h.0.1, inside_each.1, leaves.1, after.1))

  pub needs_first : (m : VisitNeeds H O S) (n : VisitNeeds H P T) (here : H) (own : O × P) (nodes : Nodes) (s : S × T) →
      Needs inside (both_rule r q) (both_needs m n) here own nodes s → Needs inside r m here own.0 nodes s.0
  needs_first m n here own nodes s h = (needs-each m n here own nodes s h).0

  pub needs_second : (m : VisitNeeds H O S) (n : VisitNeeds H P T) (here : H) (own : O × P) (nodes : Nodes) (s : S × T) →
      Needs inside (both_rule r q) (both_needs m n) here own nodes s → Needs inside q n here own.1 nodes s.1
  needs_second m n here own nodes s h = (needs-each m n here own nodes s h).1

  pub visited_both : (here : H) (own : O × P) (nodes : Nodes) (s : S × T) →
      (visited inside r here own.0 nodes s.0, visited inside q here own.1 nodes s.1) ≡ visited inside (both_rule r q) here own nodes s
  visited_both here own nodes s = sym (both-visited here own nodes s)
