-- Two visitors as one: each goes on as it would by itself.
use Rattle.std.specs.Prelude.{◌≡◌}
use Rattle.redl_visit.specs.Visits.{VisitRule, VisitNeeds}
use Rattle.redl_visit.specs.Stops.{VisitStops}

-- each has its own part of what is handed down, and of the state
abbrev pub both_rule : {H O P S T : Type 0} → VisitRule H O S → VisitRule H P T → VisitRule H (O × P) (S × T)
both_rule r q = record {
  below = λ here own tag kids s. (r.below here own.0 tag kids s.0, q.below here own.1 tag kids s.1);
  enter = λ here own tag kids s. (r.enter here own.0 tag kids s.0, q.enter here own.1 tag kids s.1);
  leave = λ here below tag kids s. (r.leave here below.0 tag kids s.0, q.leave here below.1 tag kids s.1);
}

-- what both need
abbrev pub both_needs : {H O P S T : Type 0} → VisitNeeds H O S → VisitNeeds H P T → VisitNeeds H (O × P) (S × T)
both_needs r q = record {
  Enter = λ here own tag kids s. r.Enter here own.0 tag kids s.0 × q.Enter here own.1 tag kids s.1;
  Leave = λ here below tag kids s. r.Leave here below.0 tag kids s.0 × q.Leave here below.1 tag kids s.1;
}

-- one or the other
pub data Either (A B : Type 0) : Type 0 where
  first : A → Either A B
  second : B → Either A B

-- the first stops and the second is as it was, or the first went on and the second stops
abbrev pub both_stops : {H O P S T X : Type 0} → VisitRule H O S → VisitStops H O S X → VisitStops H P T X → VisitStops H (O × P) (S × T) X
both_stops rule r q = record {
  Enter = λ here own tag kids s t x.
      Either (r.Enter here own.0 tag kids s.0 t.0 x × (t.1 ≡ s.1)) ((t.0 ≡ rule.enter here own.0 tag kids s.0) × q.Enter here own.1 tag kids s.1 t.1 x);
  Leave = λ here below tag kids s t x.
      Either (r.Leave here below.0 tag kids s.0 t.0 x × (t.1 ≡ s.1)) ((t.0 ≡ rule.leave here below.0 tag kids s.0) × q.Leave here below.1 tag kids s.1 t.1 x);
}
