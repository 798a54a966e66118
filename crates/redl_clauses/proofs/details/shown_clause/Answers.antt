-- A clause that is UTF-8 is shown, and no other.
use Rattle.std.proofs.Common.{◌∙◌, Bool, None, ap, subst, sym, if◌then◌else◌}
use Rattle.std.specs.Str.{IsUtf8}
use Rattle.redl_excerpts.proofs.DetailLaws.{utf8-is, utf8-is_not}
use Rattle.redl_clauses.specs.Clauses.{clause_if_any}
use Rattle.redl_clauses.proofs.details.shown_clause.Goals as goal

pub returns-in_ok-shown-in-Ok-clause-value : goal.returns-in_ok-shown-in-Ok-clause-value
returns-in_ok-shown-in-Ok-clause-value c =
    let clause = c.args.clause.now in
    let is : IsUtf8 clause = subst IsUtf8 c.as_bytes.ensures c.in-Ok.ensures.cases.1 in
    c.in_ok-shown-in-Ok.ensures.value
    ∙ ap clause_if_any (c.in-Ok.ensures.cases.0 ∙ c.as_bytes.ensures)
    ∙ ap (λ (b : Bool). if b then clause_if_any clause else None) (utf8-is clause is)

pub returns-in-Err-clause-value : goal.returns-in-Err-clause-value
returns-in-Err-clause-value c =
    let clause = c.args.clause.now in
    ap (λ (b : Bool). if b then clause_if_any clause else None) (utf8-is_not clause (λ is. c.in-Err.ensures.cases.0 (subst IsUtf8 (sym c.as_bytes.ensures) is)))
