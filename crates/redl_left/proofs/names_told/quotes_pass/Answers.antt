-- Up to the next quote there is none, and after it an author is named at most by an `author`.
use Rattle.std.proofs.Common.{ap, sym, refl, subst, length, arith, ◌∷◌, []}
use Rattle.redl_reading.proofs.Runs.{after_fits}
use Rattle.redl_left.specs.Fronts.{back, QuotesPass}
use Rattle.redl_left.specs.Search.{table_of}
use Rattle.redl_left.proofs.FrontLaws.{quotes_found}
use Rattle.redl_left.proofs.names_told.quotes_pass.Goals as goal

pub loop-rest-init : goal.loop-rest-init
loop-rest-init c = ([], λ pass. quotes_found (table_of c.args.search.now) [] c.args.tail.now c.until_quote.result.0.now c.until_quote.result.1.now c.until_quote.ensures.front c.until_quote.ensures.rest pass)

pub loop-rest-smaller : goal.loop-rest-smaller
loop-rest-smaller c = omega (arith, ap length c.in-Some.ensures.cases.0, ap length c.until_quote-in-Some.ensures.rest, after_fits 34 c.in-Some.rest.now)

pub loop-rest-preserved : goal.loop-rest-preserved
loop-rest-preserved c =
    let table = table_of c.args.search.now in
    let so_far = c.loop-rest.invariant in
    let before = back c.loop-rest.front.now so_far.0 in
    let quote = c.in-Some.field-0-0.now in
    let rest = c.in-Some.rest.now in
    let found = c.until_quote-in-Some in (
      quote ∷ before,
      λ pass.
          let later : QuotesPass table (quote ∷ before) rest =
          quotes_found table (quote ∷ before) rest found.result.0.now found.result.1.now found.ensures.front found.ensures.rest pass in
          so_far.1 (subst (QuotesPass table before) (sym c.in-Some.ensures.cases.0) (λ e. c.if-not-passes.ensures refl so_far.0, later)),
    )
