use Rattle.std.proofs.Common.{◌∙◌, sym, ap, List, ℕ}
use Rattle.redl_left.specs.Finds.{found_names}
use Rattle.redl_left.specs.Search.{table_of}
use Rattle.redl_left.proofs.FrontLaws.{names_none, nil_by_length, no_names}
use Rattle.redl_left.proofs.names_told.names_none.Goals as goal

pub returns-then-is_empty : goal.returns-then-is_empty
returns-then-is_empty c = λ none. λ part.
    let table = table_of c.args.search.now in
    ap (λ (tail : List ℕ). found_names table part tail) (nil_by_length c.args.tail.now (sym c.is_empty.ensures ∙ c.if-is_empty.true)) ∙ no_names table part

pub returns-then-is_empty-2 : goal.returns-then-is_empty-2
returns-then-is_empty-2 c = λ quotes. λ part.
    names_none (table_of c.args.search.now) c.args.tail.now
    (sym c.far_until.ensures.rest ∙ nil_by_length c.far_until.result.1.now (sym c.is_empty-2.ensures ∙ c.if-is_empty-2.true))
    (c.quotes_pass.ensures quotes) part
