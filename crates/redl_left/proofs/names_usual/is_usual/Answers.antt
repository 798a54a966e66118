use Rattle.std.proofs.Common.{◌∙◌, ap, sym, ℕ, List}
use Rattle.redl_left.specs.Finds.{found_names}
use Rattle.redl_left.specs.Search.{table_of}
use Rattle.redl_left.proofs.FrontLaws.{nil_by_length, no_names}
use Rattle.redl_left.proofs.names_usual.is_usual.Goals as goal

pub returns-in-Some : goal.returns-in-Some
returns-in-Some c = λ empty. λ part.
    let table = table_of c.args.search.now in
    c.in-Some.ensures part
    ∙ ap (λ (tail : List ℕ). found_names table part tail) (nil_by_length c.in-Some.rest.now (sym c.is_empty.ensures ∙ empty)) ∙ no_names table part
