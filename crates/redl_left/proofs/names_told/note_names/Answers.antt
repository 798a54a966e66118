-- An empty tail has no values.
use Rattle.std.proofs.Common.{◌∙◌, ap, sym, ℕ, List}
use Rattle.redl_left.specs.Finds.{Find, found_names}
use Rattle.redl_left.specs.Lines.{noted_all}
use Rattle.redl_left.specs.Search.{table_of}
use Rattle.redl_left.specs.Seen.{tables_of}
use Rattle.redl_left.proofs.FrontLaws.{nil_by_length, no_names}
use Rattle.redl_left.proofs.names_told.note_names.Goals as goal

pub returns-then-is_empty : goal.returns-then-is_empty
returns-then-is_empty c =
    let table = table_of c.args.search.now in
    let part = c.args.part.now in
    ap (λ (found : List Find). noted_all (tables_of c.args.seen.now) found)
    (sym (ap (λ (tail : List ℕ). found_names table part tail) (nil_by_length c.args.tail.now (sym c.is_empty.ensures ∙ c.if-is_empty.true)) ∙ no_names table part))
