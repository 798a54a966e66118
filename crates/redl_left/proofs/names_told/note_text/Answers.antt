use Rattle.std.proofs.Common.{ap, sym, refl, List}
use Rattle.redl_left.specs.Finds.{Find}
use Rattle.redl_left.specs.Lines.{noted_all}
use Rattle.redl_left.specs.Search.{table_of}
use Rattle.redl_left.specs.Seen.{tables_of}
use Rattle.redl_left.proofs.NameLaws.{none_told}
use Rattle.redl_left.proofs.names_told.note_text.Goals as goal

pub returns-then-names_nothing : goal.returns-then-names_nothing
returns-then-names_nothing c =
    ap (λ (found : List Find). noted_all (tables_of c.args.seen.now) found)
    (sym (none_told (table_of c.args.search.now) (c.if-names_nothing.ensures refl) c.args.part.now c.args.bytes.now))
