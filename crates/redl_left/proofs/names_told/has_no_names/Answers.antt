use Rattle.redl_markup.specs.Attributes.{attributes_of}
use Rattle.redl_left.specs.Search.{table_of}
use Rattle.redl_left.proofs.NameLaws.{none_among}
use Rattle.redl_left.proofs.names_told.has_no_names.Goals as goal

pub returns-then-names_nothing : goal.returns-then-names_nothing
returns-then-names_nothing c = λ nothing. λ part. none_among (table_of c.args.search.now) (c.names_nothing.ensures nothing) part (attributes_of c.args.tail.now)
