-- A value without references and white space is read as it is written.
use Rattle.std.proofs.Common.{◌∙◌, ap, List, ℕ, Option}
use Rattle.std.specs.Option.{option_map}
use Rattle.redl_markup.specs.Decoding.{decoded_value}
use Rattle.redl_left.specs.Finds.{value_or_nothing}
use Rattle.redl_left.specs.Named.{named_in}
use Rattle.redl_left.specs.Seen.{tables_of}
use Rattle.redl_left.specs.declared.fact.Fact.TheVariants.{Name}
use Rattle.redl_left.proofs.gather.has_known_author.Goals as goal

pub returns-then-is_literal : goal.returns-then-is_literal
returns-then-is_literal c = λ told.
    let tables = tables_of c.args.seen.now in
    ap (λ (written : Option (List ℕ)). named_in tables Name (value_or_nothing (option_map decoded_value written))) c.in-Some.ensures
    ∙ ap (λ (author : List ℕ). named_in tables Name author) (c.is_literal.ensures.same c.if-is_literal.true)
    ∙ c.names.ensures told
