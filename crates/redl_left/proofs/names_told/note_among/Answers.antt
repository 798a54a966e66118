-- An attribute, and then the others.
use Rattle.std.proofs.Common.{ap, sym, ◌∙◌, List, ℕ}
use Rattle.redl_grammar.specs.Names.{Name}
use Rattle.redl_markup.specs.Attributes.{attributes_of}
use Rattle.redl_markup.specs.Views.{attribute_view}
use Rattle.redl_left.proofs.NotedLaws.{noted-append}
use Rattle.redl_left.specs.Finds.{found_among, found_name}
use Rattle.redl_left.specs.Lines.{noted_all}
use Rattle.redl_left.specs.Search.{table_of}
use Rattle.redl_left.specs.Seen.{tables_of}
use Rattle.redl_left.specs.declared.line.Line.{Line}
use Rattle.redl_left.proofs.names_told.note_among.Goals as goal

pub loop-attribute-preserved : goal.loop-attribute-preserved
loop-attribute-preserved c =
    let table = table_of c.args.search.now in
    let part = c.args.part.now in
    let tables = tables_of c.loop-attribute.seen in
    let own = attribute_view c.in-Some.attribute in
    let rest = attributes_of c.in-Some.rest.now in
    ap (λ (s : List (List Line)). noted_all s (found_among table part rest)) c.in_ok-note_name.ensures
    ∙ sym (noted-append tables (found_name table part own) (found_among table part rest))
    ∙ ap (λ (attributes : List (Name × List ℕ)). noted_all tables (found_among table part attributes)) (sym c.in-Some.ensures.found)
    ∙ c.loop-attribute.invariant
