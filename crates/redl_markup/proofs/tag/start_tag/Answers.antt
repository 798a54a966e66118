use Rattle.std.proofs.Common.{◌∙◌, ◌++◌, List, ℕ, ap, sym}
use Rattle.redl_grammar.specs.Names.{name_text}
use Rattle.redl_markup.specs.Views.{name_view}
use Rattle.redl_grammar.proofs.Tags.{start_text}
use Rattle.redl_markup.proofs.tag.start_tag.Goals as goal

pub new-tag-requires-clause-text : goal.new-tag-requires-clause-text
new-tag-requires-clause-text c =
    let name = name_view c.in-Some.name in
    c.before-3.ensures ∙ start_text c.args.bytes.now c.in-Some.rest.now c.in_ok-attributes.end.now name c.in-Some.ensures c.in_ok-attributes.ensures.read
    ∙ ap (λ (z : List ℕ). name_text name ++ z) (sym c.before-2.ensures)
