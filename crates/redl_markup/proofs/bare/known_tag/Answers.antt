use Rattle.std.proofs.Common.{◌∙◌, ◌++◌, List, ℕ, ap, sym}
use Rattle.redl_grammar.specs.Names.{name_text}
use Rattle.redl_markup.specs.Views.{name_view}
use Rattle.redl_grammar.proofs.Tags.{start_text}
use Rattle.redl_markup.proofs.bare.known_tag.Goals as goal

pub new-tag-requires : goal.new-tag-requires
new-tag-requires c =
    let name = name_view c.in_ok-name.name in
    c.before-3.ensures ∙ start_text c.args.bytes.now c.in_ok-name.rest.now c.in_ok-end.end.now name c.in_ok-name.ensures c.in_ok-end.ensures
    ∙ ap (λ (z : List ℕ). name_text name ++ z) (sym c.before-2.ensures)
