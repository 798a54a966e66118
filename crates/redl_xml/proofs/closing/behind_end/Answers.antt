use Rattle.std.proofs.Common.{◌≡◌, ◌∙◌, ◌++◌, ◌∷◌, [], List, ℕ, ap}
use Rattle.std.specs.Prelude.{codes}
use Rattle.redl_grammar.specs.Names.{name_text}
use Rattle.redl_grammar.specs.Pieces.{piece_then, end_tag}
use Rattle.redl_markup.specs.Views.{name_view}
use Rattle.redl_reading.proofs.Words.{behind_takes}
use Rattle.redl_xml.proofs.EndTags.{told_behind}
use Rattle.redl_xml.proofs.closing.behind_end.Goals as goal

pub returns : goal.returns
returns c =
    let name = name_view c.args.name in
    let bytes = c.args.bytes.now in
    let opened = behind_takes (codes "</") bytes c.in_ok-opened.opened.now c.in_ok-opened.ensures in
    let named = opened ∙ ap (λ (z : List ℕ). 60 ∷ 47 ∷ z) c.in_ok-named.ensures in
    told_behind (λ rest. rest.now) (codes ">") c.in_ok-named.named.now (λ rest. bytes ≡ piece_then (end_tag name []) rest) c.skip-2.result c.skip-2.ensures (λ rest e. named ∙ ap (λ (z : List ℕ). 60 ∷ 47 ∷ (name_text name ++ z)) e)
