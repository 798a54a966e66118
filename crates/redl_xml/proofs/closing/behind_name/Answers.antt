use Rattle.std.proofs.Common.{◌≡◌, ◌≢◌, ◌∙◌, ◌++◌, ◌∷◌, List, ℕ, ap, length, arith}
use Rattle.std.specs.Prelude.{codes}
use Rattle.redl_grammar.specs.Names.{name_text}
use Rattle.redl_markup.specs.Views.{name_view}
use Rattle.redl_reading.proofs.Words.{behind_takes}
use Rattle.redl_xml.proofs.EndTags.{told_behind, text_without_prefix, text_with_prefix}
use Rattle.redl_xml.proofs.closing.behind_name.Goals as goal

pub returns-then-is_empty : goal.returns-then-is_empty
returns-then-is_empty c =
    let name = name_view c.args.name in
    let none : length name.prefix ≡ 0 = grind (arith, c.is_empty.ensures, c.if-is_empty.true) in
    told_behind (λ rest. rest.now) name.local c.args.bytes.now (λ rest. c.args.bytes.now ≡ name_text name ++ rest) c.behind_word.result c.behind_word.ensures (λ rest e. e ∙ ap (λ (z : List ℕ). z ++ rest) (text_without_prefix name none))

pub returns : goal.returns
returns c =
    let name = name_view c.args.name in
    let colon = c.in_ok-colon.colon.now in
    let local = c.in_ok-local.local.now in
    let some : length name.prefix ≢ 0 = grind (arith, c.is_empty.ensures, c.if-is_empty.false) in
    let first = behind_takes name.prefix c.args.bytes.now colon c.in_ok-colon.ensures in
    let second = behind_takes (codes ":") colon local c.in_ok-local.ensures in
    told_behind (λ rest. rest.now) name.local local (λ rest. c.args.bytes.now ≡ name_text name ++ rest) c.behind_word-3.result c.behind_word-3.ensures
    (λ rest e. first ∙ ap (λ (z : List ℕ). name.prefix ++ z) (second ∙ ap (λ (z : List ℕ). 58 ∷ z) e) ∙ text_with_prefix name rest some)
