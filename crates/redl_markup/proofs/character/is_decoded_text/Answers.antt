use Rattle.std.proofs.Common.{◌∙◌, sym, rules, tests}
use Rattle.std.proofs.lemmas.Iterator.{YieldsList-from_chars}
use Rattle.std.proofs.lemmas.Iterator.Search.{all_from_yields_List}
use Rattle.redl_grammar.specs.Characters.{is_character, IsText}
use Rattle.redl_markup.proofs.AllowedBytes.{allowed_text}
use Rattle.redl_markup.proofs.Characters.{tests_text, text_is_utf8, plain_text}
use Rattle.redl_markup.proofs.character.is_decoded_text.Goals as goal
use Rattle.redl_markup.proofs.character.is_decoded_text.Goals.{then-has_plain_bytes, else-has_plain_bytes}

pub returns-then-has_allowed_bytes : goal.returns-then-has_allowed_bytes
returns-then-has_allowed_bytes c =
    let bs = c.args.bytes.now in
    let utf8 = c.in-Ok.ensures.cases.1 in
    let text : IsText bs = elim c.if-has_plain_bytes.branch [
      | then-has_plain_bytes w ↦ plain_text bs utf8 (sym w.if-has_plain_bytes.ensures)
      | else-has_plain_bytes w ↦ allowed_text bs utf8 (w.has_allowed_bytes.ensures (sym w.value-is ∙ c.if-has_allowed_bytes.true))
    ] in
    (λ t. text, λ h. c.if-has_allowed_bytes.true)

pub returns-else-has_allowed_bytes : goal.returns-else-has_allowed_bytes
returns-else-has_allowed_bytes c =
    let bs = c.args.bytes.now in
    let cases = c.in-Ok.ensures.cases in
    let chain = YieldsList-from_chars bs cases.1 (c.chars.ensures.rest ∙ cases.0) in
    tests_text bs c.all.result cases.1 (all_from_yields_List is_character _ _ _ c.all.ensures.ran chain (λ x b q k. search (rules, tests)))

pub returns-in-Err : goal.returns-in-Err
returns-in-Err c = (λ t. absurd (cc), λ h. absurd (c.in-Err.ensures.cases.0 (text_is_utf8 c.args.bytes.now h)))
