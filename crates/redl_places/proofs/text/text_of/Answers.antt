-- The words of a place are UTF-8.
use Rattle.std.proofs.Common.{◌≡◌, ◌++◌, ◌∙◌, ℕ, List, ap}
use Rattle.std.proofs.lemmas.Result.{IfOk-weaker}
use Rattle.std.specs.Str.{IsUtf8}
use Rattle.redl_places.specs.Texts.{place_text}
use Rattle.redl_places.proofs.TextLaws.{place-utf8}
use Rattle.redl_places.proofs.text.text_of.Goals as goal

pub returns-clause-utf8 : goal.returns-clause-utf8
returns-clause-utf8 c =
    let place = c.args.place in
    IfOk-weaker c.copy_of.result (λ (text : List ℕ). text ≡ c.deref.result.now) IsUtf8 (λ text is. place-utf8 _ place
    (is ∙ c.deref.ensures.value ∙ c.in_ok-put_place.ensures ∙ ap (λ (text : List ℕ). text ++ place_text place) c.new-text.ensures.items)) c.copy_of.ensures
