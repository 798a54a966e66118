-- One object more.
use Rattle.std.proofs.Common.{◌≡◌, ◌+◌, ◌<◌, ◌∷◌, ◌++◌, [], ℕ, List, false, length, take, ap, sym, ◌∙◌, arith}
use Rattle.std.proofs.lemmas.List.{take_more}
use Rattle.redl_formats.specs.Formats.{array_of}
use Rattle.redl_formats.proofs.ArrayLaws.{array-more}
use Rattle.redl_left.specs.declared.line.Line.{Line}
use Rattle.redl_left_texts.specs.Texts.{comma_at, json_line}
use Rattle.redl_left_texts.proofs.JsonLaws.{comma-at}
use Rattle.redl_left_texts.proofs.json_lines.json_of.Goals as goal

pub loop-place-preserved : goal.loop-place-preserved
loop-place-preserved c =
    let lines = c.args.lines.now in
    let i = c.loop-place.place in
    let x = c.index-lines-place.result in
    let within : i < length lines = omega arith in
    let more : take (i + 1) lines ≡ take i lines ++ x ∷ [] =
    take_more lines i x within ∙ ap (λ (y : Line). take i lines ++ y ∷ []) (sym c.index-lines-place.is) in
    c.in_ok-text-2.ensures
    ∙ ap (λ (text : List ℕ). text ++ (comma_at i ++ json_line x)) c.loop-place.invariant
    ∙ ap (λ (comma : List ℕ). array_of json_line (take i lines) false ++ (comma ++ json_line x)) (sym (comma-at lines i (omega arith)))
    ∙ array-more json_line (take i lines) x
    ∙ ap (λ (all : List Line). array_of json_line all false) (sym more)
