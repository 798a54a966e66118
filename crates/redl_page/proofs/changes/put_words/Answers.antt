use Rattle.std.proofs.Common.{◌≡◌, ◌++◌, ◌∙◌, List, ℕ, Bool, [], ap, codes, false, length, sym, if◌then◌else◌}
use Rattle.std.specs.Prelude.{◌==◌}
use Rattle.redl_html.specs.Escaping.{escaped}
use Rattle.redl_io.proofs.Puts.{puts_then, puts_fails}
use Rattle.redl_page.proofs.changes.put_words.Goals as goal

pub returns-in_err-put_attribute : goal.returns-in_err-put_attribute
returns-in_err-put_attribute g c =
    let some : (length c.args.text.now == 0) ≡ false = ap (λ (text : List ℕ). length text == 0) (sym c.as_bytes-bytes.ensures) ∙ (sym c.is_empty.ensures ∙ c.if-is_empty.false) in
    puts_fails _ (ap (λ (b : Bool). if b then [] else (c.args.before.now ++ escaped c.args.text.now) ++ codes "</bdi></p>") some
    ∙ ap (λ (text : List ℕ). (c.args.before.now ++ escaped text) ++ codes "</bdi></p>") (sym c.as_bytes-bytes.ensures)) c.from_residual.ensures.1 c.in_err-put_attribute.ensures

pub returns : goal.returns
returns g c =
    let some : (length c.args.text.now == 0) ≡ false = ap (λ (text : List ℕ). length text == 0) (sym c.as_bytes-bytes.ensures) ∙ (sym c.is_empty.ensures ∙ c.if-is_empty.false) in
    puts_then (ap (λ (b : Bool). if b then [] else (c.args.before.now ++ escaped c.args.text.now) ++ codes "</bdi></p>") some
    ∙ ap (λ (text : List ℕ). (c.args.before.now ++ escaped text) ++ codes "</bdi></p>") (sym c.as_bytes-bytes.ensures)) c.in_ok-put_attribute.ensures c.put_piece.ensures
