-- The sign of the id in the tail.
use Rattle.std.proofs.Common.{◌∙◌, ◌++◌, List, ℕ, ap, codes, decimal, sym}
use Rattle.redl_io.proofs.Puts.{puts_then, puts_fails}
use Rattle.redl_html.specs.Escaping.{escaped}
use Rattle.redl_places.specs.Views.{signs_of}
use Rattle.redl_page_stories.specs.Notes.{sign_shown}
use Rattle.redl_page_stories.proofs.notes.put_footnote.Goals as goal

pub returns-in_err-put_counted : goal.returns-in_err-put_counted
returns-in_err-put_counted g c =
    puts_fails (codes "</sup>")
    (ap (λ (t : List ℕ). escaped t ++ codes "</sup>") (sym (ap (sign_shown decimal) (c.footnote.ensures ∙ ap (λ (id : List ℕ). (signs_of c.args.signs.now).footnote id) c.value_in.ensures))))
    c.from_residual.ensures.1 c.in_err-put_counted.ensures

pub returns : goal.returns
returns g c =
    puts_then
    (ap (λ (t : List ℕ). escaped t ++ codes "</sup>") (sym (ap (sign_shown decimal) (c.footnote.ensures ∙ ap (λ (id : List ℕ). (signs_of c.args.signs.now).footnote id) c.value_in.ensures))))
    c.in_ok-put_counted.ensures c.put_piece.ensures
