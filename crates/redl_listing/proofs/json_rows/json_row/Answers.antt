-- The tokens of the row's object, one after another.
use Rattle.std.proofs.Common.{rules, ◌≡◌, ◌++◌, List, ℕ, ap, ◌∙◌}
use Rattle.json.specs.Print.{print}
use Rattle.redl_listing.proofs.JsonLaws.{row_tokens, row-printed}
use Rattle.redl_listing.proofs.json_rows.json_row.Goals as goal

pub returns : goal.returns
returns c =
    let row = c.args.row.now in
    let before = c.in_ok-end_object.ensures.room.0 ∙ c.in_ok-put_text-4.ensures.before ∙ c.in_ok-put_text-3.ensures.before
    ∙ c.in_ok-put_number-2.ensures.before ∙ c.in_ok-put_number.ensures.before ∙ c.in_ok-put_text-2.ensures.before ∙ c.in_ok-put_date.ensures.before
    ∙ c.in_ok-put_text.ensures.before ∙ c.in_ok-begin_object.ensures.room.0 ∙ c.new-object.ensures.before in
    let tokens : c.end_object.new.self.tokens ≡ row_tokens row =
    rw (
      c.in_ok-end_object.ensures.ok,
      c.in_ok-put_text-4.ensures.written,
      c.in_ok-put_text-3.ensures.written,
      c.in_ok-put_number-2.ensures.written,
      c.in_ok-put_number.ensures.written,
      c.in_ok-put_text-2.ensures.written,
      c.in_ok-put_date.ensures.written,
      c.in_ok-put_text.ensures.written,
      c.in_ok-begin_object.ensures.ok,
      c.new-object.ensures.tokens,
    ) (search rules) in
    c.into_inner.ensures.items
    ∙ ap (λ (front : List ℕ). front ++ print c.end_object.new.self.tokens) before
    ∙ ap (λ ts. c.args.piece.items ++ print ts) tokens
    ∙ ap (λ (text : List ℕ). c.args.piece.items ++ text) (row-printed row)
