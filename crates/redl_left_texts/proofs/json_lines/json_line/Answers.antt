-- The tokens of the line's object, one after another.
use Rattle.std.proofs.Common.{rules, ◌≡◌, ◌++◌, List, ℕ, ap, ◌∙◌}
use Rattle.json.specs.Print.{print}
use Rattle.redl_left_texts.proofs.JsonLaws.{line_tokens, line-printed}
use Rattle.redl_left_texts.proofs.json_lines.json_line.Goals as goal

pub returns : goal.returns
returns c =
    let line = c.args.line.now in
    let before = c.in_ok-end_object.ensures.room.0 ∙ c.in_ok-put_text-3.ensures.before ∙ c.in_ok-put_text-2.ensures.before
    ∙ c.in_ok-put_text.ensures.before ∙ c.in_ok-put_number.ensures.before ∙ c.in_ok-begin_object.ensures.room.0 ∙ c.new-object.ensures.before in
    let tokens : c.end_object.new.self.tokens ≡ line_tokens line =
    rw (
      c.in_ok-end_object.ensures.ok,
      c.in_ok-put_text-3.ensures.written,
      c.in_ok-put_text-2.ensures.written,
      c.in_ok-put_text.ensures.written,
      c.in_ok-put_number.ensures.written,
      c.in_ok-begin_object.ensures.ok,
      c.new-object.ensures.tokens,
    ) (search rules) in
    c.into_inner.ensures.items
    ∙ ap (λ (front : List ℕ). front ++ print c.end_object.new.self.tokens) before
    ∙ ap (λ ts. c.args.front.items ++ print ts) tokens
    ∙ ap (λ (text : List ℕ). c.args.front.items ++ text) (line-printed line)
