-- The tokens of the row's object, one after another.
use Rattle.std.proofs.Common.{◌≡◌, ◌++◌, ◌∷◌, List, ℕ, ap, ◌∙◌, codes}
use Rattle.std.specs.List.{flat_map}
use Rattle.json.specs.Print.{print}
use Rattle.json.specs.Token.{begin_object, end_object, begin_array, end_array, key, string}
use Rattle.redl_listing.specs.Full.{front_tokens, said_tokens}
use Rattle.redl_formats.specs.Fields.{verdict_name}
use Rattle.redl_places.specs.Texts.{place_text}
use Rattle.redl_listing.proofs.FullLaws.{full_tokens, full-printed, row_more, whole_more}
use Rattle.redl_listing.proofs.full_rows.full_row.Goals as goal

pub returns : goal.returns
returns c =
    let row = c.args.row.now in
    let before = c.in_ok-end_object.ensures.room.0 ∙ c.in_ok-put_text-3.ensures.before ∙ c.in_ok-put_text-2.ensures.before ∙ c.in_ok-put_says.ensures.before
    ∙ c.in_ok-put_text.ensures.before ∙ c.in_ok-put_front.ensures.before ∙ c.in_ok-begin_object.ensures.room.0 ∙ c.new-object.ensures.before in
    let tokens : c.end_object.new.self.tokens ≡ full_tokens row =
    rw (
      c.in_ok-end_object.ensures.ok,
      c.in_ok-put_text-3.ensures.written,
      c.in_ok-put_text-2.ensures.written,
      c.in_ok-put_says.ensures.written,
      c.in_ok-put_text.ensures.written,
      c.in_ok-put_front.ensures.written,
      c.in_ok-begin_object.ensures.ok,
      c.new-object.ensures.tokens,
      c.words.ensures,
      c.as_bytes-2.ensures.value,
      c.verdict_name.ensures,
      c.as_bytes-3.ensures,
      c.as_bytes.ensures,
      c.in_ok-place.ensures.value,
    )
    (whole_more (begin_object ∷ front_tokens row) (flat_map said_tokens row.detail.says) (key (codes "place")) (string (place_text row.detail.place)) (key (codes "says")) begin_array end_array (key (codes "verdict")) (string (verdict_name row.verdict)) (key (codes "words")) (string row.detail.words) end_object
    ∙ row_more row) in
    c.into_inner.ensures.items
    ∙ ap (λ (front : List ℕ). front ++ print c.end_object.new.self.tokens) before
    ∙ ap (λ ts. c.args.piece.items ++ print ts) tokens
    ∙ ap (λ (text : List ℕ). c.args.piece.items ++ text) (full-printed row)
