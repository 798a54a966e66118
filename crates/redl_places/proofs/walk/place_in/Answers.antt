-- Inside a note.
use Rattle.std.proofs.Common.{◌∙◌, List, ℕ, ap, codes, sym}
use Rattle.redl_order.specs.Values.{value_in}
use Rattle.redl_tree.specs.Model.View.{tag_of}
use Rattle.redl_places.specs.Places.{Signs}
use Rattle.redl_places.specs.Views.{signs_of}
use Rattle.redl_places.proofs.WalkLaws.{in-endnote, in-footnote}
use Rattle.redl_places.proofs.walk.place_in.Goals as goal

pub returns-then-is_word-5 : goal.returns-then-is_word-5
returns-then-is_word-5 c =
    let signs : Signs = signs_of c.args.signs.now in
    in-footnote signs c.args.here (tag_of c.args.elem.now) c.footnote.result
    (sym c.is_word.ensures ∙ c.if-is_word.false) (sym c.is_word-2.ensures ∙ c.if-is_word-2.false) (sym c.is_word-3.ensures ∙ c.if-is_word-3.false)
    (sym c.is_word-4.ensures ∙ c.if-is_word-4.false) (sym c.is_word-5.ensures ∙ c.if-is_word-5.true)
    (c.footnote.ensures ∙ ap (λ (id : List ℕ). signs.footnote id) (c.value_in.ensures ∙ ap (λ (tail : List ℕ). value_in tail (codes "id")) c.tail.ensures))

pub returns-then-is_word-6 : goal.returns-then-is_word-6
returns-then-is_word-6 c =
    let signs : Signs = signs_of c.args.signs.now in
    in-endnote signs c.args.here (tag_of c.args.elem.now) c.endnote.result
    (sym c.is_word.ensures ∙ c.if-is_word.false) (sym c.is_word-2.ensures ∙ c.if-is_word-2.false) (sym c.is_word-3.ensures ∙ c.if-is_word-3.false)
    (sym c.is_word-4.ensures ∙ c.if-is_word-4.false) (sym c.is_word-5.ensures ∙ c.if-is_word-5.false) (sym c.is_word-6.ensures ∙ c.if-is_word-6.true)
    (c.endnote.ensures ∙ ap (λ (id : List ℕ). signs.endnote id) (c.value_in-then-is_word-6.ensures ∙ ap (λ (tail : List ℕ). value_in tail (codes "id")) c.tail-then-is_word-6.ensures))
