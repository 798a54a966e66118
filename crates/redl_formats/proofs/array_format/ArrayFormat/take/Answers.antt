-- The array has one item more.
use Rattle.std.proofs.Common.{◌∙◌, ap, refl}
use Rattle.redl_formats.specs.Formats.{Given, comma_after}
use Rattle.redl_formats.proofs.ArrayLaws.{draft-more}
use Rattle.redl_formats.proofs.array_format.ArrayFormat.take.Goals as goal

pub invariant_of-self-2 : goal.invariant_of-self-2
invariant_of-self-2 g c =
    let is_open = ap (λ (format : Given g.row.I.Denot). format.closed) c.self.view_is ∙ c.requires.open in
    draft-more g.P.ItemText.piece_of c.self.inside.draft.items.items c.add.new.self.items.items c.args.item c.args.item c.self.inside.draft.closed c.add.new.self.closed
    c.self.inside.draft.text c.add.new.self.text c.deref-2.result.now c.in_ok-front.front.items
    is_open c.in_ok-add.ensures.closed refl c.self.invariant c.in_ok-add.ensures.items c.in_ok-add.ensures.text
    (c.in_ok-front.ensures ∙ ap (λ xs. comma_after xs) c.deref.ensures.value) (c.deref-2.ensures.value ∙ c.in_ok-piece.ensures) c.in_ok-add.ensures.room
