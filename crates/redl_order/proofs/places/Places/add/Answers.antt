use Rattle.std.proofs.Common.{[], ◌∷◌, ◌++◌, ◌∙◌, ap, codes, Some, Vec, Global, map, sym, List, bytes_eq, if◌then◌else◌}
use Rattle.std.specs.Option.{option_map_or}
use Rattle.std.proofs.lemmas.List.{map-append}
use Rattle.std.proofs.lemmas.Map.Text.{btree_map_updates_str}
use Rattle.redl_tree.specs.Model.View.{Element}
use Rattle.redl_opc.specs.Elements.{element_of}
use Rattle.redl_order.specs.Borrowed.{borrowed, all_borrowed}
use Rattle.redl_order.specs.Inside.Places.{held, notes_at}
use Rattle.redl_order.specs.Values.{value_in}
use Rattle.redl_order.proofs.IdLaws.{after_change, one_more}
use Rattle.redl_order.proofs.places.Places.add.Goals as goal

pub returns : goal.returns
returns c = λ other.
    let id = c.value_in-id.result.now in
    let left = c.take-others.new.self in
    let whole = c.push.new.self in
    let has = ap all_borrowed c.in_ok-push.ensures.items ∙ map-append borrowed c.take-others.result.items (c.args.note ∷ []) ∙ ap (λ (es : List Element). es ++ (element_of c.args.note.now ∷ [])) c.take-others.ensures.taken in
    one_more id other (element_of c.args.note.now) (notes_at c.args.self.now) (notes_at left other) _
    (c.value_in-id.ensures ∙ ap (λ tail. value_in tail (codes "id")) c.tail.ensures)
    (c.take-others.ensures.left other)
    (ap (λ found. option_map_or held found []) (btree_map_updates_str id left.notes c.insert.new.self (Some whole) c.in_ok-insert.ensures.updates other)
    ∙ after_change held (bytes_eq id other) (Some whole) _
    ∙ ap (λ (es : List Element). if bytes_eq id other then es else notes_at left other) has)
