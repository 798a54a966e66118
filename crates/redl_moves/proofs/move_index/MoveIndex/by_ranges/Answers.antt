use Rattle.std.proofs.Common.{◌∙◌, ap, None, List, map}
use Rattle.redl_moves.specs.Marks.{markings, move_of}
use Rattle.redl_moves.specs.Inside.Owners.{owner_over}
use Rattle.redl_moves.specs.declared.marker.Move.{Move}
use Rattle.redl_moves.proofs.StoryLaws.{index-is}
use Rattle.redl_moves.proofs.move_index.MoveIndex.by_ranges.Goals as goal

pub returns : goal.returns
returns c =
    let marks = markings c.args.marks.now in
    index-is marks c.requires.rising _ c.in_ok-open_moves.ensures c.in_ok-open_moves-2.ensures
    (λ at. c.in_ok-owners.ensures at
    ∙ ap (λ (ms : List Move). owner_over marks at None (map move_of ms)) c.deref.ensures.value
    ∙ ap (owner_over marks at None) c.in_ok-moves.ensures)
