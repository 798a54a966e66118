use Rattle.std.proofs.Common.{◌∙◌, sym, ap, arith}
use Rattle.redl_moves.specs.Marks.{markings, edge_of}
use Rattle.redl_moves.specs.Keys.{has_key}
use Rattle.redl_moves.specs.Places.{places_from}
use Rattle.redl_moves.specs.Inside.MarkerIndexes.{at_key, one_place, noted_all}
use Rattle.redl_moves.specs.declared.marker.Marker.{Marker}
use Rattle.std.proofs.Common.{List}
use Rattle.redl_moves.proofs.MarkerIndexLaws.{noted-only_one, drop-past}
use Rattle.redl_moves.proofs.marker_index.MarkerIndex.of.Goals as goal

pub returns : goal.returns
returns c = λ key.
    let test = has_key c.args.by (edge_of c.args.edge) key in
    let had = at_key c.loop-place.index key in
    sym (ap (λ (ms : List Marker). one_place (noted_all had (places_from c.loop-place.place test (markings ms)))) (drop-past c.loop-place.place c.args.marks.now (omega (arith, c.loop-place-test.false))))
    ∙ ap one_place (c.loop-place.invariant key)
    ∙ noted-only_one (places_from 0 test (markings c.args.marks.now))
