use Rattle.std.proofs.Common.{filter, length}
use Rattle.redl_io.proofs.Puts.{PutsSoFar}
use Rattle.redl_html.specs.Escaping.{escaped}
use Rattle.redl_page_pictures.specs.List.{is_base64}
use Rattle.redl_page_pictures.proofs.base64.put_base64.Given as goal

abbrev pub invariant-loop-first : goal.invariant-loop-first
invariant-loop-first g l =
    PutsSoFar g.K.Sink.told g.K.Sink.faults g.K.Sink.settled g.K.Sink.lenders l.initial.out l.out (escaped (filter is_base64 l.data)) (escaped (filter is_base64 l.left))

abbrev pub decreases-loop-first : goal.decreases-loop-first
decreases-loop-first g l = length l.left
