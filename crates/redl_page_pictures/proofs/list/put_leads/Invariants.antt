use Rattle.std.proofs.Common.{drop}
use Rattle.std.specs.List.{flat_map}
use Rattle.redl_io.proofs.Puts.{PutsSoFar}
use Rattle.redl_html.specs.Pieces.{pieces_text}
use Rattle.redl_page_pictures.specs.List.{lead_item}
use Rattle.redl_page_pictures.proofs.list.put_leads.Given as goal

abbrev pub invariant-loop-lead : goal.invariant-loop-lead
invariant-loop-lead g l =
    PutsSoFar g.K.Sink.told g.K.Sink.faults g.K.Sink.settled g.K.Sink.lenders l.initial.out l.out
    (pieces_text (flat_map lead_item l.leads)) (pieces_text (flat_map lead_item (drop l.lead-index l.leads)))
