use Rattle.std.proofs.Common.{drop}
use Rattle.redl_io.proofs.Puts.{PutsSoFar}
use Rattle.redl_opc.specs.Shape.{parts_of}
use Rattle.redl_shown.specs.Shown.{shown}
use Rattle.redl_page_stories.specs.Document.{sections}
use Rattle.redl_html.specs.Pieces.{pieces_text}
use Rattle.redl_page_stories.specs.Views.{facts_of}
use Rattle.redl_page_stories.proofs.sections.put_sections.Given as goal

abbrev pub invariant-loop-part : goal.invariant-loop-part
invariant-loop-part g l =
    PutsSoFar g.K.Sink.told g.K.Sink.faults g.K.Sink.settled g.K.Sink.lenders l.initial.out l.out
    (pieces_text (sections shown (facts_of l.facts) l.documents l.documents (parts_of l.pkg))) (pieces_text (sections shown (facts_of l.facts) l.documents l.first (drop l.part (parts_of l.pkg))))
