use Rattle.std.proofs.Common.{drop}
use Rattle.redl_io.proofs.Puts.{PutsSoFar}
use Rattle.redl_tree.specs.Model.View.{nodes_of}
use Rattle.redl_page_stories.specs.Document.{marks_in}
use Rattle.redl_html.specs.Pieces.{pieces_text}
use Rattle.redl_page_stories.proofs.marks.+marks.Given as goal

abbrev pub invariant-put_marks-loop-node : goal.invariant-put_marks-loop-node
invariant-put_marks-loop-node g l =
    PutsSoFar g.K.Sink.told g.K.Sink.faults g.K.Sink.settled g.K.Sink.lenders l.initial.out l.out
    (pieces_text (marks_in l.index l.depth (nodes_of l.nodes))) (pieces_text (marks_in l.index l.depth (nodes_of (drop l.node-index l.nodes))))
