use Rattle.std.proofs.Common.{drop}
use Rattle.redl_io.proofs.Puts.{PutsSoFar}
use Rattle.redl_shown.specs.Shown.{shown}
use Rattle.redl_tree.specs.Model.View.{nodes_of}
use Rattle.redl_page_stories.specs.Document.{nodes_pieces}
use Rattle.redl_html.specs.Pieces.{pieces_text}
use Rattle.redl_page_stories.specs.Views.{facts_of}
use Rattle.redl_page_stories.proofs.nodes.+nodes.Given as goal

abbrev pub invariant-put_nodes-loop-node : goal.invariant-put_nodes-loop-node
invariant-put_nodes-loop-node g l =
    PutsSoFar g.K.Sink.told g.K.Sink.faults g.K.Sink.settled g.K.Sink.lenders l.initial.out l.out
    (pieces_text (nodes_pieces shown (facts_of l.facts) l.place (nodes_of l.nodes))) (pieces_text (nodes_pieces shown (facts_of l.facts) l.place (nodes_of (drop l.node-index l.nodes))))
