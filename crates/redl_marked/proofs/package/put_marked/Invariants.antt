use Rattle.redl_io.proofs.Puts.{PutsSoFar}
use Rattle.redl_marked.specs.MarkedText.{marked_text, stories_marked}
use Rattle.redl_marked.proofs.StoryLaws.{named_from}
use Rattle.redl_marked.proofs.package.put_marked.Given as goal

abbrev pub invariant-loop-part : goal.invariant-loop-part
invariant-loop-part g l =
    PutsSoFar g.K.Sink.told g.K.Sink.faults g.K.Sink.settled g.K.Sink.lenders l.initial.out l.out
    (marked_text l.pkg) (stories_marked l.last (named_from l.part l.pkg))
