use Rattle.std.proofs.Common.{◌≡◌, take}
use Rattle.redl_comments.specs.Threads.{state_paragraphs}
use Rattle.redl_comments.proofs.thread.state_paragraphs.Given as goal

abbrev pub invariant-loop-state : goal.invariant-loop-state
invariant-loop-state l = l.keys.items ≡ state_paragraphs (take l.state-index l.states)
