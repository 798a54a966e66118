use Rattle.std.proofs.Common.{◌≡◌, map, take}
use Rattle.redl_comments.specs.Threads.{is_said_done, parent_of}
use Rattle.redl_comments.proofs.thread.threads_of.Given as goal

-- what is said of the comments so far
abbrev pub invariant-loop-comment : goal.invariant-loop-comment
invariant-loop-comment l = record {
  parents : l.parents.items ≡ map (parent_of l.comments l.states) (take l.comment-index l.comments);
  done : l.done.items ≡ map (is_said_done l.states) (take l.comment-index l.comments);
}
