use Rattle.std.proofs.Common.{◌≡◌, take}
use Rattle.redl_comments.specs.Threads.{last_paragraphs}
use Rattle.redl_comments.proofs.thread.last_paragraphs.Given as goal

abbrev pub invariant-loop-comment : goal.invariant-loop-comment
invariant-loop-comment l = l.keys.items ≡ last_paragraphs (take l.comment-index l.comments)
