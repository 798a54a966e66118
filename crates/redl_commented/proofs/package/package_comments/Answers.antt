-- Its comments are those of the definition, and so are their threads.
use Rattle.std.proofs.Common.{◌≡◌, ◌∙◌, ◌+◌, ap, List, Some}
use Rattle.redl_comments.specs.Comments.{comments_of}
use Rattle.redl_comments.specs.Threads.{Threads, package_threads, threads_of}
use Rattle.redl_comments.specs.declared.comment.Comment.{Comment}
use Rattle.redl_commented.specs.Package.{remarks_among}
use Rattle.redl_commented.proofs.package.package_comments.Goals as goal

pub returns-clause-on : goal.returns-clause-on
returns-clause-on c = λ k less.
    let pkg = c.args.pkg.now in
    let threads : c.in_ok-threads.threads ≡ package_threads pkg =
    c.in_ok-threads.ensures ∙ ap (λ (cs : List Comment). threads_of cs c.deref-2.result.now) (c.deref.ensures.value ∙ c.in_ok-comments.ensures)
    ∙ ap (threads_of (comments_of pkg)) (c.deref-2.ensures.value ∙ c.in_ok-states.ensures) in
    c.in_ok-on.ensures k less
    ∙ ap (λ (cs : List Comment). Some (remarks_among pkg cs c.in_ok-threads.threads (k + 1))) (c.deref-3.ensures.value ∙ c.in_ok-comments.ensures)
    ∙ ap (λ (ts : Threads). Some (remarks_among pkg (comments_of pkg) ts (k + 1))) threads
