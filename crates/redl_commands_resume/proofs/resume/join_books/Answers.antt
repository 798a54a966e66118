use Rattle.std.proofs.Common.{length, map, ap, ◌∙◌}
use Rattle.redl_sittings.specs.SecondNumbers.{part_numbers}
use Rattle.redl_commands_resume.proofs.ResumeLaws.{joined_book_is}
use Rattle.redl_commands_resume.proofs.resume.join_books.Goals as goal

pub returns : goal.returns
returns c =
    joined_book_is c.args.decided c.args.session.now.book _ (map (λ part. part.items) c.args.numbers.now) (map (λ part. part.items) c.in_ok-seconds.seconds.items)
    c.args.session.now.nodes c.count.result (length c.args.session.now.revisions) c.in_ok-back.back.items
    (c.in_ok-seconds.ensures ∙ ap part_numbers (c.nodes.ensures.nodes ∙ c.package.ensures)) (c.count.ensures ∙ ap length c.index.ensures)
    (rw c.deref.ensures.value at c.in_ok-back.ensures) (rw (c.book.ensures, c.deref-2.ensures.value) at c.in_ok-add_second.ensures)
