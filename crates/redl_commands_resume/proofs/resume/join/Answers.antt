use Rattle.std.proofs.Common.{map}
use Rattle.redl_inputs.specs.Views.{admission_view}
use Rattle.redl_commands_resume.proofs.ResumeLaws.{joined_is}
use Rattle.redl_commands_resume.proofs.resume.join.Goals as goal

pub returns : goal.returns
returns c =
    joined_is c.args.decided (map (λ part. part.items) c.args.numbers.now) (admission_view c.args.second) c.in_ok-book.book c.in_ok-text.text.items
    c.in_ok-book.ensures c.in_ok-text.ensures
