use Rattle.std.proofs.Common.{refl}
use Rattle.redl_outcome.proofs.WordLaws.{ends_when, ends_unread}
use Rattle.redl_app.proofs.top.end_of_words.Goals as goal

pub end_of_command-requires-clause-utf8 : goal.end_of_command-requires-clause-utf8
end_of_command-requires-clause-utf8 g c = rw c.in-Ok.is at c.requires.utf8

pub returns-in-Ok-clause-ends : goal.returns-in-Ok-clause-ends
returns-in-Ok-clause-ends g c = rw c.in-Ok.is (λ due wanted. ends_when due wanted c.end_of_command.ensures.ends)

pub returns-in-Err-clause-ends : goal.returns-in-Err-clause-ends
returns-in-Err-clause-ends g c = rw (c.in-Err.is, c.end_without_words.ensures) (λ due wanted. ends_unread (g.B.Brings.brought c.args.brings.now) _ _ c.in-Err.error due wanted)

pub returns-in-Err-clause-words : goal.returns-in-Err-clause-words
returns-in-Err-clause-words g c = rw c.in-Err.is c.end_without_words.ensures

pub returns-in-Ok-clause-usage : goal.returns-in-Ok-clause-usage
returns-in-Ok-clause-usage g c = rw c.in-Ok.is c.end_of_command.ensures.usage

pub returns-in-Ok-clause-taken : goal.returns-in-Ok-clause-taken
returns-in-Ok-clause-taken g c = rw c.in-Ok.is c.end_of_command.ensures.taken

pub returns-in-Err-clause-no_format : goal.returns-in-Err-clause-no_format
returns-in-Err-clause-no_format g c = rw c.in-Err.is refl

pub returns-in-Ok-clause-taken_report : goal.returns-in-Ok-clause-taken_report
returns-in-Ok-clause-taken_report g c = rw c.in-Ok.is c.end_of_command.ensures.taken_report

pub returns-in-Err-clause-no_report : goal.returns-in-Err-clause-no_report
returns-in-Err-clause-no_report g c = rw c.in-Err.is refl
