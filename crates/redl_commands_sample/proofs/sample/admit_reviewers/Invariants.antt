use Rattle.std.proofs.Common.{◌≡◌}
use Rattle.redl_commands_sample.proofs.SampleLaws.{first_entries}
use Rattle.redl_session.specs.Sessions.{after}
use Rattle.redl_commands_sample.proofs.sample.admit_reviewers.Given as goal

-- the entries of the reviewers so far are admitted
abbrev pub invariant-loop-reviewer : goal.invariant-loop-reviewer
invariant-loop-reviewer l = l.session ≡ after l.fn.session (first_entries l.number l.reviewer)
