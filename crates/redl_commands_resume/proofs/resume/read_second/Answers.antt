use Rattle.redl_commands_resume.proofs.ResumeLaws.{reads_second, reads_second_ok}
use Rattle.redl_inputs.specs.Packages.{package_in}
use Rattle.redl_lines.specs.Failures.{failure_view}
use Rattle.redl_commands_resume.proofs.resume.read_second.Goals as goal

pub returns-in-Ok-clause-read : goal.returns-in-Ok-clause-read
returns-in-Ok-clause-read c = reads_second_ok c.in-Ok.package (λ reader. package_in reader c.args.whole.now) (rw c.in-Ok.is at c.read_package.ensures.read)

pub returns-in-Err-clause-read : goal.returns-in-Err-clause-read
returns-in-Err-clause-read c =
    rw c.second_failure.ensures (reads_second (failure_view c.in-Err.failure) (λ reader. package_in reader c.args.whole.now) (rw c.in-Err.is at c.read_package.ensures.read))
