-- What is said of the lists that `run_by` is given is said of those of the call, which went into it as they were.
use Rattle.redl_app.proofs.top.run.Goals as goal

pub returns-clause-status : goal.returns-clause-status
returns-clause-status g c = rw (c.replace.ensures.value, c.replace-2.ensures.value) at c.run_by-status.ensures.status

pub returns-clause-usage : goal.returns-clause-usage
returns-clause-usage g c = rw (c.replace.ensures.value, c.replace-2.ensures.value) at c.run_by-status.ensures.usage

pub returns-clause-only_usage : goal.returns-clause-only_usage
returns-clause-only_usage g c = rw (c.replace.ensures.value, c.replace-2.ensures.value) at c.run_by-status.ensures.only_usage

pub returns-clause-read : goal.returns-clause-read
returns-clause-read g c = rw (c.replace.ensures.value, c.replace-2.ensures.value) at c.run_by-status.ensures.read

pub returns-clause-asked : goal.returns-clause-asked
returns-clause-asked g c = rw (c.replace.ensures.value, c.replace-2.ensures.value) at c.run_by-status.ensures.asked

pub returns-clause-bytes : goal.returns-clause-bytes
returns-clause-bytes g c = rw (c.replace.ensures.value, c.replace-2.ensures.value) at c.run_by-status.ensures.bytes

pub returns-clause-left : goal.returns-clause-left
returns-clause-left g c = rw (c.replace.ensures.value, c.replace-2.ensures.value) at c.run_by-status.ensures.left

pub returns-clause-resumes : goal.returns-clause-resumes
returns-clause-resumes g c = rw (c.replace.ensures.value, c.replace-2.ensures.value) at c.run_by-status.ensures.resumes

pub returns-clause-lines : goal.returns-clause-lines
returns-clause-lines g c = rw (c.replace.ensures.value, c.replace-2.ensures.value) at c.run_by-status.ensures.lines
