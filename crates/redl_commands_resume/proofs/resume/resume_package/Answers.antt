use Rattle.std.proofs.Common.{◌∷◌, Err}
use Rattle.std.proofs.lemmas.Result.{err_from_is_err_and}
use Rattle.redl_commands_shown.specs.Resume.{resumed, resumption, second_sitting}
use Rattle.redl_commands_resume.specs.Inside.FirstSittings.{IsReadAgain}
use Rattle.redl_inputs.proofs.AskLaws.{within_behind}
use Rattle.redl_inputs.proofs.ReadLaws.{reads_after, reads_before, reads_then, reads_stops, reads_within, takes_stops_reads, takes_then_reads}
use Rattle.redl_inputs.specs.Admission.{sitting_over}
use Rattle.redl_inputs.specs.Asking.{file_within, files_within}
use Rattle.redl_inputs.specs.Steps.{◌>>=◌}
use Rattle.redl_inputs.specs.Views.{admission_view}
use Rattle.redl_io.specs.Limits.{journal_bytes, package_bytes}
use Rattle.redl_lines.specs.Failures.{no_memory}
use Rattle.redl_commands_resume.proofs.resume.resume_package.Goals as goal

pub returns-in_err-package : goal.returns-in_err-package
returns-in_err-package g c =
    let p = err_from_is_err_and c.from_residual.result c.from_residual.ensures.1 in
    let firsts = c.args.command.now.firsts.items in
    rw (p.1, p.2) (reads_before (file_within package_bytes c.args.command.now.second ∷ files_within journal_bytes c.args.command.now.journals.items) (reads_stops (λ one reader files. second_sitting reader files c.args.command.now.second c.args.command.now.journals.items one >>= (λ two. resumption one.0 two.0))
    (takes_stops_reads (λ nodes reader files. sitting_over reader files journal_bytes firsts c.args.bytes.now nodes) _ (files_within journal_bytes firsts) c.in_err-package.ensures.read)))

pub returns-in_err-admitted : goal.returns-in_err-admitted
returns-in_err-admitted g c =
    let p = err_from_is_err_and c.from_residual-in_err-admitted.result c.from_residual-in_err-admitted.ensures.1 in
    let firsts = c.args.command.now.firsts.items in
    rw (p.1, p.2) (reads_before (file_within package_bytes c.args.command.now.second ∷ files_within journal_bytes c.args.command.now.journals.items) (reads_stops (λ one reader files. second_sitting reader files c.args.command.now.second c.args.command.now.journals.items one >>= (λ two. resumption one.0 two.0))
    (takes_then_reads (λ nodes reader files. sitting_over reader files journal_bytes firsts c.args.bytes.now nodes) c.in_ok-package.ensures.read (rw c.deref.ensures.value at c.in_err-admitted.ensures.read))))

pub returns-in_err-first : goal.returns-in_err-first
returns-in_err-first g c =
    let p = err_from_is_err_and c.from_residual-in_err-first.result c.from_residual-in_err-first.ensures.1 in
    let firsts = c.args.command.now.firsts.items in
    rw (p.1, p.2) (reads_before (file_within package_bytes c.args.command.now.second ∷ files_within journal_bytes c.args.command.now.journals.items)
    (reads_after (Err no_memory) (λ reader files. resumed reader files c.args.command.now.second firsts c.args.command.now.journals.items c.args.bytes.now)
    (takes_then_reads (λ nodes reader files. sitting_over reader files journal_bytes firsts c.args.bytes.now nodes) c.in_ok-package.ensures.read (rw c.deref.ensures.value at c.in_ok-admitted.ensures.read))
    tt (λ reader files is read. tt)))

pub returns : goal.returns
returns g c =
    let firsts = c.args.command.now.firsts.items in
    let again : IsReadAgain c.args.bytes.now (admission_view c.in_ok-admitted.admitted) = record {
      nodes = c.in_ok-package.package;
      read = λ reader is. c.in_ok-package.ensures.read.as_due reader is;
      numbered = c.in_ok-admitted.ensures.nodes;
      revisions = c.in_ok-admitted.ensures.revisions;
    } in
    reads_then (λ one reader files. second_sitting reader files c.args.command.now.second c.args.command.now.journals.items one >>= (λ two. resumption one.0 two.0))
    (takes_then_reads (λ nodes reader files. sitting_over reader files journal_bytes firsts c.args.bytes.now nodes) c.in_ok-package.ensures.read (rw c.deref.ensures.value at c.in_ok-admitted.ensures.read))
    (reads_within (file_within package_bytes c.args.command.now.second ∷ files_within c.in_ok-admitted.left c.args.command.now.journals.items) (file_within package_bytes c.args.command.now.second ∷ files_within journal_bytes c.args.command.now.journals.items)
    (within_behind {left = c.in_ok-admitted.left} {most = journal_bytes} (file_within package_bytes c.args.command.now.second) c.args.command.now.journals.items c.in_ok-admitted.ensures.within)
    (rw (c.name_of.ensures, c.deref-2.ensures.value) at (c.resume_on.ensures (admission_view c.in_ok-admitted.admitted) c.in_ok-first.ensures.first again c.in_ok-first.ensures.text)))
