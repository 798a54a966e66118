use Rattle.std.proofs.Common.{◌∙◌, ap, sym, subst, All, IsUtf8}
use Rattle.std.proofs.lemmas.Result.{err_from_is_err_and}
use Rattle.redl_commands_list.proofs.PartNameLaws.{session_names, revisions_named}
use Rattle.redl_inputs.proofs.ReadLaws.{fails_alone, reads_stops, reads_then_takes, takes_stops_reads, takes_then_reads}
use Rattle.redl_inputs.specs.Admission.{opened_over}
use Rattle.redl_inputs.specs.Asking.{files_within}
use Rattle.redl_io.specs.Limits.{journal_bytes}
use Rattle.redl_commands_shown.specs.List.{listing_named, part_names}
use Rattle.redl_commands_shown.specs.Formats.{formats_by}
use Rattle.redl_words.specs.Views.{onlys_view}
use Rattle.redl_commands_list.proofs.list.list_package.Goals as goal

pub returns-in_err-package-clause-read : goal.returns-in_err-package-clause-read
returns-in_err-package-clause-read g c =
    let p = err_from_is_err_and c.from_residual.result c.from_residual.ensures.1 in
    let journals = c.args.command.now.journals.items in
    let formats = formats_by (λ b. (goal.RowFormat-dyn g (b.vtable, b.value)).format_name b.value) (λ b. (goal.RowFormat-dyn g (b.vtable, b.value)).text_for b.value) c.args.formats.now.items in
    rw (p.1, p.2) (reads_stops (λ admission reader files. listing_named formats c.args.command.now.format (onlys_view c.args.command.now.only.items) admission)
    (takes_stops_reads (λ nodes reader files. opened_over reader files c.args.command.now.locks.items journals c.args.bytes.now nodes) _ (files_within journal_bytes journals) c.in_err-package.ensures.read))

pub returns-in_err-parts-clause-read : goal.returns-in_err-parts-clause-read
returns-in_err-parts-clause-read g c =
    let p = err_from_is_err_and c.from_residual-in_err-parts.result c.from_residual-in_err-parts.ensures.1 in
    rw (p.1, p.2) (fails_alone _ (files_within journal_bytes c.args.command.now.journals.items) tt (λ reader files is. tt))

pub returns-in_err-admitted-clause-read : goal.returns-in_err-admitted-clause-read
returns-in_err-admitted-clause-read g c =
    let p = err_from_is_err_and c.from_residual-in_err-admitted.result c.from_residual-in_err-admitted.ensures.1 in
    let formats = formats_by (λ b. (goal.RowFormat-dyn g (b.vtable, b.value)).format_name b.value) (λ b. (goal.RowFormat-dyn g (b.vtable, b.value)).text_for b.value) c.args.formats.now.items in
    rw (p.1, p.2) (reads_stops (λ admission reader files. listing_named formats c.args.command.now.format (onlys_view c.args.command.now.only.items) admission)
    (takes_then_reads (λ nodes reader files. opened_over reader files c.args.command.now.locks.items c.args.command.now.journals.items c.args.bytes.now nodes)
    c.in_ok-package.ensures.read (rw (c.deref.ensures.value, c.deref-2.ensures.value) at c.in_err-admitted.ensures.read)))

pub returns-clause-read : goal.returns-clause-read
returns-clause-read g c =
    let formats = formats_by (λ b. (goal.RowFormat-dyn g (b.vtable, b.value)).format_name b.value) (λ b. (goal.RowFormat-dyn g (b.vtable, b.value)).text_for b.value) c.args.formats.now.items in
    reads_then_takes (λ admission reader. listing_named formats c.args.command.now.format (onlys_view c.args.command.now.only.items) admission)
    (takes_then_reads (λ nodes reader files. opened_over reader files c.args.command.now.locks.items c.args.command.now.journals.items c.args.bytes.now nodes)
    c.in_ok-package.ensures.read (rw (c.deref.ensures.value, c.deref-2.ensures.value) at c.in_ok-admitted.ensures.read))
    c.list_revisions.ensures.read

pub list_revisions-requires-clause-names : goal.list_revisions-requires-clause-names
list_revisions-requires-clause-names g c =
    session_names c.in_ok-package.«package» c.in_ok-admitted.admitted.session.nodes c.deref-3.result.now (c.deref-3.ensures.value ∙ c.in_ok-parts.ensures.names ∙ ap part_names c.package-2.ensures) c.in_ok-admitted.ensures.nodes

pub list_revisions-requires-clause-parts : goal.list_revisions-requires-clause-parts
list_revisions-requires-clause-parts g c =
    revisions_named c.in_ok-package.«package» c.deref-3.result.now c.in_ok-admitted.admitted.session.revisions (c.deref-3.ensures.value ∙ c.in_ok-parts.ensures.names ∙ ap part_names c.package-2.ensures) c.in_ok-admitted.ensures.revisions

pub list_revisions-requires-clause-utf8 : goal.list_revisions-requires-clause-utf8
list_revisions-requires-clause-utf8 g c = subst (All IsUtf8) (sym c.deref-3.ensures.value) c.in_ok-parts.ensures.utf8
