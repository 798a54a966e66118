use Rattle.std.proofs.Common.{◌∙◌, ap, sym, length, inr}
use Rattle.std.proofs.lemmas.Result.{err_from_is_err_and}
use Rattle.redl_inputs.specs.Views.{admission_view}
use Rattle.redl_commands_list.proofs.FormatLaws.{leaves_written, placed, reads_listing, verdicts_for}
use Rattle.redl_words.specs.Views.{onlys_view}
use Rattle.redl_commands_list.proofs.list.list_revisions.Goals as goal

pub make_listing-requires-clause-verdicts : goal.make_listing-requires-clause-verdicts
make_listing-requires-clause-verdicts g c =
    let state = (admission_view c.args.admitted).state in
    verdicts_for state.book (length state.revisions) c.in_ok-told.told.verdicts.items c.in_ok-told.ensures.verdicts ∙ sym (ap length c.in_ok-told.ensures.index)

pub make_listing-requires-clause-within : goal.make_listing-requires-clause-within
make_listing-requires-clause-within g c = (placed (λ b. (goal.RowFormat-dyn g (b.vtable, b.value)).format_name b.value) c.args.command.now.format c.args.formats.now.items c.args.place c.requires.place).within

pub returns-in_err-made-clause-formats : goal.returns-in_err-made-clause-formats
returns-in_err-made-clause-formats g c =
    let p = err_from_is_err_and c.from_residual-in_err-made.result c.from_residual-in_err-made.ensures.1 in
    rw (p.1, p.2) (inr (c.make_listing.ensures.taken ∙ (placed (λ b. (goal.RowFormat-dyn g (b.vtable, b.value)).format_name b.value) c.args.command.now.format c.args.formats.now.items c.args.place c.requires.place).others))

pub returns-clause-formats : goal.returns-clause-formats
returns-clause-formats g c =
    leaves_written _ _ _ _ (c.make_listing.ensures.taken ∙ (placed (λ b. (goal.RowFormat-dyn g (b.vtable, b.value)).format_name b.value) c.args.command.now.format c.args.formats.now.items c.args.place c.requires.place).others)

pub returns-clause-read : goal.returns-clause-read
returns-clause-read g c =
    let wanted = onlys_view c.args.command.now.only.items in
    let told = c.in_ok-told.told in
    let shown = rw c.deref.ensures.value at c.in_ok-told.ensures.shown in
    let details = rw (c.name_of.ensures, c.deref.ensures.value) at c.in_ok-told.ensures.details in
    reads_listing (λ b. (goal.RowFormat-dyn g (b.vtable, b.value)).format_name b.value) (λ b. (goal.RowFormat-dyn g (b.vtable, b.value)).text_for b.value)
    c.args.command.now.format wanted (admission_view c.args.admitted) c.args.formats.now.items c.args.parts.now told.index told.verdicts.items told.details.items
    told.shown.items c.args.place c.in_ok-made.made.items
    c.requires.names c.in_ok-told.ensures.index c.in_ok-told.ensures.verdicts details shown c.requires.place c.in_ok-made.ensures.made
