-- The chosen format is one of the list, so it is open and has no row. Without details and with all rows shown, the rows are those of all revisions.
use Rattle.std.proofs.Common.{◌≡◌, [], false, refl, sym, ◌∙◌}
use Rattle.redl_formats.proofs.NameLaws.{named_has, nothing_named}
use Rattle.redl_listing.specs.Rows.{rows_of}
use Rattle.redl_listing.proofs.RowLaws.{shown_rows-all}
use Rattle.redl_listing.proofs.listing.list.Goals as goal

pub list_in-requires-clause-fresh : goal.list_in-requires-clause-fresh
list_in-requires-clause-fresh g c =
    named_has (λ b. ((goal.RowFormat-dyn g (b.vtable, b.value)).is_closed b.value ≡ false) × ((goal.RowFormat-dyn g (b.vtable, b.value)).rows_so_far b.value ≡ [])) (λ b. (goal.RowFormat-dyn g (b.vtable, b.value)).format_name b.value) c.args.name.now c.args.formats.now.items c.in-Some.format c.requires.fresh c.in-Some.ensures.found

pub returns-clause-listed : goal.returns-clause-listed
returns-clause-listed g c =
    rw (← c.in-Some.ensures.found) (refl, rw (c.new.ensures.items, shown_rows-all (rows_of c.args.pkg_names.now c.args.index.now c.args.verdicts.now)) at c.in_ok-list_in.ensures.listed)

pub returns-in_default-clause-unchanged : goal.returns-in_default-clause-unchanged
returns-in_default-clause-unchanged g c =
    λ absent. c.take_named.ensures.left ∙ nothing_named (λ b. (goal.RowFormat-dyn g (b.vtable, b.value)).format_name b.value) c.args.name.now c.args.formats.now.items (sym c.in_default.ensures.found)
