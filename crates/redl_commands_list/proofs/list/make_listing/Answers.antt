-- The format at the place is open and has no row, and the copies of what is shown and decided are the same.
use Rattle.std.proofs.Common.{◌≡◌, ◌∙◌, [], false, Some, ap, length, refl, subst, sym}
use Rattle.std.proofs.lemmas.Option.{slice_get-get_or}
use Rattle.redl_commands_list.proofs.FormatLaws.{listed_same}
use Rattle.redl_commands_list.proofs.list.make_listing.Goals as goal

pub list_in-requires-clause-verdicts : goal.list_in-requires-clause-verdicts
list_in-requires-clause-verdicts g c = ap length c.deref.ensures.value ∙ c.requires.verdicts

pub list_in-requires-clause-fresh : goal.list_in-requires-clause-fresh
list_in-requires-clause-fresh g c =
    subst (λ b. ((goal.RowFormat-dyn g (b.vtable, b.value)).is_closed b.value ≡ false) × ((goal.RowFormat-dyn g (b.vtable, b.value)).rows_so_far b.value ≡ [])) (sym c.remove-format.ensures.value)
    (c.requires.fresh c.args.place c.remove-format.result c.requires.within)

pub returns-clause-made : goal.returns-clause-made
returns-clause-made g c =
    let is = slice_get-get_or c.args.formats.now.items c.args.place c.remove-format.result c.requires.within ∙ ap Some (sym c.remove-format.ensures.value) in
    listed_same (λ b. (goal.RowFormat-dyn g (b.vtable, b.value)).text_for b.value) _ c.list_in.new.made.items
    c.args.parts.now c.args.told.index c.args.told.details.items c.deref-2.ensures.value c.deref.ensures.value
    (rw is (refl, c.in_ok-list_in.ensures.listed))
