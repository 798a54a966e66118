use Rattle.std.proofs.Common.{◌≡◌, Bool, false, List, ◌++◌, drop, All}
use Rattle.redl_excerpts.specs.Details.{IsDetail}
use Rattle.redl_listing.specs.Rows.{listed_rows, shown_rows, told_rows}
use Rattle.redl_listing.specs.declared.row.Row.{Row}
use Rattle.redl_listing.proofs.listing.add_rows.Given as goal

-- the rows so far and those of the rest are all of them
abbrev pub invariant-loop-place : goal.invariant-loop-place
invariant-loop-place g l = record {
  is_open : (goal.RowFormat-dyn g (l.format.vtable, l.format.value)).is_closed l.format.value ≡ false;
  details : All IsDetail l.details.items;
  rows : (goal.RowFormat-dyn g (l.format.vtable, l.format.value)).rows_so_far l.format.value ++ shown_rows (drop l.place l.listed.shown.now) (told_rows l.listed.parts.now (drop l.place l.listed.index.now) (drop l.place l.listed.verdicts.now) (drop l.place l.details.items))
      ≡ (goal.RowFormat-dyn g (l.fn.format.vtable, l.fn.format.value)).rows_so_far l.fn.format.value ++ listed_rows l.listed l.fn.details.items;
  same_format : (rows : List Row) (closed : Bool)
      → (goal.RowFormat-dyn g (l.format.vtable, l.format.value)).text_for l.format.value rows closed
      ≡ (goal.RowFormat-dyn g (l.fn.format.vtable, l.fn.format.value)).text_for l.fn.format.value rows closed;
}
