use Rattle.std.proofs.Common.{◌≡◌, ◌++◌, length, All}
use Rattle.std.specs.Vec.Iter.{into_iter_items}
use Rattle.redl_excerpts.specs.Details.{IsDetail}
use Rattle.redl_remarks.specs.Remarked.{edited_from}
use Rattle.redl_remarks.proofs.edited.with_edits.Given as goal

-- the details so far, and those that are left
abbrev pub invariant-loop-detail : goal.invariant-loop-detail
invariant-loop-detail l = record {
  all : l.all.items ++ edited_from l.edits l.hidden (length l.all.items) (into_iter_items l.detail-iterator) ≡ edited_from l.edits l.hidden 0 l.fn.details.items;
  utf8 : All IsDetail l.all.items;
  left : All IsDetail (into_iter_items l.detail-iterator);
}
