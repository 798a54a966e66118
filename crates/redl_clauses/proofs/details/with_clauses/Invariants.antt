use Rattle.std.proofs.Common.{◌≡◌, ◌++◌, length, All}
use Rattle.std.specs.Vec.Iter.{into_iter_items}
use Rattle.redl_excerpts.specs.Details.{IsDetail}
use Rattle.redl_clauses.specs.Clauses.{clauses_from}
use Rattle.redl_clauses.proofs.details.with_clauses.Given as goal

-- the details so far, and those that are left
abbrev pub invariant-loop-detail : goal.invariant-loop-detail
invariant-loop-detail l = record {
  all : l.numbered.items ++ clauses_from (length l.numbered.items) (into_iter_items l.detail-iterator) l.told ≡ clauses_from 0 l.fn.details.items l.told;
  utf8 : All IsDetail l.numbered.items;
  left : All IsDetail (into_iter_items l.detail-iterator);
}
