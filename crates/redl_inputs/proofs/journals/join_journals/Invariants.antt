use Rattle.std.proofs.Common.{◌≡◌, ◌≤◌, drop, take}
use Rattle.redl_inputs.proofs.GatherLaws.{IsTaking}
use Rattle.redl_inputs.specs.Asking.{AsksAll, files_within}
use Rattle.redl_inputs.specs.Journals.{union_with}
use Rattle.redl_join.specs.Books.{union}
use Rattle.redl_inputs.specs.Views.{document_view}
use Rattle.redl_inputs.proofs.journals.join_journals.Given as goal

-- what was taken so far, and the journals that are left
abbrev pub invariant-loop-journal : goal.invariant-loop-journal
invariant-loop-journal g l = record {
  left : l.left ≤ l.limit;
  taking : IsTaking union (g.F.Shelf.told l.initial.shelf) l.journals (document_view l.document)
      (λ reader files. union_with reader files (document_view l.document) l.limit l.fn.before l.journals) (l.book) l.left (drop l.journal-index l.journals);
  told : g.F.Shelf.told l.shelf ≡ g.F.Shelf.told l.initial.shelf;
  stands : g.F.Shelf.faults l.shelf ≡ g.F.Shelf.faults l.initial.shelf;
  asked : AsksAll (g.F.Shelf.asked l.initial.shelf) (g.F.Shelf.asked l.shelf) (files_within l.limit (take l.journal-index l.journals));
}
