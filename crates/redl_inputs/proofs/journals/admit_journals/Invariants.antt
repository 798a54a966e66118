use Rattle.std.proofs.Common.{◌≡◌, ◌≤◌, drop, take}
use Rattle.redl_inputs.proofs.LeftLaws.{IsTakingLeft}
use Rattle.redl_inputs.specs.Admission.{admission_with, admission_left}
use Rattle.redl_inputs.specs.Asking.{AsksAll, files_within}
use Rattle.redl_inputs.specs.Views.{admission_view, document_view}
use Rattle.redl_inputs.proofs.journals.admit_journals.Given as goal

-- what was taken so far, and the journals that are left
abbrev pub invariant-loop-journal : goal.invariant-loop-journal
invariant-loop-journal g l = record {
  left : l.left ≤ l.limit;
  taking : IsTakingLeft admission_with (g.F.Shelf.told l.initial.shelf) l.journals (document_view l.document)
      (λ reader files. admission_left reader files (admission_view l.fn.before) l.limit l.journals) (admission_view l.admitted) l.left (drop l.journal-index l.journals);
  told : g.F.Shelf.told l.shelf ≡ g.F.Shelf.told l.initial.shelf;
  stands : g.F.Shelf.faults l.shelf ≡ g.F.Shelf.faults l.initial.shelf;
  asked : AsksAll (g.F.Shelf.asked l.initial.shelf) (g.F.Shelf.asked l.shelf) (files_within l.limit (take l.journal-index l.journals));
  nodes : l.admitted.session.nodes ≡ l.fn.before.session.nodes;
  revisions : l.admitted.session.revisions ≡ l.fn.before.session.revisions;
}
