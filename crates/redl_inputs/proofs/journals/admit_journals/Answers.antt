-- The entries of the journals so far are admitted, or the first cause is given: of a file, of a journal, or that memory ran out.
use Rattle.std.proofs.Common.{◌+◌, ◌-◌, ◌∷◌, [], drop, take, IsUtf8, arith, ap, sym, ◌∙◌, refl, subst}
use Rattle.std.proofs.lemmas.List.{drop_all, take_all, take-append-drop}
use Rattle.std.proofs.lemmas.List.Elements.{All-get_or}
use Rattle.std.proofs.lemmas.Result.{err_from_is_err_and}
use Rattle.redl_inputs.proofs.AdmissionLaws.{admits_in_steps, admits_nothing}
use Rattle.redl_inputs.proofs.AskLaws.{asked_all, asks_nothing, asks_one_more, files_within-append, within_more}
use Rattle.redl_inputs.proofs.LeftLaws.{IsTakingLeft, left_begins, left_goes_on, left_stops, left_ends}
use Rattle.redl_inputs.proofs.NameLaws.{is_at}
use Rattle.redl_inputs.proofs.ReadLaws.{reads_no_memory, reads_within}
use Rattle.redl_inputs.specs.Asking.{AsksAll, file_within, files_within}
use Rattle.redl_inputs.specs.Admission.{Admission, admission_with, admission_left}
use Rattle.redl_inputs.specs.Journals.{DocumentId}
use Rattle.redl_inputs.specs.Views.{admission_view, document_view, known_view}
use Rattle.redl_inputs.proofs.journals.admit_journals.Goals as goal

pub name_of-requires : goal.name_of-requires
name_of-requires g c =
    rw c.journal-item.is (All-get_or IsUtf8 c.args.journals.now c.loop-journal.journal-index c.journal-item.result c.loop-journal-test.true c.requires.utf8)

pub loop-journal-init : goal.loop-journal-init
loop-journal-init g c = record {
  left = omega arith;
  taking =
      subst (λ (document : DocumentId). IsTakingLeft admission_with (g.F.Shelf.told c.args.shelf.now) c.args.journals.now document
      (λ reader files. admission_left reader files (admission_view c.args.before) c.args.limit c.args.journals.now) (admission_view c.args.before) c.args.limit c.args.journals.now)
      (sym c.requires.document)
      (left_begins admission_with (g.F.Shelf.told c.args.shelf.now) (known_view c.args.before.document) (admission_view c.args.before) c.args.limit c.args.journals.now);
  told = refl;
  stands = refl;
  asked = asks_nothing (g.F.Shelf.asked c.args.shelf.now);
  nodes = refl;
  revisions = refl;
}

pub returns-in_err-entries-clause-read : goal.returns-in_err-entries-clause-read
returns-in_err-entries-clause-read g c =
    let p = err_from_is_err_and c.from_residual.result c.from_residual.ensures.1 in
    let journals = c.args.journals.now in
    let index = c.loop-journal.journal-index in
    let name = c.name_of.result.now in
    let at = is_at journals index name c.journal-item.result c.loop-journal-test.true c.journal-item.is c.name_of.ensures in
    rw (p.1, p.2) (left_stops admission_with c.args.shelf.now (document_view c.args.document) (λ reader files. admission_left reader files (admission_view c.args.before) c.args.limit journals)
    (admission_view c.loop-journal.admitted) c.args.limit c.loop-journal.left (take index journals) name (drop (index + 1) journals) journals at.split
    c.loop-journal.invariant.told c.loop-journal.invariant.stands c.loop-journal.invariant.asked (rw at.left at c.loop-journal.invariant.taking)
    (reads_within (file_within c.loop-journal.left name ∷ []) (file_within c.args.limit name ∷ []) (within_more (name ∷ []) c.loop-journal.invariant.left) c.in_err-entries.ensures.read))

pub returns-in_err-admit-clause-read : goal.returns-in_err-admit-clause-read
returns-in_err-admit-clause-read g c =
    let p = err_from_is_err_and c.from_residual-in_err-admit.result c.from_residual-in_err-admit.ensures.1 in
    let journals = c.args.journals.now in
    let index = c.loop-journal.journal-index in
    let name = c.name_of.result.now in
    let at = is_at journals index name c.journal-item.result c.loop-journal-test.true c.journal-item.is c.name_of.ensures in
    rw (p.1, p.2) (reads_no_memory (files_within c.args.limit (take (index + 1) journals)) (files_within c.args.limit (drop (index + 1) journals)) _
    (ap (files_within c.args.limit) (sym (take-append-drop (index + 1) journals)) ∙ files_within-append c.args.limit (take (index + 1) journals) (drop (index + 1) journals))
    (c.in_ok-entries.ensures.read.same_files ∙ c.loop-journal.invariant.told) (c.in_ok-entries.ensures.read.stands ∙ c.loop-journal.invariant.stands)
    (rw at.more (asks_one_more c.args.limit c.loop-journal.left (take index journals) name c.loop-journal.invariant.left c.loop-journal.invariant.asked (asked_all c.in_ok-entries.ensures.read.asks))))

pub loop-journal-preserved : goal.loop-journal-preserved
loop-journal-preserved g c =
    let journals = c.args.journals.now in
    let index = c.loop-journal.journal-index in
    let name = c.name_of.result.now in
    let at = is_at journals index name c.journal-item.result c.loop-journal-test.true c.journal-item.is c.name_of.ensures in
    let P : Admission → Type 0 = λ a. IsTakingLeft admission_with (g.F.Shelf.told c.args.shelf.now) journals (document_view c.args.document) (λ reader files. admission_left reader files (admission_view c.args.before) c.args.limit journals)
    a (c.loop-journal.left - c.in_ok-entries.size) (drop (index + 1) journals) in
    let next = left_goes_on admission_with admits_in_steps c.args.shelf.now journals (document_view c.args.document) (λ reader files. admission_left reader files (admission_view c.args.before) c.args.limit journals)
    (admission_view c.loop-journal.admitted) c.loop-journal.left (take index journals) name (drop (index + 1) journals)
    c.in_ok-entries.entries.items c.in_ok-entries.size (file_within c.loop-journal.left name) at.split c.loop-journal.invariant.told (rw at.left at c.loop-journal.invariant.taking)
    c.in_ok-entries.ensures.read in
    record {
      left = omega (arith, c.loop-journal.invariant.left);
      taking = subst P (sym c.in_ok-admit.ensures) next;
      told = c.in_ok-entries.ensures.read.same_files ∙ c.loop-journal.invariant.told;
      stands = c.in_ok-entries.ensures.read.stands ∙ c.loop-journal.invariant.stands;
      asked = rw at.more (asks_one_more c.args.limit c.loop-journal.left (take index journals) name c.loop-journal.invariant.left c.loop-journal.invariant.asked (asked_all c.in_ok-entries.ensures.read.asks));
      nodes = ap (λ (a : Admission). a.state.nodes) c.in_ok-admit.ensures ∙ c.loop-journal.invariant.nodes;
      revisions = ap (λ (a : Admission). a.state.revisions) c.in_ok-admit.ensures ∙ c.loop-journal.invariant.revisions;
    }

pub returns-clause-read : goal.returns-clause-read
returns-clause-read g c =
    let journals = c.args.journals.now in
    let none = drop_all c.loop-journal.journal-index journals (omega arith) in
    left_ends admission_with admits_nothing c.args.shelf.now (document_view c.args.document) (λ reader files. admission_left reader files (admission_view c.args.before) c.args.limit journals)
    (admission_view c.loop-journal.admitted) c.args.limit c.loop-journal.left journals
    c.loop-journal.invariant.told c.loop-journal.invariant.stands (rw (take_all c.loop-journal.journal-index journals (omega arith)) at c.loop-journal.invariant.asked)
    (rw none at c.loop-journal.invariant.taking)
