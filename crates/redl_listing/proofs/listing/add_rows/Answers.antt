-- One revision more, whether it is shown or not, and the loop ends where none is left.
use Rattle.std.proofs.Common.{◌≡◌, ◌≤◌, ◌<◌, ◌∙◌, ◌++◌, ◌∷◌, [], true, false, None, ap, append-nil, get_or, length, arith, subst, sym}
use Rattle.std.proofs.lemmas.List.{get_or_default}
use Rattle.redl_index.specs.declared.revision.Revision.{Revision}
use Rattle.redl_join.specs.declared.verdict.Verdict.TheVariants.{Undecided}
use Rattle.redl_kinds.specs.declared.rev_kind.RevKind.TheVariants.{Move}
use Rattle.redl_listing.specs.declared.row.Row.{Row}
use Rattle.redl_listing.proofs.RowLaws.{told_rows-done, told_rows-next}
use Rattle.redl_listing.proofs.listing.add_rows.Goals.{then-is_shown+in_ok-row+in_ok-add_row, else-is_shown}
use Rattle.redl_listing.proofs.listing.add_rows.Goals as goal

-- stands where there is no revision
no_revision : Revision
no_revision = record { number = 0; kind = Move; author = []; seconds = None; part = 0; members = 0 }

pub loop-place-preserved : goal.loop-place-preserved
loop-place-preserved g c =
    let listed = c.args.listed.now in
    let place = c.loop-place.place in
    let is = c.revisions-revisions.ensures.value in
    let within : place < length listed.index.now = omega (arith, c.loop-place-test.true, ap length is) in
    let decided : place < length listed.verdicts.now = omega (arith, within, c.requires.verdicts) in
    let so_far = (goal.RowFormat-dyn g (c.loop-place.format.vtable, c.loop-place.format.value)).rows_so_far c.loop-place.format.value in
    elim c.if-is_shown.branch [
      | then-is_shown+in_ok-row+in_ok-add_row w ↦
          let revision = w.index-revisions-place.result in
          record {
            is_open = rw w.format-is w.in_ok-add_row.ensures.open;
            details = c.in_ok-detail.ensures.all_utf8;
            rows = rw w.format-is (told_rows-next so_far _ _ listed.parts.now listed.index.now listed.verdicts.now c.loop-place.details.items _ listed.shown.now place revision _ c.in_ok-detail.detail true
                within decided (subst (λ revisions. revision ≡ get_or revisions place revision) is w.index-revisions-place.is) (get_or_default listed.verdicts.now place _ _ decided)
                c.in_ok-detail.ensures.value c.in_ok-detail.ensures.left w.if-is_shown.ensures
                (w.in_ok-add_row.ensures.taken ∙ ap (λ (row : Row). so_far ++ row ∷ []) w.in_ok-row.ensures.value) c.loop-place.invariant.rows);
            same_format = λ rows closed. rw w.format-is (w.in_ok-add_row.ensures.same_format rows closed ∙ c.loop-place.invariant.same_format rows closed);
          }
      | else-is_shown w ↦
          record {
            is_open = rw w.format-is c.loop-place.invariant.is_open;
            details = c.in_ok-detail.ensures.all_utf8;
            rows = rw w.format-is (told_rows-next so_far so_far _ listed.parts.now listed.index.now listed.verdicts.now c.loop-place.details.items _ listed.shown.now place
                (get_or listed.index.now place no_revision) (get_or listed.verdicts.now place Undecided) c.in_ok-detail.detail false
                within decided (get_or_default listed.index.now place _ _ within) (get_or_default listed.verdicts.now place _ _ decided)
                c.in_ok-detail.ensures.value c.in_ok-detail.ensures.left w.if-is_shown.ensures (sym (append-nil so_far)) c.loop-place.invariant.rows);
            same_format = λ rows closed. rw w.format-is (c.loop-place.invariant.same_format rows closed);
          }
    ]

pub returns-clause-rows : goal.returns-clause-rows
returns-clause-rows g c =
    let listed = c.args.listed.now in
    let all : length listed.index.now ≤ c.loop-place.place = omega (arith, c.loop-place-test.false, ap length c.revisions-revisions.ensures.value) in
    told_rows-done _ _ listed.parts.now listed.index.now listed.verdicts.now c.loop-place.details.items listed.shown.now c.loop-place.place all c.loop-place.invariant.rows
