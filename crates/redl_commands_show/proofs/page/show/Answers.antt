use Rattle.std.proofs.Common.{◌≡◌, ◌∙◌, ℕ, Bool, Err, List, Ok, ap, length, map, refl, subst}
use Rattle.std.proofs.lemmas.List.{length-map}
use Rattle.redl_commands_shown.specs.Page.{is_locked, shown_in, shown_of}
use Rattle.redl_inputs.specs.Reading.{Reads}
use Rattle.redl_inputs.specs.Views.{admission_view}
use Rattle.redl_lines.specs.Failures.{no_memory}
use Rattle.redl_lines.specs.Remarks.{remarks_view}
use Rattle.redl_page.specs.Page.{Shown, page_text}
use Rattle.redl_page.specs.PageViews.{heading_view, skin_view}
use Rattle.redl_commands_show.proofs.page.show.Goals as goal

pub put_session-requires-clause-locked : goal.put_session-requires-clause-locked
put_session-requires-clause-locked g c = ap length c.in-Ok.ensures.locked ∙ length-map c.args.admitted.session.revisions (is_locked c.args.locks.now)

pub returns-in_default : goal.returns-in_default
returns-in_default g c = record {
  made = Err no_memory;
  reads = record { as_due = λ reader reads. tt; of_no_file = tt };
  finishes = (refl, refl, refl);
}

pub returns : goal.returns
returns g c =
    let same : shown_of c.args.admitted.session c.in-Ok.facts.locked.items c.in-Ok.facts.digest (heading_view c.args.heading) ≡ shown_in (heading_view c.args.heading) c.args.locks.now (admission_view c.args.admitted) =
    ap (λ (digest : List ℕ). shown_of c.args.admitted.session c.in-Ok.facts.locked.items digest (heading_view c.args.heading)) c.in-Ok.ensures.digest
    ∙ ap (λ (flags : List Bool). shown_of c.args.admitted.session flags c.id.result.digest (heading_view c.args.heading)) c.in-Ok.ensures.locked
    ∙ ap (λ id. shown_of c.args.admitted.session (map (is_locked c.args.locks.now) c.args.admitted.session.revisions) id.digest (heading_view c.args.heading)) c.id.ensures.id in
    record {
      made = c.put_session.ensures.made;
      reads = subst
          (λ (shown : Shown). Reads c.put_session.ensures.made
          (λ _. Ok (record { bytes = page_text (skin_view c.args.skin.now) shown; remarks = remarks_view c.args.admitted.remarks }))) same c.put_session.ensures.reads;
      finishes = c.put_session.ensures.finishes;
    }
