use Rattle.std.proofs.Common.{◌∙◌, Err, Ok, ap, length, refl, subst, sym}
use Rattle.redl_commands_show.proofs.PageLaws.{session_said-length, same_shown}
use Rattle.redl_commands_shown.specs.Page.{session_said, shown_of}
use Rattle.redl_commands.specs.Endings.{Finishes}
use Rattle.redl_lines.specs.Ends.{end_view}
use Rattle.redl_lines.specs.Failures.{no_memory}
use Rattle.redl_lines.specs.Remarks.{remarks_view}
use Rattle.redl_page.specs.Page.{Shown, page_text}
use Rattle.redl_page.specs.PageViews.{AreFacts, heading_view, skin_view}
use Rattle.redl_commands_show.proofs.page.put_session.Goals as goal

pub put_shown-requires-clause-locked : goal.put_shown-requires-clause-locked
put_shown-requires-clause-locked g c = ap length c.deref.ensures.value ∙ c.requires.locked ∙ sym (ap length c.index.ensures)

pub put_shown-requires-clause-said : goal.put_shown-requires-clause-said
put_shown-requires-clause-said g c =
    ap length (c.deref-2.ensures.value ∙ c.requires.said) ∙ session_said-length c.args.session.now
    ∙ sym (ap length c.index.ensures)

pub put_shown-requires-clause-facts : goal.put_shown-requires-clause-facts
put_shown-requires-clause-facts g c = subst (AreFacts c.args.facts.now.package) (sym c.package.ensures) c.requires.package

pub returns-in_default : goal.returns-in_default
returns-in_default g c = record {
  made = Err no_memory;
  reads = record { as_due = λ reader reads. tt; of_no_file = tt };
  finishes = (refl, refl, refl);
}

pub returns : goal.returns
returns g c = record {
  made = Ok (record {
    bytes = page_text (skin_view c.args.skin.now) (shown_of c.args.session.now c.args.facts.now.locked.items c.args.facts.now.digest (heading_view c.args.heading));
    remarks = remarks_view c.args.remarks;
  });
  reads = record { as_due = λ reader reads. refl; of_no_file = tt };
  finishes = subst
      (λ (shown : Shown). Finishes g.O.Sink.told g.O.Sink.faults c.args.out.now c.put_shown.new.out
      (Ok (record { bytes = page_text (skin_view c.args.skin.now) shown; remarks = remarks_view c.args.remarks })) (end_view c.put_shown.result))
      (same_shown c.package.result.now c.args.session.now.nodes c.index.result.now c.args.session.now.revisions c.deref.result.now c.args.facts.now.locked.items
      c.deref-2.result.now (session_said c.args.session.now) c.book-2.result.now c.args.session.now.book
      c.args.facts.now.digest (heading_view c.args.heading) c.package.ensures c.index.ensures c.deref.ensures.value (c.deref-2.ensures.value ∙ c.requires.said) c.book-2.ensures)
      c.put_shown.ensures;
}
