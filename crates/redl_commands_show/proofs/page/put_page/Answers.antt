use Rattle.std.proofs.Common.{Err, List, Ok, refl, subst}
use Rattle.redl_inputs.proofs.ReadLaws.{reads_stops, reads_then_takes}
use Rattle.redl_inputs.specs.Reading.{Reads}
use Rattle.redl_inputs.specs.Views.{admission_view}
use Rattle.redl_kinds.specs.declared.lock.Lock.{Lock}
use Rattle.redl_lines.specs.Failures.{failure_view}
use Rattle.redl_commands_shown.specs.Page.{page_of}
use Rattle.redl_page.specs.Page.{Heading, heading_with}
use Rattle.redl_page.specs.PageViews.{heading_view, skin_view}
use Rattle.redl_commands_show.proofs.page.put_page.Goals as goal

pub returns-in-Ok : goal.returns-in-Ok
returns-in-Ok g c =
    let skin = skin_view c.args.skin.now in
    let made = c.show.ensures.made in
    let admission = admission_view c.in-Ok.admitted in
    let headed : Reads made (λ _. Ok (page_of skin (heading_with c.args.command.now.title c.args.command.now.rank c.args.command.now.pictures) c.deref-in-Ok.result.now admission)) =
    subst (λ (heading : Heading). Reads made (λ _. Ok (page_of skin heading c.deref-in-Ok.result.now admission))) c.heading_of-heading.ensures c.show.ensures.reads in
    let shown : Reads made (λ _. Ok (page_of skin (heading_with c.args.command.now.title c.args.command.now.rank c.args.command.now.pictures) c.args.command.now.locks.items admission)) =
    subst (λ (locks : List Lock). Reads made (λ _. Ok (page_of skin (heading_with c.args.command.now.title c.args.command.now.rank c.args.command.now.pictures) locks admission))) c.deref-in-Ok.ensures.value headed in
    record {
      made = made;
      reads = reads_then_takes (λ admission reader. Ok (page_of skin (heading_with c.args.command.now.title c.args.command.now.rank c.args.command.now.pictures) c.args.command.now.locks.items admission))
          (rw (c.deref.ensures.value, c.deref-2.ensures.value) at c.in-Ok.ensures) shown;
      finishes = c.show.ensures.finishes;
    }

pub returns-in-Err : goal.returns-in-Err
returns-in-Err g c = record {
  made = Err (failure_view c.in-Err.failure);
  reads = reads_stops (λ admission reader files. Ok (page_of (skin_view c.args.skin.now) (heading_with c.args.command.now.title c.args.command.now.rank c.args.command.now.pictures) c.args.command.now.locks.items admission))
      (rw (c.deref.ensures.value, c.deref-2.ensures.value) at c.in-Err.ensures);
  finishes = (refl, refl, refl);
}
