-- One comment more.
use Rattle.std.proofs.Common.{◌++◌, ◌∙◌, List, Option, ap, arith, get_or, sym}
use Rattle.std.specs.Option.{option_to_list}
use Rattle.redl_excerpts.specs.declared.remark.Remark.{Remark}
use Rattle.redl_remarks.specs.Remarked.{remark_at}
use Rattle.redl_remarks.proofs.RemarkLaws.{remarks-more}
use Rattle.redl_remarks.proofs.remarks.remarks_among.Goals as goal

pub loop-place-preserved : goal.loop-place-preserved
loop-place-preserved c =
    let at = remark_at c.args.comments.now c.args.threads.now in
    let i = c.loop-place.place-index in
    let place = get_or c.args.places.now i 0 in
    let before = c.loop-place.remarks.items in
    record {
      value = c.in_ok-add.ensures.added ∙ ap (λ (remark : Option Remark). before ++ option_to_list remark) c.in_ok-remark.ensures.value
          ∙ ap (λ (remarks : List Remark). remarks ++ option_to_list (at place)) c.loop-place.invariant.value
          ∙ sym (remarks-more at c.args.places.now i (omega arith));
      utf8 = c.in_ok-add.ensures.utf8;
    }
