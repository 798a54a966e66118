-- What was found of the package is what the definition says.
use Rattle.std.proofs.Common.{◌∙◌, All, ap, arith, subst, sym}
use Rattle.redl_remarks.specs.Inside.{IsDated}
use Rattle.redl_remarks.specs.Remarked.{remarked_from, remarked_details}
use Rattle.redl_remarks.proofs.RemarkLaws.{all-found, comments-dated}
use Rattle.redl_remarks.proofs.details.remarked_details.Goals as goal

pub all_remarked-requires : goal.all_remarked-requires
all_remarked-requires c = record {
  details = c.in_ok-details.ensures.utf8;
  dated = subst (All IsDated) (sym c.in_ok-found.ensures.comments) (comments-dated c.args.pkg.now);
}

pub returns-clause-value : goal.returns-clause-value
unfolding remarked_details
returns-clause-value c =
    let pkg = c.args.pkg.now in
    let wanted = c.args.wanted.now in
    c.in_ok-remarked.ensures.value
    ∙ all-found c.in_ok-found.found pkg wanted c.len.result c.in_ok-details.details.items 0 c.in_ok-found.ensures.comments c.in_ok-found.ensures.threads c.in_ok-found.ensures.on
    (omega (arith, c.len.ensures, c.in_ok-details.details.ok.0))
    ∙ ap (remarked_from pkg wanted 0) c.in_ok-details.ensures.value
