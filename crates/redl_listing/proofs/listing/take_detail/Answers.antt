-- Where one detail was taken none is left, and the others stay.
use Rattle.std.proofs.Common.{◌∙◌, sym, subst}
use Rattle.std.proofs.lemmas.List.Elements.{All-set}
use Rattle.redl_excerpts.specs.Details.{IsDetail}
use Rattle.redl_listing.proofs.RowLaws.{no_detail-is}
use Rattle.redl_listing.proofs.listing.take_detail.Goals as goal

pub returns-in-Some-clause-all_utf8 : goal.returns-in-Some-clause-all_utf8
returns-in-Some-clause-all_utf8 c =
    All-set IsDetail c.args.details.now.items c.args.place c.replace.new.dest (subst IsDetail (sym (c.replace.ensures.after ∙ c.in_ok-none.ensures)) no_detail-is) c.requires
