-- The comments are those that were found.
use Rattle.std.proofs.Common.{All, subst, sym}
use Rattle.redl_excerpts.specs.Remarks.{IsRemark, Remarks}
use Rattle.redl_remarks.proofs.remarks.remarks_of.Goals as goal

pub returns-clause-utf8 : goal.returns-clause-utf8
returns-clause-utf8 c = subst (λ (remarks : Remarks). All IsRemark remarks.first) (sym c.new.ensures) c.in_ok-first.ensures.utf8
