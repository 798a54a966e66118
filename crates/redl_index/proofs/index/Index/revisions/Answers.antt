use Rattle.std.proofs.Common.{All, List, subst}
use Rattle.redl_index.specs.Revisions.{IsListable}
use Rattle.redl_index.specs.declared.revision.Revision.{Revision}
use Rattle.redl_index.proofs.index.Index.revisions.Goals as goal

pub returns-clause-told : goal.returns-clause-told
returns-clause-told c = let P : List Revision → Type 0 = All IsListable in subst P c.self.view_is c.self.invariant.told
