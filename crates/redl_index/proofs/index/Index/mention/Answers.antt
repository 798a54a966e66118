use Rattle.redl_index.proofs.IndexLaws.{index-replaced}
use Rattle.redl_index.proofs.index.Index.mention.Goals as goal

pub invariant_of-self : goal.invariant_of-self
invariant_of-self c = index-replaced c.self.inside.revisions.items c.count_member.new.revisions.items _ c.count_member.ensures c.self.invariant
