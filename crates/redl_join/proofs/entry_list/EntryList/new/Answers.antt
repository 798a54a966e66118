use Rattle.redl_join.proofs.BlockLists.{none_counted}
use Rattle.redl_join.proofs.entry_list.EntryList.new.Goals as goal

pub invariant_of-result : goal.invariant_of-result
invariant_of-result c = rw c.new.ensures.items none_counted
