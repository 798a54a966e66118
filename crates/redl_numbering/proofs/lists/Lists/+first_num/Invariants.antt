use Rattle.redl_numbering.proofs.lists.Lists.+first_num.Given as goal

abbrev pub decreases-first_num : goal.decreases-first_num
decreases-first_num l = l.left
