use Rattle.redl_numbering.proofs.lists.Lists.+style_level.Given as goal

abbrev pub decreases-style_level : goal.decreases-style_level
decreases-style_level l = l.left
