use Rattle.redl_numbering.proofs.paragraph.Paragraph.+begins_again.Given as goal

abbrev pub decreases-begins_again : goal.decreases-begins_again
decreases-begins_again l = l.level
