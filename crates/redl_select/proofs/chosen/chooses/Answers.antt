-- A revision that has its number in a package is chosen there.
use Rattle.redl_kinds.specs.Selections.{numbers}
use Rattle.redl_select.proofs.ChosenLaws.{chooses_chosen}
use Rattle.redl_select.proofs.chosen.chooses.Goals as goal

pub returns-in-Numbers-clause-chosen : goal.returns-in-Numbers-clause-chosen
returns-in-Numbers-clause-chosen c =
    λ revisions is. rw (c.in-Numbers.is, c.is_among.ensures, c.deref.ensures.value) (chooses_chosen (numbers c.in-Numbers.listed.items) c.args.edits.now c.args.revision.now revisions is)
