use Rattle.std.proofs.Common.{◌∙◌}
use Rattle.redl_editor.proofs.PartLaws.{part-searched}
use Rattle.redl_editor.proofs.numbering.find_part.Goals as goal

pub returns : goal.returns
returns c = λ nodes are.
    c.ok.ensures.value ∙ part-searched nodes c.args.parts.now c.args.part c.binary_search.result are c.binary_search.ensures.position
