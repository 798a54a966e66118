use Rattle.redl_xml.proofs.Documents.{one_tree}
use Rattle.redl_xml.proofs.laws.one_tree.Goals as goal

pub returns : goal.returns
returns c = one_tree
