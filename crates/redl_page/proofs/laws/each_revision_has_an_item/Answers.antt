use Rattle.redl_page.proofs.ChangeLaws.{changes-have}
use Rattle.redl_page.proofs.laws.each_revision_has_an_item.Goals as goal

pub returns : goal.returns
returns c = λ book revisions locked said same alike. changes-have book revisions locked said same alike
