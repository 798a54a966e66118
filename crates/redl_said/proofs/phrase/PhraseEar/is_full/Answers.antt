use Rattle.std.proofs.Common.{ap, subst, IsTrue}
use Rattle.redl_said.specs.Phrases.{Kept}
use Rattle.redl_said.proofs.PhraseLaws.{heard-over}
use Rattle.redl_said.proofs.phrase.PhraseEar.is_full.Goals as goal

pub returns : goal.returns
returns c = λ is bytes. heard-over c.args.self.now bytes (subst IsTrue (ap (λ (kept : Kept). kept.over) c.self.view_is) is)
