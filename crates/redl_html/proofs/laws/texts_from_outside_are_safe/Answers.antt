use Rattle.redl_html.proofs.EscapingLaws.{escaped_safe}
use Rattle.redl_html.proofs.laws.texts_from_outside_are_safe.Goals as goal

pub returns : goal.returns
returns c = λ text. escaped_safe text
