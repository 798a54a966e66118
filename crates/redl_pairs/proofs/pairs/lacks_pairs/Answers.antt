use Rattle.std.proofs.Common.{◌∙◌, refl, sym}
use Rattle.redl_pairs.proofs.PairLaws.{pairs_are_words}
use Rattle.redl_pairs.proofs.pairs.lacks_pairs.Goals as goal

pub returns-then-text-lt17 : goal.returns-then-text-lt17
returns-then-text-lt17 c = c.short_lacks.ensures ∙ pairs_are_words c.args.a.0 c.args.a.1 c.args.b.0 c.args.b.1 c.args.text.now

pub returns-in-Some : goal.returns-in-Some
returns-in-Some c = c.rest_lacks.ensures ∙ pairs_are_words c.args.a.0 c.args.a.1 c.args.b.0 c.args.b.1 c.args.text.now

pub returns-in-None : goal.returns-in-None
returns-in-None c = sym (c.in-None.ensures.none refl) ∙ pairs_are_words c.args.a.0 c.args.a.1 c.args.b.0 c.args.b.1 c.args.text.now
