use Rattle.std.proofs.Common.{sym, ap, ◌∙◌}
use Rattle.redl_words.specs.Reading.Items.{Gathered, gathered, items_view}
use Rattle.redl_words.proofs.ItemLaws.{no_words_left}
use Rattle.redl_words.proofs.items.read_items.Goals as goal

pub loop-word-init : goal.loop-word-init
loop-word-init c = (ap (λ (items : Gathered). gathered c.args.form items c.args.words.now) c.nothing-items.ensures, c.requires)

pub loop-word-preserved : goal.loop-word-preserved
loop-word-preserved c = (
  sym c.in_ok-rest.ensures.gathered ∙ ap (gathered c.args.form (items_view c.loop-word.items)) (sym c.in-Some.ensures.cases.0) ∙ c.loop-word.invariant.0,
  c.in_ok-rest.ensures.utf8,
)

pub returns : goal.returns
returns c = sym c.loop-word.invariant.0 ∙ no_words_left c.args.form (items_view c.loop-word.items) c.loop-word.rest.now c.in_default.ensures.cases
