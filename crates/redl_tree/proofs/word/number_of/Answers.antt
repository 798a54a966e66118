use Rattle.std.proofs.Common.{ap, sym, ◌∙◌, ℕ}
use Rattle.redl_tree.specs.Roles.Words.{words, number_by_place}
use Rattle.redl_tree.proofs.word.number_of.Goals as goal

pub returns-in-61 : goal.returns-in-61
returns-in-61 c = c.number_if-in-61.ensures ∙ sym (ap (λ (at : ℕ). number_by_place words at c.args.name.now) (sym c.place_of.ensures ∙ c.in-61.is))

pub returns-in-10 : goal.returns-in-10
returns-in-10 c = c.number_if-in-10.ensures ∙ sym (ap (λ (at : ℕ). number_by_place words at c.args.name.now) (sym c.place_of.ensures ∙ c.in-10.is))
