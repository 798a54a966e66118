use Rattle.std.proofs.Common.{◌+◌, ◌∙◌, ℕ, sym, subst, List}
use Rattle.std.specs.List.{All}
use Rattle.redl_classes.specs.Least.{IsBelow}
use Rattle.redl_classes.specs.declared.pair.Pair.{Pair}
use Rattle.redl_edits.specs.Edits.{package_pairs}
use Rattle.redl_edits.proofs.BoundLaws.{package_pairs-below}
use Rattle.redl_edits.proofs.edits.edits_of.Goals as goal

pub numbers-requires : goal.numbers-requires
numbers-requires c =
    subst (λ (pairs : List Pair). All (IsBelow (c.count.result + 1)) pairs) (sym (c.deref.ensures.value ∙ c.in_ok-pairs.ensures))
    (subst (λ (n : ℕ). All (IsBelow (n + 1)) (package_pairs c.args.pkg.now c.args.index.now)) (sym c.count.ensures) (package_pairs-below c.args.pkg.now c.args.index.now))
