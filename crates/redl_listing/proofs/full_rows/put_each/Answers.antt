-- Each reviewer is UTF-8.
use Rattle.std.proofs.Common.{subst, sym, arith}
use Rattle.std.specs.Str.{IsUtf8}
use Rattle.redl_excerpts.specs.declared.last_word.LastWord.{LastWord}
use Rattle.redl_listing.proofs.full_rows.put_each.Goals as goal

pub put_said-requires : goal.put_said-requires
put_said-requires c =
    subst (λ (said : LastWord). IsUtf8 said.reviewer) (sym c.said-item.is) (c.requires c.loop-said.said-index c.said-item.result (omega (arith, c.loop-said-test.true)))
