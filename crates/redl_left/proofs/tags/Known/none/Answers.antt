-- No tag is kept.
use Rattle.std.proofs.Common.{sym, subst, List, Option, None, IfSome, vec_len}
use Rattle.std.specs.List.{All}
use Rattle.std.proofs.lemmas.List.Elements.{All-replicate}
use Rattle.redl_left.specs.Pieces.{IsKnown}
use Rattle.redl_left.specs.declared.tags.KnownTag.{KnownTag}
use Rattle.redl_left.proofs.tags.Known.none.Goals as goal

pub returns : goal.returns
returns c = λ table.
    let Holds : Option KnownTag → Type 0 = λ kept. IfSome kept (λ tag. IsKnown table tag.text.now tag.fact) in
    subst (λ (kept : List (Option KnownTag)). All Holds kept) (sym c.loop-tags.invariant.empty) (All-replicate Holds (vec_len c.loop-tags.tags) None tt)
