-- What holds of each place holds of this one.
use Rattle.std.proofs.Common.{◌<◌, sym, subst, length, arith, List, Option, IfSome}
use Rattle.std.specs.List.{All}
use Rattle.std.proofs.lemmas.List.Elements.{All-get_or}
use Rattle.redl_left.specs.Pieces.{IsKnown}
use Rattle.redl_left.specs.declared.tags.KnownTag.{KnownTag}
use Rattle.redl_left.proofs.tags.Known.at.Goals as goal

pub returns-in-Some : goal.returns-in-Some
returns-in-Some c = λ table. λ known.
    let Holds : Option KnownTag → Type 0 = λ kept. IfSome kept (λ tag. IsKnown table tag.text.now tag.fact) in
    let kept = c.in-Some.kept.now in
    let items = c.deref.result.now in
    let all : All Holds items = subst (λ (tags : List (Option KnownTag)). All Holds tags) (sym c.deref.ensures.value) known in
    let within : c.args.place < length items = omega (arith, c.in-Some.ensures.lookup) in
    subst Holds (sym c.in-Some.ensures.lookup.1) (All-get_or Holds items c.args.place kept within all)
