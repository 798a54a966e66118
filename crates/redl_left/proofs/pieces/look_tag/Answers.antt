-- The tag that is kept is the one that was looked at.
use Rattle.std.proofs.Common.{◌≡◌, ◌∙◌, subst, IfSome, List, ℕ, Option}
use Rattle.redl_left.specs.Finds.{found_idle, found_member}
use Rattle.redl_left.specs.Search.{table_of}
use Rattle.redl_left.specs.declared.fact.Fact.{Fact}
use Rattle.redl_left.proofs.pieces.look_tag.Goals as goal

pub returns-in-Some-clause-known : goal.returns-in-Some-clause-known
returns-in-Some-clause-known c =
    let table = table_of c.args.below.search.now in
    let Told : Option (Option Fact) → Type 0 = λ told. IfSome told (λ fact. (part : List ℕ) → found_idle table part c.args.local.now c.args.tail.now ≡ found_member part fact) in
    let only = subst Told c.in-Some.is c.in_ok-fact.ensures in
    c.keep.ensures table c.requires.known (record {
      tag = c.requires.text.tag;
      text = c.requires.text.text;
      finds = λ part. c.requires.text.finds table part ∙ only part;
    })
