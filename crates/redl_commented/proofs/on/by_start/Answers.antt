-- What a stable sort makes is the list in order.
use Rattle.std.proofs.Common.{rules}
use Rattle.std.proofs.lemmas.List.Sorted.{answers_always}
use Rattle.redl_commented.specs.On.{start_of}
use Rattle.redl_commented.proofs.OrderLaws.{stable-sort}
use Rattle.redl_commented.proofs.on.by_start.Goals as goal

pub returns : goal.returns
returns c =
    stable-sort start_of _ _ (c.in_ok-sort_by_key.ensures.sorted start_of (answers_always _ _ _ (λ f a r g h. search rules)))
    (c.sort_by_key.ensures.stable start_of (answers_always _ _ _ (λ f a r g h. search rules)))
