-- What a stable sort makes is the list in order.
use Rattle.std.proofs.Common.{◌∙◌, ap, rules}
use Rattle.std.proofs.lemmas.List.Sorted.{answers_always}
use Rattle.redl_commented.specs.On.{end_of}
use Rattle.redl_commented.specs.Orders.{in_order}
use Rattle.redl_commented.proofs.OrderLaws.{stable-sort}
use Rattle.redl_commented.proofs.on.by_end.Goals as goal

pub returns : goal.returns
returns c =
    stable-sort end_of _ _ (c.in_ok-sort_by_key.ensures.sorted end_of (answers_always _ _ _ (λ f a r g h. search rules)))
    (c.sort_by_key.ensures.stable end_of (answers_always _ _ _ (λ f a r g h. search rules)))
    ∙ ap (in_order end_of) c.in_ok-sorted.ensures.items
