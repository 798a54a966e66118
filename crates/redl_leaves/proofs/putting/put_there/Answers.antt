use Rattle.std.proofs.Common.{refl, ap, ◌∙◌}
use Rattle.redl_leaves.specs.View.{leaf_view, leaf_model, present_of}
use Rattle.redl_leaves.proofs.putting.put_there.Goals as goal

pub returns : goal.returns
returns c = λ is.
    ap (λ l. leaf_view l (present_of c.put_leaf.new.leaf)) c.put_leaf.ensures.same
    ∙ ap (leaf_view (leaf_model c.args.leaf.now)) (c.put_leaf.ensures.present (is (leaf_model c.args.leaf.now) refl))
