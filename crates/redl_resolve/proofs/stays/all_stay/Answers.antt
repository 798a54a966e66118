use Rattle.std.proofs.Common.{◌≡◌, ◌+◌, true, ◌&&◌, drop, sym, ap, ◌∙◌, arith}
use Rattle.redl_resolve.proofs.PassLaws.{all_stay-in_front, visits-in_front}
use Rattle.redl_resolve.specs.Counts.{visits}
use Rattle.redl_resolve.specs.Inside.Stays.{all_stay as all_stay_by}
use Rattle.redl_tree.proofs.Model.Laws.{nodes_here, count-in_front}
use Rattle.redl_tree.specs.Model.Count.{count}
use Rattle.redl_tree.specs.Model.View.{nodes_of, item_of}
use Rattle.redl_resolve.proofs.stays.all_stay.Goals as goal

pub loop-node-preserved : goal.loop-node-preserved
loop-node-preserved c =
    let says = c.args.says.now in
    let items = c.args.nodes.now in
    let i = c.loop-node.node-index in
    let x = c.node-item.result in
    let more = nodes_of (drop (i + 1) items) in
    let here = nodes_here items i x (omega arith) c.node-item.is in
    let stays : c.stays.result ≡ true = c.if-not-stays.false in
    record {
      stay = λ ancestors round_is.
          sym (ap (all_stay_by says ancestors) here ∙ all_stay-in_front says ancestors (item_of x) more
          ∙ ap (λ b. b && all_stay_by says ancestors more) (sym (c.stays.ensures.stay ancestors round_is) ∙ stays))
          ∙ c.loop-node.invariant.stay ancestors round_is;
      visits = omega (
        arith,
        ap count here,
        count-in_front (item_of x) more,
        ap (visits says) here,
        visits-in_front says (item_of x) more,
        c.stays.ensures.visited stays,
        c.loop-node.invariant.visits,
      );
    }
