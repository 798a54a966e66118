use Rattle.std.proofs.Common.{◌+◌, arith, ap, ◌∙◌, drop}
use Rattle.redl_io.proofs.Puts.{so_far_begins, so_far_goes_on, so_far_stops, so_far_ends}
use Rattle.redl_tree.specs.Model.View.{nodes_of, item_of}
use Rattle.redl_tree.proofs.Model.Laws.{nodes_here, nodes_end}
use Rattle.redl_marked.specs.Signs.{para_signs}
use Rattle.redl_marked.specs.Inside.Walks.{item_para}
use Rattle.redl_marked.proofs.WalkLaws.{para_signs-in_front}
use Rattle.redl_marked.proofs.signs.put_para_signs.Goals as goal

pub loop-kid-init : goal.loop-kid-init
loop-kid-init g c = so_far_begins _ _

pub returns-in_err-put_in_para : goal.returns-in_err-put_in_para
returns-in_err-put_in_para g c =
    let here = nodes_here c.args.kids.now c.loop-kid.kid-index c.kid-item.result (omega arith) c.kid-item.is in
    let rest = nodes_of (drop (c.loop-kid.kid-index + 1) c.args.kids.now) in
    so_far_stops (item_para (item_of c.kid-item.result)) (para_signs rest) (ap para_signs here ∙ para_signs-in_front (item_of c.kid-item.result) rest)
    c.from_residual.ensures.1 c.loop-kid.invariant c.in_err-put_in_para.ensures

pub loop-kid-preserved : goal.loop-kid-preserved
loop-kid-preserved g c =
    let here = nodes_here c.args.kids.now c.loop-kid.kid-index c.kid-item.result (omega arith) c.kid-item.is in
    let rest = nodes_of (drop (c.loop-kid.kid-index + 1) c.args.kids.now) in
    so_far_goes_on (item_para (item_of c.kid-item.result)) (para_signs rest) (ap para_signs here ∙ para_signs-in_front (item_of c.kid-item.result) rest)
    c.loop-kid.invariant c.in_ok-put_in_para.ensures

pub returns : goal.returns
returns g c =
    so_far_ends (ap para_signs (nodes_end c.args.kids.now c.loop-kid.kid-index (omega arith))) c.loop-kid.invariant
