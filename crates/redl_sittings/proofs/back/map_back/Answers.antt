use Rattle.std.proofs.Common.{◌≡◌, ◌∙◌, ap, map}
use Rattle.redl_tree.specs.Decisions.Packages.{pass_package}
use Rattle.redl_tree.specs.Model.View.{nodes_of}
use Rattle.redl_sittings.specs.SecondNumbers.{part_numbers}
use Rattle.redl_sittings.proofs.IdleNumbers.{items_of_vec}
use Rattle.redl_sittings.proofs.back.map_back.Goals as goal

pub returns : goal.returns
returns c =
    let left = pass_package c.args.says.now c.args.first.now in
    let firsts : map items_of_vec c.deref-2.result.now ≡ part_numbers left =
    ap (map items_of_vec) c.deref-2.ensures.value
    ∙ c.in_ok-firsts.ensures
    ∙ ap (λ nodes. part_numbers (nodes_of nodes)) c.deref.ensures.value
    ∙ ap part_numbers (c.in_ok-left.ensures.passed ∙ ap (pass_package c.args.says.now) c.nodes.ensures.nodes) in
    let seconds : map items_of_vec c.deref-3.result.now ≡ part_numbers c.args.second.now =
    ap (map items_of_vec) c.deref-3.ensures.value ∙ c.in_ok-seconds.ensures ∙ ap part_numbers c.nodes-2.ensures.nodes in
    rw (firsts, seconds) at c.first_numbers.ensures
