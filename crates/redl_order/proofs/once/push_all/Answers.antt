-- Part by part.
use Rattle.std.proofs.Common.{◌+◌, ◌<◌, ◌≤◌, ◌∷◌, [], arith, drop, length, refl}
use Rattle.std.specs.BTreeSet.{contains}
use Rattle.std.specs.Ordering.{nat_cmp}
use Rattle.redl_opc.specs.Shape.{parts_of}
use Rattle.redl_order.specs.Order.{numbers_from, story_of_kind}
use Rattle.redl_order.specs.Borrowed.{all_borrowed}
use Rattle.redl_order.proofs.OnceLaws.{left_on, left_end, numbers-here, numbers-end}
use Rattle.redl_order.proofs.once.push_all.Goals as goal

pub loop-part-init : goal.loop-part-init
loop-part-init c = λ tail. refl

pub loop-part-preserved : goal.loop-part-preserved
loop-part-preserved c =
    let pkg = c.args.pkg.now in
    let n = c.loop-part.part in
    let within : n < length (parts_of pkg) = omega (arith, c.parts-part-end.ensures.value) in
    left_on (story_of_kind c.args.kind pkg) (contains nat_cmp c.args.seen.now) (contains nat_cmp c.loop-part.seen) (contains nat_cmp c.push_once.new.seen)
    (all_borrowed c.args.roots.now.items) (all_borrowed c.loop-part.roots.items) (all_borrowed c.push_once.new.roots.items)
    (numbers_from 0 (parts_of pkg)) (numbers_from n (drop n (parts_of pkg))) (n ∷ []) (numbers_from (n + 1) (drop (n + 1) (parts_of pkg)))
    (numbers-here pkg n within) c.loop-part.invariant c.in_ok-push_once.ensures

pub returns : goal.returns
returns c =
    let pkg = c.args.pkg.now in
    let n = c.loop-part.part in
    let past : length (parts_of pkg) ≤ n = omega (arith, c.parts-part-end.ensures.value, c.loop-part-test.false) in
    left_end (story_of_kind c.args.kind pkg) (contains nat_cmp c.args.seen.now) (contains nat_cmp c.loop-part.seen)
    (all_borrowed c.args.roots.now.items) (all_borrowed c.loop-part.roots.items) (numbers_from 0 (parts_of pkg)) (numbers_from n (drop n (parts_of pkg)))
    (numbers-end pkg n past) c.loop-part.invariant
