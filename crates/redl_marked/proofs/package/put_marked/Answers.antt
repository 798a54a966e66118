use Rattle.std.proofs.Common.{◌+◌, ◌<◌, ◌≤◌, ◌++◌, arith, ap, sym, ◌∙◌, length}
use Rattle.redl_io.proofs.Puts.{so_far_begins, so_far_goes_on, so_far_stops, so_far_ends}
use Rattle.redl_opc.specs.Shape.{parts_of}
use Rattle.redl_marked.specs.MarkedText.{stories_marked}
use Rattle.redl_marked.specs.Inside.Walks.{named_in}
use Rattle.redl_marked.proofs.StoryLaws.{named_from, marked-part, named-past}
use Rattle.redl_marked.proofs.package.put_marked.Goals as goal

pub loop-part-init : goal.loop-part-init
loop-part-init g c = so_far_begins _ _

pub returns-in_err-last : goal.returns-in_err-last
returns-in_err-last g c =
    let part = c.loop-part.part in
    let within : part < length (parts_of c.args.pkg.now) = omega (arith, c.parts-part-end.ensures.value) in
    so_far_stops _ _ (marked-part c.loop-part.last c.args.pkg.now part within) c.from_residual.ensures.1 c.loop-part.invariant c.in_err-last.ensures.puts

pub loop-part-preserved : goal.loop-part-preserved
loop-part-preserved g c =
    let part = c.loop-part.part in
    let here = stories_marked c.loop-part.last (named_in c.args.pkg.now part) in
    let later = named_from (part + 1) c.args.pkg.now in
    let within : part < length (parts_of c.args.pkg.now) = omega (arith, c.parts-part-end.ensures.value) in
    so_far_goes_on here (stories_marked c.in_ok-last.last later)
    (marked-part c.loop-part.last c.args.pkg.now part within ∙ ap (λ last. here ++ stories_marked last later) (sym c.in_ok-last.ensures.last))
    c.loop-part.invariant c.in_ok-last.ensures.puts

pub returns : goal.returns
returns g c =
    let past : length (parts_of c.args.pkg.now) ≤ c.loop-part.part = omega (arith, c.parts-part-end.ensures.value, c.loop-part-test.false) in
    so_far_ends (named-past c.loop-part.last c.args.pkg.now c.loop-part.part past) c.loop-part.invariant
