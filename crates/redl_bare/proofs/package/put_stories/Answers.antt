use Rattle.std.proofs.Common.{◌≡◌, ◌∷◌, [], ap, refl, sym, ◌∙◌, rules}
use Rattle.std.specs.List.{flat_map}
use Rattle.std.specs.Vec.Iter.{into_iter_items}
use Rattle.std.proofs.lemmas.List.{nil_from_length}
use Rattle.redl_opc.specs.Elements.{element_of}
use Rattle.redl_order.specs.Borrowed.{all_borrowed}
use Rattle.redl_bare.specs.Units.{story_units}
use Rattle.redl_bare.specs.Inside.Views.{marks_view}
use Rattle.redl_bare.proofs.LineLaws.{units_begin_by, units_go_on, units_stop, units_end}
use Rattle.redl_bare.proofs.package.put_stories.Goals as goal

pub loop-root-init : goal.loop-root-init
loop-root-init g c =
    let items : into_iter_items c.into_iter-root-iterator.result ≡ c.args.stories.items = search rules in
    units_begin_by (ap (λ roots. flat_map story_units (all_borrowed roots)) (sym items)) c.args.writer.now

pub put_root-requires : goal.put_root-requires
put_root-requires g c = ap marks_view c.loop-root.invariant.after.marks ∙ c.requires

pub returns-in_err-put_root : goal.returns-in_err-put_root
returns-in_err-put_root g c =
    let root = c.in-Some.root in
    let rest = into_iter_items c.next.new.self in
    let here : into_iter_items c.loop-root.root-iterator ≡ root ∷ rest = c.in-Some.ensures.steps.0 in
    units_stop (story_units (element_of root.now)) (flat_map story_units (all_borrowed rest)) (ap (λ roots. flat_map story_units (all_borrowed roots)) here)
    c.from_residual.ensures.1 c.loop-root.invariant c.in_err-put_root.ensures refl

pub loop-root-preserved : goal.loop-root-preserved
loop-root-preserved g c =
    let root = c.in-Some.root in
    let rest = into_iter_items c.next.new.self in
    let here : into_iter_items c.loop-root.root-iterator ≡ root ∷ rest = c.in-Some.ensures.steps.0 in
    units_go_on (story_units (element_of root.now)) (flat_map story_units (all_borrowed rest)) (ap (λ roots. flat_map story_units (all_borrowed roots)) here)
    c.loop-root.invariant c.in_ok-put_root.ensures

pub returns : goal.returns
returns g c =
    let none : into_iter_items c.loop-root.root-iterator ≡ [] = nil_from_length _ (sym c.loop-root.root-iterator.rest.ok.0 ∙ c.in-None.ensures.steps.0) in
    units_end (ap (λ roots. flat_map story_units (all_borrowed roots)) none) c.loop-root.invariant
