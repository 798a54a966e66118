-- The format at the place that is looked at has the name, or a later one may have it.
use Rattle.std.proofs.Common.{Some, ◌≡◌, ap, arith, sym, ◌∙◌, ◌++◌, ◌<◌, length, take}
use Rattle.std.proofs.lemmas.List.{get_or_default}
use Rattle.redl_formats.proofs.NameLaws.{named_here, named_later}
use Rattle.redl_listing.proofs.named.take_named.Goals as goal

pub loop-place-preserved : goal.loop-place-preserved
loop-place-preserved g c =
    let inside : c.loop-place.place < length c.loop-place.formats.items = omega arith in
    let later = named_later g.F.Named.name_of c.args.name.now c.loop-place.formats.items c.loop-place.place c.index.result.now inside c.index.ensures (sym c.if-has_name.ensures) in
    record { same = c.loop-place.invariant.same; first = later.0 ∙ c.loop-place.invariant.first; rest = later.1 ∙ c.loop-place.invariant.rest }

pub returns-then-has_name-clause-found : goal.returns-then-has_name-clause-found
returns-then-has_name-clause-found g c =
    let inside : c.loop-place.place < length c.loop-place.formats.items = omega arith in
    let here = named_here g.F.Named.name_of c.args.name.now c.loop-place.formats.items c.loop-place.place c.index.result.now inside c.index.ensures (sym c.if-has_name.ensures) in
    let same : c.remove.result ≡ c.index.result.now = c.remove.ensures.value ∙ (get_or_default c.loop-place.formats.items c.loop-place.place c.remove.result c.index.result.now inside ∙ sym c.index.ensures) in
    ap Some same ∙ (sym here.0 ∙ c.loop-place.invariant.first)

pub returns-then-has_name-clause-left : goal.returns-then-has_name-clause-left
returns-then-has_name-clause-left g c =
    let inside : c.loop-place.place < length c.loop-place.formats.items = omega arith in
    let here = named_here g.F.Named.name_of c.args.name.now c.loop-place.formats.items c.loop-place.place c.index.result.now inside c.index.ensures (sym c.if-has_name.ensures) in
    c.remove.ensures.by_index.2 ∙ (ap (λ rest. take c.loop-place.place c.loop-place.formats.items ++ rest) (sym here.1) ∙ c.loop-place.invariant.rest)
