-- Part by part, and then the first of each revision.
use Rattle.std.proofs.Common.{◌≡◌, ◌+◌, ◌<◌, ◌≤◌, ◌++◌, ◌∙◌, ℕ, arith, ap, sym, length, List, append_assoc, append-nil}
use Rattle.std.specs.List.{flat_map}
use Rattle.std.proofs.lemmas.Result.{IfOk-weaker}
use Rattle.std.proofs.lemmas.List.Concat.{flat_map-append}
use Rattle.redl_tree.specs.Decisions.Packages.{stories}
use Rattle.redl_tree.specs.Model.View.{Element}
use Rattle.redl_opc.specs.Shape.{parts_of}
use Rattle.redl_opc.specs.Stories.{stories_of_part, stories_from}
use Rattle.redl_opc.proofs.WalkLaws.{stories_from-start, stories_from-part, stories_from-end}
use Rattle.redl_places.specs.Places.{Signs, place_among, place_on, story_places}
use Rattle.redl_places.specs.Views.{place_at, signs_of}
use Rattle.redl_places.specs.declared.place.MemberPlace.{MemberPlace}
use Rattle.redl_places.specs.declared.places.Places.{Places}
use Rattle.redl_places.proofs.places.Places.of.Goals as goal

pub loop-part-init : goal.loop-part-init
loop-part-init c =
    let f : Element → List MemberPlace = story_places (signs_of c.in_ok-signs.signs) in
    ap (λ (ps : List MemberPlace). ps ++ flat_map f (stories_from 0 c.args.pkg.now)) c.new-members.ensures.items
    ∙ ap (flat_map f) (stories_from-start c.args.pkg.now c.parts-part-end.ensures.shape)

pub loop-part-preserved : goal.loop-part-preserved
loop-part-preserved c =
    let pkg = c.args.pkg.now in
    let part = c.loop-part.part in
    let f : Element → List MemberPlace = story_places (signs_of c.in_ok-signs.signs) in
    let old = c.loop-part.members.items in
    let within : part < length (parts_of pkg) = omega (arith, c.parts-part-end.ensures.value) in
    let here = stories_of_part pkg part in
    let more = stories_from (part + 1) pkg in
    ap (λ (ps : List MemberPlace). ps ++ flat_map f more) c.in_ok-add_part.ensures
    ∙ append_assoc old (flat_map f here) (flat_map f more)
    ∙ ap (λ (ps : List MemberPlace). old ++ ps) (sym (ap (flat_map f) (stories_from-part pkg part within) ∙ flat_map-append f here more))
    ∙ c.loop-part.invariant

pub returns : goal.returns
returns c =
    let pkg = c.args.pkg.now in
    let signs = signs_of c.in_ok-signs.signs in
    let now = c.loop-part.members.items in
    let past : length (parts_of pkg) ≤ c.loop-part.part = omega (arith, c.parts-part-end.ensures.value, c.loop-part-test.false) in
    let all : now ≡ flat_map (story_places signs) (stories pkg) = sym (ap (λ (es : List Element). now ++ flat_map (story_places signs) es) (stories_from-end pkg c.loop-part.part past) ∙ append-nil now) ∙ c.loop-part.invariant in
    IfOk-weaker c.among.result (λ (places : Places). (v : ℕ) → place_at places v ≡ place_among v c.deref.result.now) (λ (places : Places). (v : ℕ) → place_at places v ≡ place_on pkg v)
    (λ places is. λ v. is v ∙ ap (place_among v) (c.deref.ensures.value ∙ all ∙ ap (λ (s : Signs). flat_map (story_places s) (stories pkg)) c.in_ok-signs.ensures)) c.among.ensures
