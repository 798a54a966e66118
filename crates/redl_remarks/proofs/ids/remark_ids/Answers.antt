-- The ids on one revision more.
use Rattle.std.proofs.Common.{◌≡◌, ◌+◌, ◌<◌, ◌++◌, ◌∷◌, [], ℕ, List, map, ap, arith, sym, ◌∙◌}
use Rattle.std.proofs.lemmas.List.FromFn.{map-range_with_len_more}
use Rattle.std.specs.List.{range_with_len}
use Rattle.redl_commented.specs.Package.{package_remarks}
use Rattle.redl_comments.specs.declared.comment.Comment.{Comment}
use Rattle.redl_remarks.specs.Ids.{ids_line, ids_on, remark_ids}
use Rattle.redl_remarks.specs.Inside.{ids_at, ids_if}
use Rattle.redl_remarks.proofs.ids.remark_ids.Goals as goal

pub loop-place-preserved : goal.loop-place-preserved
loop-place-preserved c =
    let nodes = c.args.pkg.now in
    let place = c.loop-place.place in
    let found = c.in_ok-found.found in
    let so_far = map (ids_on nodes) (range_with_len 1 place) in
    let within : place < c.args.revisions = omega (arith, c.loop-place-test.true) in
    let here : ids_at found place ≡ ids_on nodes (place + 1) =
    ap (ids_if found.comments.items) (c.in_ok-found.ensures.on place within)
    ∙ ap (λ (comments : List Comment). ids_line comments (package_remarks nodes (place + 1)).kept) c.in_ok-found.ensures.comments in
    c.in_ok-push.ensures.items
    ∙ ap (λ (ids : List (List ℕ)). ids ++ c.in_ok-line.line ∷ []) c.loop-place.invariant
    ∙ ap (λ (line : List ℕ). so_far ++ line ∷ []) (c.in_ok-line.ensures ∙ here)
    ∙ sym (map-range_with_len_more (ids_on nodes) 1 place (place + 1) (omega arith))

pub returns : goal.returns
unfolding remark_ids
returns c = c.loop-place.invariant ∙ ap (λ count. map (ids_on c.args.pkg.now) (range_with_len 1 count)) (omega (arith, c.loop-place-test.false))
