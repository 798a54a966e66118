use Rattle.std.proofs.Common.{ap, sym, refl, ◌∙◌, ◌+◌, ◌<◌, ◌++◌, arith, drop, map, length, get_or, false}
use Rattle.std.specs.Map.Iter.{deref}
use Rattle.redl_io.proofs.Puts.{so_far_goes_on, so_far_stops, so_far_ends}
use Rattle.redl_join.specs.LastWords.{last_words}
use Rattle.redl_page.specs.Changes.{change, changes}
use Rattle.redl_html.specs.Pieces.{pieces_text}
use Rattle.redl_page.proofs.ChangeLaws.{changes-here, changes-end}
use Rattle.redl_page.proofs.changes.put_each.Goals as goal

pub returns-in_err-put_change : goal.returns-in_err-put_change
returns-in_err-put_change g c =
    let book = c.args.book.now in
    let revisions = c.args.revisions.now in
    let locked = c.args.locked.now in
    let place = c.loop-place.place in
    let revision = c.index-revisions-place.result in
    let said = c.args.said.now in
    let lock = get_or locked place false in
    let line = c.index-said-place.result in
    let rest = pieces_text (changes book (drop (place + 1) revisions) (drop (place + 1) locked) (drop (place + 1) said)) in
    let within : place < length revisions = omega arith in
    let also : place < length locked = omega (arith, c.requires.locked) in
    let too : place < length said = omega (arith, c.requires.said) in
    so_far_stops (pieces_text (change revision c.verdict-verdict.result lock line (map deref c.on.result.now))) rest
    (changes-here book revisions locked said place revision lock false line within also too c.index-revisions-place.is refl c.index-said-place.is
    ∙ ap (λ v. pieces_text (change revision v lock line (last_words book revision.number)) ++ rest) (sym c.verdict-verdict.ensures)
    ∙ ap (λ ws. pieces_text (change revision c.verdict-verdict.result lock line ws) ++ rest) (sym (c.on.ensures ∙ c.requires.words revision.number)))
    c.from_residual.ensures.1 c.loop-place.invariant c.in_err-put_change.ensures

pub loop-place-preserved : goal.loop-place-preserved
loop-place-preserved g c =
    let book = c.args.book.now in
    let revisions = c.args.revisions.now in
    let locked = c.args.locked.now in
    let place = c.loop-place.place in
    let revision = c.index-revisions-place.result in
    let said = c.args.said.now in
    let lock = get_or locked place false in
    let line = c.index-said-place.result in
    let rest = pieces_text (changes book (drop (place + 1) revisions) (drop (place + 1) locked) (drop (place + 1) said)) in
    let within : place < length revisions = omega arith in
    let also : place < length locked = omega (arith, c.requires.locked) in
    let too : place < length said = omega (arith, c.requires.said) in
    so_far_goes_on (pieces_text (change revision c.verdict-verdict.result lock line (map deref c.on.result.now))) rest
    (changes-here book revisions locked said place revision lock false line within also too c.index-revisions-place.is refl c.index-said-place.is
    ∙ ap (λ v. pieces_text (change revision v lock line (last_words book revision.number)) ++ rest) (sym c.verdict-verdict.ensures)
    ∙ ap (λ ws. pieces_text (change revision c.verdict-verdict.result lock line ws) ++ rest) (sym (c.on.ensures ∙ c.requires.words revision.number)))
    c.loop-place.invariant c.in_ok-put_change.ensures

pub returns : goal.returns
returns g c = so_far_ends (changes-end c.args.book.now c.args.revisions.now c.args.locked.now c.args.said.now c.loop-place.place (omega arith)) c.loop-place.invariant
