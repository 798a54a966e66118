use Rattle.std.proofs.Common.{refl, map}
use Rattle.std.specs.Map.Iter.{deref}
use Rattle.redl_io.proofs.Puts.{puts_then, puts_fails}
use Rattle.redl_page.proofs.ChangeLaws.{change-text}
use Rattle.redl_page.proofs.changes.put_change.Goals as goal

pub returns-in_err-put_change_head : goal.returns-in_err-put_change_head
returns-in_err-put_change_head g c =
    puts_fails _ (change-text c.args.revision.now c.args.verdict c.args.locked c.args.said.now (map deref c.args.words.now)) c.from_residual.ensures.1 c.in_err-put_change_head.ensures

pub returns-in_err-put_links : goal.returns-in_err-put_links
returns-in_err-put_links g c =
    puts_then (change-text c.args.revision.now c.args.verdict c.args.locked c.args.said.now (map deref c.args.words.now)) c.in_ok-put_change_head.ensures
    (puts_fails _ refl c.from_residual-in_err-put_links.ensures.1 c.in_err-put_links.ensures)

pub returns-in_err-put_change_state : goal.returns-in_err-put_change_state
returns-in_err-put_change_state g c =
    puts_then (change-text c.args.revision.now c.args.verdict c.args.locked c.args.said.now (map deref c.args.words.now)) c.in_ok-put_change_head.ensures
    (puts_then refl c.in_ok-put_links.ensures (puts_fails _ refl c.from_residual-in_err-put_change_state.ensures.1 c.in_err-put_change_state.ensures))

pub returns-in_err-put_item_words : goal.returns-in_err-put_item_words
returns-in_err-put_item_words g c =
    puts_then (change-text c.args.revision.now c.args.verdict c.args.locked c.args.said.now (map deref c.args.words.now)) c.in_ok-put_change_head.ensures
    (puts_then refl c.in_ok-put_links.ensures (puts_then refl c.in_ok-put_change_state.ensures (puts_fails _ refl c.from_residual-in_err-put_item_words.ensures.1 c.in_err-put_item_words.ensures)))

pub returns-in_err-put_sayings : goal.returns-in_err-put_sayings
returns-in_err-put_sayings g c =
    puts_then (change-text c.args.revision.now c.args.verdict c.args.locked c.args.said.now (map deref c.args.words.now)) c.in_ok-put_change_head.ensures
    (puts_then refl c.in_ok-put_links.ensures (puts_then refl c.in_ok-put_change_state.ensures (puts_then refl c.in_ok-put_item_words.ensures (puts_fails _ refl c.from_residual-in_err-put_sayings.ensures.1 c.in_err-put_sayings.ensures))))

pub returns : goal.returns
returns g c =
    puts_then (change-text c.args.revision.now c.args.verdict c.args.locked c.args.said.now (map deref c.args.words.now)) c.in_ok-put_change_head.ensures
    (puts_then refl c.in_ok-put_links.ensures (puts_then refl c.in_ok-put_change_state.ensures (puts_then refl c.in_ok-put_item_words.ensures (puts_then refl c.in_ok-put_sayings.ensures c.put_piece.ensures))))
