-- An element is read as the fold over its pieces says. It is long because a turn can fail, end or go on, each within the limits.
use Rattle.std.proofs.Common.{◌≡◌, ◌≢◌, ◌≤◌, ◌+◌, ◌∙◌, ap, refl, subst, sym, ℕ, Some, Err, length, arith}
use Rattle.std.proofs.lemmas.Result.{err_from_is_err_and}
use Rattle.redl_markup.specs.declared.error.MarkupError.{MarkupError}
use Rattle.redl_grammar.specs.declared.section.Section.TheVariants.{InElement}
use Rattle.redl_markup.specs.PieceViews.{piece_view}
use Rattle.redl_grammar.specs.Pieces.{Piece}
use Rattle.redl_grammar.proofs.Pieces.{piece_shorter}
use Rattle.redl_xml.specs.declared.building.Building.{Building}
use Rattle.redl_xml.specs.declared.sizes.Limits.{Limits}
use Rattle.redl_xml.specs.declared.sizes.Sizes.{Sizes}
use Rattle.redl_xml.specs.Inside.Elements.{placed, without_nodes}
use Rattle.redl_xml.specs.Inside.Buildings.{building_view}
use Rattle.redl_xml.proofs.Buildings.{length-open}
use Rattle.redl_xml.proofs.Measures.{Adds}
use Rattle.redl_xml.proofs.Progress.{IsTurn, reading_begins, reading_goes, reading_ends, reading_fails, reading_refuses}
use Rattle.redl_xml.proofs.FoldRead.{reading_ahead, ahead_shorter}
use Rattle.redl_xml.proofs.element.read_element.Goals as goal

-- the calls of a turn make one
turned : (limits : Limits) (p : Piece) (b made b' : Building) (sizes sizes' : Sizes) (len : ℕ) → len ≡ length b.open.items → placed p (building_view b) ≡ Some (building_view made) → Adds limits.nodes p (len + 1) sizes sizes'
    → without_nodes (building_view b') ≡ without_nodes (building_view made) → (sizes'.deepest ≤ limits.depth → sizes'.nodes ≤ limits.nodes → building_view b' ≡ building_view made) → IsTurn limits p (building_view b) (building_view b') sizes sizes'
turned limits p b made b' sizes sizes' len e is adds alike kept =
    let P : ℕ → Type 0 = λ n. Adds limits.nodes p (n + 1) sizes sizes' in
    record { made = building_view made; is = is; adds = subst P (e ∙ sym (length-open b.open.items b.before.items)) adds; alike = alike; kept = kept }

pub loop-tries-init : goal.loop-tries-init
loop-tries-init c = rw c.new-building.ensures (reading_begins c.args.limits c.args.bytes.now _ refl refl)

pub returns-in_err-piece-clause-sizes : goal.returns-in_err-piece-clause-sizes
returns-in_err-piece-clause-sizes c =
    let l = c.loop-tries in
    let b0 = building_view c.pass_over.new.building in
    let ahead = c.in_ok-ahead.ahead.rest.now in
    let here = reading_ahead c.args.limits c.args.bytes.now l.rest.now ahead (building_view l.building) b0 l.sizes c.pass_over.new.sizes l.invariant c.in_ok-ahead.ensures.ahead in
    let p = err_from_is_err_and c.from_residual-in_err-piece.result c.from_residual-in_err-piece.ensures.1 in
    rw (p.1, p.2) (reading_fails c.args.limits ahead b0 c.pass_over.new.sizes c.args.bytes.now c.in_err-piece.field-0.0 here c.in_err-piece.ensures)

pub returns-in_err-place-clause-sizes : goal.returns-in_err-place-clause-sizes
returns-in_err-place-clause-sizes c =
    let l = c.loop-tries in
    let b0 = c.pass_over.new.building in
    let sizes = c.pass_over.new.sizes in
    let ahead = c.in_ok-ahead.ahead.rest.now in
    let here = reading_ahead c.args.limits c.args.bytes.now l.rest.now ahead (building_view l.building) (building_view b0) l.sizes sizes l.invariant c.in_ok-ahead.ensures.ahead in
    let p = err_from_is_err_and c.from_residual-in_err-place.result c.from_residual-in_err-place.ensures.1 in
    rw (p.1, p.2) (reading_refuses c.args.limits ahead (piece_view c.in_ok-piece.piece, c.in_ok-piece.next.now) (building_view b0) sizes c.args.bytes.now c.in_err-place.field-0.0 here c.in_ok-piece.ensures
    (λ e. c.in_err-place.ensures.unreadable (ap (λ (x : MarkupError). Err x) e)))

pub returns-then-is_empty-clause-sizes : goal.returns-then-is_empty-clause-sizes
returns-then-is_empty-clause-sizes c =
    let l = c.loop-tries in
    let b0 = c.pass_over.new.building in
    let sizes = c.pass_over.new.sizes in
    let ahead = c.in_ok-ahead.ahead.rest.now in
    let here = reading_ahead c.args.limits c.args.bytes.now l.rest.now ahead (building_view l.building) (building_view b0) l.sizes sizes l.invariant c.in_ok-ahead.ensures.ahead in
    let b = c.drop_past_limits.new.self in
    let len : c.len.result ≡ length b0.open.items = omega (arith, c.len.ensures, b0.open.ok.0) in
    let turn = turned c.args.limits (piece_view c.in_ok-piece.piece) b0 c.place.new.self b sizes c.add_piece.new.self c.len.result len c.in_ok-place.ensures.ok (record { deepest = c.add_piece.ensures.deepest; nodes = c.add_piece.ensures.nodes }) c.drop_past_limits.ensures.rest c.drop_past_limits.ensures.kept in
    let none : length (building_view b).open_elements ≡ 0 = grind (arith, c.is_empty.ensures, c.if-is_empty.true, b.open.ok.0, length-open b.open.items b.before.items) in
    (reading_ends c.args.limits ahead (piece_view c.in_ok-piece.piece, c.in_ok-piece.next.now) (building_view b0) (building_view b) sizes c.add_piece.new.self c.args.bytes.now here c.in_ok-piece.ensures turn none).0

pub returns-then-is_empty-clause-nodes : goal.returns-then-is_empty-clause-nodes
returns-then-is_empty-clause-nodes c =
    let l = c.loop-tries in
    let b0 = c.pass_over.new.building in
    let sizes = c.pass_over.new.sizes in
    let ahead = c.in_ok-ahead.ahead.rest.now in
    let here = reading_ahead c.args.limits c.args.bytes.now l.rest.now ahead (building_view l.building) (building_view b0) l.sizes sizes l.invariant c.in_ok-ahead.ensures.ahead in
    let b = c.drop_past_limits.new.self in
    let len : c.len.result ≡ length b0.open.items = omega (arith, c.len.ensures, b0.open.ok.0) in
    let turn = turned c.args.limits (piece_view c.in_ok-piece.piece) b0 c.place.new.self b sizes c.add_piece.new.self c.len.result len c.in_ok-place.ensures.ok (record { deepest = c.add_piece.ensures.deepest; nodes = c.add_piece.ensures.nodes }) c.drop_past_limits.ensures.rest c.drop_past_limits.ensures.kept in
    let none : length (building_view b).open_elements ≡ 0 = grind (arith, c.is_empty.ensures, c.if-is_empty.true, b.open.ok.0, length-open b.open.items b.before.items) in
    (reading_ends c.args.limits ahead (piece_view c.in_ok-piece.piece, c.in_ok-piece.next.now) (building_view b0) (building_view b) sizes c.add_piece.new.self c.args.bytes.now here c.in_ok-piece.ensures turn none).1

pub loop-tries-smaller : goal.loop-tries-smaller
loop-tries-smaller c =
    let l = c.loop-tries in
    let ahead = c.in_ok-ahead.ahead.rest.now in
    omega (arith, piece_shorter InElement ahead (piece_view c.in_ok-piece.piece, c.in_ok-piece.next.now) c.in_ok-piece.ensures, ahead_shorter c.args.limits l.rest.now ahead (building_view l.building) (building_view c.pass_over.new.building) l.sizes c.pass_over.new.sizes c.in_ok-ahead.ensures.ahead)

pub loop-tries-preserved : goal.loop-tries-preserved
loop-tries-preserved c =
    let l = c.loop-tries in
    let b0 = c.pass_over.new.building in
    let sizes = c.pass_over.new.sizes in
    let ahead = c.in_ok-ahead.ahead.rest.now in
    let here = reading_ahead c.args.limits c.args.bytes.now l.rest.now ahead (building_view l.building) (building_view b0) l.sizes sizes l.invariant c.in_ok-ahead.ensures.ahead in
    let b = c.drop_past_limits.new.self in
    let len : c.len.result ≡ length b0.open.items = omega (arith, c.len.ensures, b0.open.ok.0) in
    let turn = turned c.args.limits (piece_view c.in_ok-piece.piece) b0 c.place.new.self b sizes c.add_piece.new.self c.len.result len c.in_ok-place.ensures.ok (record { deepest = c.add_piece.ensures.deepest; nodes = c.add_piece.ensures.nodes }) c.drop_past_limits.ensures.rest c.drop_past_limits.ensures.kept in
    let some : length (building_view b).open_elements ≢ 0 = grind (arith, c.is_empty.ensures, c.if-is_empty.false, b.open.ok.0, length-open b.open.items b.before.items) in
    reading_goes c.args.limits ahead (piece_view c.in_ok-piece.piece, c.in_ok-piece.next.now) (building_view b0) (building_view b) sizes c.add_piece.new.self c.args.bytes.now here c.in_ok-piece.ensures turn some
