use Rattle.std.proofs.Common.{◌≡◌, ◌+◌, ◌∙◌, refl, sym, ap, subst, max, length, arith, List, Some}
use Rattle.redl_markup.specs.declared.name.Name as code
use Rattle.redl_grammar.specs.declared.section.Section.TheVariants.{InElement}
use Rattle.redl_markup.specs.PieceViews.{piece_view}
use Rattle.redl_grammar.specs.ScanPieces.{piece_at}
use Rattle.redl_grammar.proofs.Pieces.{piece_shorter}
use Rattle.redl_tree.specs.declared.kinds.Space.TheVariants.{W}
use Rattle.redl_xml.specs.declared.idle.Idle.{Idle}
use Rattle.redl_xml.specs.Inside.Passing.{IsIdleIn, IsPassed, PassesBare, PassesOn, bare_tag, names_view}
use Rattle.redl_xml.proofs.FoldLoop.{IsPassing, passing_begins, passing_closes, passing_over, no_names, last_holds, last_rest}
use Rattle.redl_xml.proofs.IdleParts.{passing_on}
use Rattle.redl_xml.proofs.BareTags.{passing_bare}
use Rattle.redl_xml.proofs.idle.skip_idle.Goals as goal

pub loop-rest-init : goal.loop-rest-init
loop-rest-init c = rw c.clear.ensures.items (record { passing = passing_begins (IsIdleIn c.args.scopes.now) W c.args.bytes.now; same = refl; here = λ none. refl; whole = tt })

pub loop-rest-smaller : goal.loop-rest-smaller
loop-rest-smaller c =
    let p = piece_view c.in-Some-3.piece in
    let more = c.in-Some-4.more in
    let read : piece_at InElement c.loop-rest.now.rest.now ≡ Some (p, c.in-Some-3.rest.now) = rw c.in-Some-3.is at c.in_ok-piece.ensures in
    let there : more.rest ≡ c.in-Some-3.rest = rw c.in-Some-4.is at c.in_ok-more.ensures.rest in
    piece_shorter InElement c.loop-rest.now.rest.now (p, more.rest.now) (read ∙ sym (ap (λ r. Some (p, r.now)) there))

pub loop-rest-preserved-in-Some : goal.loop-rest-preserved-in-Some
loop-rest-preserved-in-Some c =
    let l = c.loop-rest in
    let was = l.now in
    let all = IsIdleIn c.args.scopes.now in
    let rest = c.in-Some.rest.now in
    let after = c.close_last.new.names.items in
    let closed = passing_closes all W c.args.bytes.now was.rest.now l.tries.names.items after was.nodes was.elems was.deepest rest l.invariant.passing c.in-Some.ensures.closed in
    record {
      passing = closed;
      same = l.invariant.same;
      here = λ none. rw (c.last_whole-whole.ensures, c.deref.ensures.value) (last_rest c.args.bytes.now (length after) _ l.whole none);
      whole = rw (c.last_whole-whole.ensures, c.deref.ensures.value) (last_holds (λ idle. IsPassed all W c.args.bytes.now idle.rest.now idle.nodes idle.elems idle.deepest) (length after) _ l.whole
          (λ none. passing_over all W c.args.bytes.now rest (names_view after) was.nodes was.elems was.deepest closed (no_names after none)) l.invariant.whole);
    }

pub loop-rest-preserved : goal.loop-rest-preserved
loop-rest-preserved c =
    let l = c.loop-rest in
    let was = l.now in
    let all = IsIdleIn c.args.scopes.now in
    let p = piece_view c.in-Some-3.piece in
    let before = c.pass_bare.new.names.items in
    let unmoved : before ≡ c.close_last.new.names.items = c.in_ok-rest.ensures.none (rw c.in_default-2.is refl) in
    let kept : before ≡ l.tries.names.items = unmoved ∙ c.close_last.ensures.none (rw c.in_default.is refl) in
    let same = c.pass_bare.ensures.same ∙ l.invariant.same in
    let P : List code.Name → Type 0 = λ ns. IsPassing all W c.args.bytes.now was.rest.now (names_view ns) was.nodes was.elems was.deepest in
    let after = c.pass_piece.new.names.items in
    let more = c.in-Some-4.more in
    let there : more.rest ≡ c.in-Some-3.rest = rw c.in-Some-4.is at c.in_ok-more.ensures.rest in
    let read : piece_at InElement was.rest.now ≡ Some (p, more.rest.now) = (rw c.in-Some-3.is at c.in_ok-piece.ensures) ∙ sym (ap (λ r. Some (p, r.now)) there) in
    let on : PassesOn c.pass_bare.new.scopes before after p was more = rw c.in-Some-4.is at c.in_ok-more.ensures.passed in
    let turned = passing_on c.args.scopes.now c.pass_bare.new.scopes c.args.bytes.now was.rest.now more.rest.now before after p was more same (subst P (sym kept) l.invariant.passing) read on in
    record {
      passing = turned;
      same = c.pass_piece.ensures.same ∙ same;
      here = λ none. rw (c.last_whole-whole-in-loop-rest.ensures, c.deref-in-loop-rest.ensures.value) (last_rest c.args.bytes.now (length after) _ l.whole none);
      whole = rw (c.last_whole-whole-in-loop-rest.ensures, c.deref-in-loop-rest.ensures.value) (last_holds (λ idle. IsPassed all W c.args.bytes.now idle.rest.now idle.nodes idle.elems idle.deepest) (length after) _ l.whole
          (λ none. passing_over all W c.args.bytes.now more.rest.now (names_view after) more.nodes more.elems more.deepest turned (no_names after none))
          l.invariant.whole);
    }

pub loop-rest-smaller-in-Some-2 : goal.loop-rest-smaller-in-Some-2
loop-rest-smaller-in-Some-2 c =
    let bare = rw c.in-Some-2.is at c.in_ok-rest.ensures.passed in
    rw c.with_element-now.ensures (piece_shorter InElement c.loop-rest.now.rest.now (bare_tag bare.opens bare.name, c.in-Some-2.rest.now) bare.read)

pub loop-rest-preserved-in-Some-2 : goal.loop-rest-preserved-in-Some-2
loop-rest-preserved-in-Some-2 c =
    let l = c.loop-rest in
    let was = l.now in
    let all = IsIdleIn c.args.scopes.now in
    let rest = c.in-Some-2.rest.now in
    let before = c.close_last.new.names.items in
    let kept : before ≡ l.tries.names.items = c.close_last.ensures.none (rw c.in_default.is refl) in
    let P : List code.Name → Type 0 = λ ns. IsPassing all W c.args.bytes.now was.rest.now (names_view ns) was.nodes was.elems was.deepest in
    let after = c.pass_bare.new.names.items in
    let bare : PassesBare l.scopes before after was.rest.now rest = rw c.in-Some-2.is at c.in_ok-rest.ensures.passed in
    let made = c.with_element-now.result in
    let Q : Idle → Type 0 = λ x. IsPassing all W c.args.bytes.now x.rest.now (names_view after) x.nodes x.elems x.deepest in
    let turned : Q made = subst Q (sym c.with_element-now.ensures) (passing_bare c.args.scopes.now l.scopes c.args.bytes.now was.rest.now rest before after was.nodes was.elems was.deepest c.len-depth.result (max was.deepest (c.len-depth.result + 1)) l.invariant.same (subst P (sym kept) l.invariant.passing) bare (omega (arith, c.len-depth.ensures, c.close_last.new.names.ok.0)) refl) in
    record {
      passing = turned;
      same = c.pass_bare.ensures.same ∙ l.invariant.same;
      here = λ none. rw (c.last_whole-whole-in-Some-2.ensures, c.deref-in-Some-2.ensures.value) (last_rest c.args.bytes.now (length after) _ l.whole none);
      whole = rw (c.last_whole-whole-in-Some-2.ensures, c.deref-in-Some-2.ensures.value) (last_holds (λ idle. IsPassed all W c.args.bytes.now idle.rest.now idle.nodes idle.elems idle.deepest) (length after) _ l.whole
          (λ none. passing_over all W c.args.bytes.now made.rest.now (names_view after) made.nodes made.elems made.deepest turned (no_names after none))
          l.invariant.whole);
    }
