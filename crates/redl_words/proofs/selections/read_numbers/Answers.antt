use Rattle.std.proofs.Common.{◌==◌, ℕ, List, length, sym, ◌∙◌, lit<}
use Rattle.std.specs.List.{slice_split}
use Rattle.std.proofs.lemmas.List.{length_push}
use Rattle.std.proofs.lemmas.Iterator.Consumers.{YieldsList-turn, YieldsList-end}
use Rattle.std.proofs.lemmas.Iterator.Splits.{YieldsList-from_str_split}
use Rattle.redl_words.specs.Reading.Selections.{numbers_in}
use Rattle.redl_words.proofs.SelectionLaws.{numbers_stop, numbers_go, numbers_end}
use Rattle.redl_words.proofs.selections.read_numbers.Goals as goal

pub returns-in_default : goal.returns-in_default
unfolding numbers_in
returns-in_default c =
    let pieces : List (List ℕ) = slice_split (λ b. b == 44) c.args.text.now in
    let t = YieldsList-turn (YieldsList-from_str_split 44 c.args.text.now (lit< tt) (cc) (cc) (cc)) c.loop-piece.yielded _ c.loop-piece.yielded_by _ _ c.in-Some.piece c.in-Some.is c.next.ensures.steps in
    sym c.loop-piece.invariant
    ∙ numbers_stop c.loop-piece.listed.items pieces (length c.loop-piece.yielded) c.in-Some.piece.now t (sym c.in_default.ensures)

pub loop-piece-preserved : goal.loop-piece-preserved
loop-piece-preserved c =
    let pieces : List (List ℕ) = slice_split (λ b. b == 44) c.args.text.now in
    let t = YieldsList-turn (YieldsList-from_str_split 44 c.args.text.now (lit< tt) (cc) (cc) (cc)) c.loop-piece.yielded _ c.loop-piece.yielded_by _ _ c.in-Some.piece c.in-Some.is c.next.ensures.steps in
    let go = numbers_go c.loop-piece.listed.items pieces (length c.loop-piece.yielded) c.in-Some.piece.now c.in-Some-read_item.item t (sym c.in-Some-read_item.ensures) in
    rw (c.in_ok-push.ensures.items, length_push c.loop-piece.yielded c.in-Some.piece) (sym go ∙ c.loop-piece.invariant)

pub returns : goal.returns
unfolding numbers_in
returns c =
    let pieces : List (List ℕ) = slice_split (λ b. b == 44) c.args.text.now in
    let t = YieldsList-end (YieldsList-from_str_split 44 c.args.text.now (lit< tt) (cc) (cc) (cc)) c.loop-piece.yielded _ c.loop-piece.yielded_by _ _ c.in-None.is c.next.ensures.steps in
    sym c.loop-piece.invariant ∙ numbers_end c.loop-piece.listed.items pieces (length c.loop-piece.yielded) t.1
