-- Byte by byte.
use Rattle.std.proofs.Common.{◌<◌, ◌++◌, ◌∙◌, ◌+◌, ℕ, List, sym, arith, drop, get_or, length}
use Rattle.std.proofs.lemmas.List.{at_drop_more}
use Rattle.redl_numbering.specs.NumberTexts.{filled_from, part_text}
use Rattle.redl_numbering.proofs.TextLaws.{filled-more}
use Rattle.redl_numbering.proofs.text.Numbered.put_filled.Goals as goal

pub loop-byte-preserved : goal.loop-byte-preserved
loop-byte-preserved c =
    let self = c.args.self.now in
    let part = part_text self.used.overrides.now self.used.levels.now self.level self.values c.args.is_legal in
    let text = c.args.text.now in
    let i = c.loop-byte.byte-index in
    let b = get_or text i 0 in
    let rest = drop (i + 1) text in
    let out = c.loop-byte.out.items in
    let within : i < length text = omega arith in
    filled-more part out c.put_byte.new.out.items _ c.loop-byte.pending c.in_ok-pending.pending b rest c.in_ok-pending.ensures.added c.in_ok-pending.ensures.sign
    (sym (at_drop_more (λ (bs : List ℕ). out ++ filled_from part c.loop-byte.pending bs) text i 0 within) ∙ c.loop-byte.invariant)
