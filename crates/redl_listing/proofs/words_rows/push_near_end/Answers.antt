-- The last characters, with dots for those before.
use Rattle.std.proofs.Common.{◌<◌, ◌++◌, ◌∙◌, List, ℕ, ap, arith, append_assoc}
use Rattle.redl_said.specs.Lines.{characters_in}
use Rattle.redl_terminal.specs.Masks.{masked}
use Rattle.redl_terminal.specs.declared.extent.Extent.TheVariants.{Field}
use Rattle.redl_listing.specs.Words.{dots}
use Rattle.redl_listing.proofs.WordLaws.{near_end-masked}
use Rattle.redl_listing.proofs.words_rows.push_near_end.Goals as goal

pub returns : goal.returns
returns c =
    let line = c.args.line.now.items in
    let end = c.without_characters.result.now in
    let more : 11 < characters_in c.args.text.now = omega (arith, c.characters_in-count.ensures.value, c.if-count-le-BEFORE.false) in
    c.in_ok-push_masked.ensures
    ∙ ap (λ (front : List ℕ). front ++ masked Field end) (c.in_ok-extend_from_slice.ensures.items ∙ ap (λ (bytes : List ℕ). line ++ bytes) c.as_bytes.ensures.value)
    ∙ append_assoc line dots (masked Field end)
    ∙ ap (λ (bytes : List ℕ). line ++ bytes) (near_end-masked c.args.text.now c.characters_in-count.result end more c.characters_in-count.ensures.value c.without_characters.ensures)
