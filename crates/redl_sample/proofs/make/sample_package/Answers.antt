use Rattle.std.proofs.Common.{◌≡◌, List, ℕ, ◌++◌, ◌∙◌, sym, ap, append-nil, append_assoc, arith}
use Rattle.redl_sample.specs.Packages.{opening, closing, blocks_text}
use Rattle.redl_sample.specs.Blocks.{block_text}
use Rattle.redl_sample.proofs.Laws.{blocks_text-more}
use Rattle.redl_sample.proofs.make.sample_package.Goals as goal

pub loop-block-init : goal.loop-block-init
unfolding opening
loop-block-init c = c.in_ok-text.ensures.items ∙ sym (append-nil opening)

pub loop-block-preserved : goal.loop-block-preserved
loop-block-preserved c =
    c.in_ok-push_block.ensures
    ∙ ap (λ (l : List ℕ). l ++ block_text c.loop-block.block) c.loop-block.invariant
    ∙ append_assoc opening (blocks_text c.loop-block.block) (block_text c.loop-block.block)
    ∙ ap (λ (l : List ℕ). opening ++ l) (sym (blocks_text-more c.loop-block.block))

pub returns : goal.returns
unfolding closing
returns c =
    let done : c.loop-block.block ≡ c.args.number = omega arith in
    c.in_ok-extend_from_slice.ensures.items
    ∙ ap (λ (l : List ℕ). l ++ closing) (c.loop-block.invariant ∙ ap (λ (n : ℕ). opening ++ blocks_text n) done)
