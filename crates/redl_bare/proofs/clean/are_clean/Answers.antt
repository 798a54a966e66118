use Rattle.std.proofs.Common.{◌∙◌, ◌&&◌, ap, sym, length, drop, ◌/◌, ◌*◌, rules, tests}
use Rattle.std.specs.List.{list_all}
use Rattle.std.proofs.lemmas.Iterator.{YieldsList-from_slice}
use Rattle.std.proofs.lemmas.Iterator.Search.{all_from_yields_List}
use Rattle.redl_markup.proofs.Blocks.{by_blocks}
use Rattle.redl_bare.specs.Inside.Escapes.{is_clean}
use Rattle.redl_bare.proofs.clean.are_clean.Goals as goal

pub returns-then-all : goal.returns-then-all
returns-then-all c =
    let bs = c.args.bytes.now in
    let k = length bs / 16 in
    let chain = YieldsList-from_slice c.as_chunks.result.0.now c.iter.ensures.rest in
    let blocks = all_from_yields_List (list_all is_clean) _ _ _ c.all.ensures.ran chain (λ x b q k. search (rules, tests)) in
    let end = YieldsList-from_slice c.as_chunks.result.1.now c.iter-then-all.ensures.rest in
    let rest = all_from_yields_List is_clean _ _ _ c.all-then-all.ensures.ran end (λ x b q k. search (rules, tests)) in
    rest ∙ ap (list_all is_clean) c.as_chunks.ensures.back
    ∙ ap (λ t. t && list_all is_clean (drop (k * 16) bs)) (sym c.if-all.true ∙ blocks ∙ ap (list_all (list_all is_clean)) c.as_chunks.ensures.front)
    ∙ by_blocks is_clean 16 k bs

pub returns-else-all : goal.returns-else-all
returns-else-all c =
    let bs = c.args.bytes.now in
    let k = length bs / 16 in
    let chain = YieldsList-from_slice c.as_chunks.result.0.now c.iter.ensures.rest in
    let blocks = all_from_yields_List (list_all is_clean) _ _ _ c.all.ensures.ran chain (λ x b q k. search (rules, tests)) in
    c.if-all.false
    ∙ ap (λ t. t && list_all is_clean (drop (k * 16) bs)) (sym c.if-all.false ∙ blocks ∙ ap (list_all (list_all is_clean)) c.as_chunks.ensures.front)
    ∙ by_blocks is_clean 16 k bs
