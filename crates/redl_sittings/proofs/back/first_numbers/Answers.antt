use Rattle.std.proofs.Common.{◌≡◌, ℕ, length, map, replicate, arith, ap, ◌∙◌}
use Rattle.redl_sittings.specs.Inside.Filling.{with_pairs}
use Rattle.redl_sittings.specs.SecondNumbers.{parts_beside}
use Rattle.redl_sittings.proofs.FillLaws.{filled, written_whole}
use Rattle.redl_sittings.proofs.back.first_numbers.Goals as goal

pub returns : goal.returns
returns c =
    let pairs = parts_beside (map (λ part. part.items) c.args.seconds.now) (map (λ part. part.items) c.args.firsts.now) in
    let value : c.deref_mut.result.now ≡ c.in_ok-back.back.items = c.deref_mut.ensures.value in
    let zeros : c.in_ok-back.back.items ≡ replicate {A = ℕ} c.args.count 0 = c.in_ok-back.ensures.items_if_clones_equal (λ y same. same) in
    let whole : length c.in_ok-back.back.items ≡ c.in_ok-back.back.len = omega (arith, ap length value, c.deref_mut.ensures.len) in
    let len : length c.fill.new.back ≡ c.in_ok-back.back.len = omega (arith, c.fill.auto.back, c.deref_mut.ensures.len) in
    written_whole c.fill.new.back c.in_ok-back.back.items c.in_ok-back.back.len len whole ∙ c.fill.ensures ∙ ap (with_pairs pairs) (value ∙ zeros) ∙ filled pairs c.args.count
