use Rattle.std.proofs.Common.{◌≡◌, ◌+◌, ◌∷◌, ◌++◌, [], Some, take, get_or, fold, ap, sym, ◌∙◌, arith}
use Rattle.std.proofs.lemmas.List.{take_more}
use Rattle.std.specs.BTreeMap.{get}
use Rattle.std.specs.BTreeSet.{insert_key}
use Rattle.std.specs.Map.{keys_of}
use Rattle.std.specs.Ordering.{nat_cmp}
use Rattle.redl_commands_write.proofs.ChoiceLaws.{keys-insert_entry, keys_more, word_set}
use Rattle.redl_commands_write.proofs.choices.set_words.Goals as goal

pub loop-number-preserved : goal.loop-number-preserved
loop-number-preserved c =
    let numbers = c.args.numbers.now in
    let i = c.loop-number.number-index in
    let number = get_or numbers i 0 in
    let more : take (i + 1) numbers ≡ take i numbers ++ number ∷ [] = take_more numbers i 0 (omega arith) in
    record {
      numbers = ap keys_of c.in_ok-insert.ensures.entries ∙ keys-insert_entry nat_cmp number c.args.word c.loop-number.words.entries
          ∙ ap (λ keys. insert_key nat_cmp keys number) c.loop-number.invariant.numbers
          ∙ sym (keys_more (take i numbers) (keys_of c.args.words.now.entries) number)
          ∙ ap (fold (insert_key nat_cmp) (keys_of c.args.words.now.entries)) (sym more);
      words = λ one. word_set (take i numbers) (take (i + 1) numbers) number one more (Some c.args.word) (get nat_cmp c.args.words.now one)
          (get nat_cmp c.loop-number.words one) (get nat_cmp c.insert.new.self one)
          (c.loop-number.invariant.words one) (c.in_ok-insert.ensures.updates.0 one);
    }
