use Rattle.std.proofs.Common.{ℕ, List, Option, Some, take, fold, ap, sym, ◌∙◌, if◌then◌else◌}
use Rattle.std.specs.BTreeMap.{get, keys}
use Rattle.std.specs.BTreeSet.{insert_key}
use Rattle.std.specs.Ordering.{nat_cmp}
use Rattle.redl_commands_write.proofs.ChoiceLaws.{choices_more, numbers_more, word_more}
use Rattle.redl_commands.specs.Choices.{chosen_numbers, is_among, word_on}
use Rattle.redl_journal.specs.declared.entry.Word.{Word}
use Rattle.redl_kinds.specs.Selections.{Selection}
use Rattle.redl_select.specs.Selections.{chosen}
use Rattle.redl_kinds.specs.Views.{selection_of}
use Rattle.redl_words.specs.Views.{choices_view}
use Rattle.redl_commands_write.proofs.choices.words_of.Goals as goal

pub loop-word-preserved : goal.loop-word-preserved
loop-word-preserved c =
    let index = c.args.index.now in
    let edits = c.args.edits.now in
    let choices = c.args.choices.now in
    let i = c.loop-word.word-index in
    let item = c.loop-word-item.result in
    let before = choices_view (take i choices) in
    let choice : Word × Selection = (item.0, selection_of item.1) in
    let more = choices_more choices i item c.loop-word-test.true c.loop-word-item.is in
    let numbers = c.deref.ensures.value ∙ c.in_ok-numbers.ensures.value in
    record {
      numbers = c.in_ok-set_words.ensures.numbers
          ∙ ap (fold (insert_key nat_cmp) (keys c.loop-word.words)) numbers
          ∙ ap (λ ks. fold (insert_key nat_cmp) ks (chosen index edits choice.1)) c.loop-word.invariant.numbers
          ∙ sym (numbers_more index edits before choice) ∙ ap (chosen_numbers index edits) (sym more);
      words = λ number. c.in_ok-set_words.ensures.words number
          ∙ ap (λ (ns : List ℕ). if is_among ns number then Some choice.0 else get nat_cmp c.loop-word.words number) numbers
          ∙ ap (λ (w : Option Word). if is_among (chosen index edits choice.1) number then Some choice.0 else w) (c.loop-word.invariant.words number)
          ∙ sym (word_more index edits before choice number) ∙ ap (λ cs. word_on index edits cs number) (sym more);
    }
