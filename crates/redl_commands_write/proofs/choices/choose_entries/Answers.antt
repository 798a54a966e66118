-- The edits are looked for only where a choice asks for them.
use Rattle.std.proofs.Common.{◌≡◌, ◌∙◌, ℕ, Bool, List, [], IfOk, ap, subst, if◌then◌else◌}
use Rattle.std.specs.BTreeMap.{get, keys}
use Rattle.std.specs.List.{filter_map}
use Rattle.std.specs.Option.{option_map}
use Rattle.std.specs.Ordering.{nat_cmp}
use Rattle.redl_commands.specs.Choices.{chosen_entries, entry_with, word_on}
use Rattle.redl_edits.specs.Edits.{package_edits}
use Rattle.redl_index.specs.declared.revision.Revision.{Revision}
use Rattle.redl_journal.specs.declared.entry.Entry.{Entry}
use Rattle.redl_words.specs.Views.{choices_view}
use Rattle.redl_commands_write.proofs.ChoiceLaws.{entries-asked, made_same}
use Rattle.redl_commands_write.proofs.choices.choose_entries.Goals as goal

pub returns-clause-entries : goal.returns-clause-entries
returns-clause-entries c =
    let state = c.args.session.now in
    let reviewer = c.args.reviewer.now in
    let rank = c.args.rank in
    let seq = c.args.seq in
    let choices = choices_view c.args.choices.now in
    let words = c.in_ok-words.words in
    let revisions = c.index.result.now in
    let edits = c.deref.result.now in
    let all = package_edits state.nodes state.revisions in
    subst (λ (made : List Entry). IfOk c.make_entries.result (λ entries. entries.items ≡ made))
    (made_same (entry_with reviewer rank seq) (get nat_cmp words) (word_on revisions edits choices) c.in_ok-words.ensures.words (keys words)
    ∙ ap (filter_map (λ (number : ℕ). option_map (entry_with reviewer rank seq number) (word_on revisions edits choices number))) c.in_ok-words.ensures.numbers
    ∙ ap (λ (rs : List Revision). chosen_entries reviewer rank seq rs edits choices) c.index.ensures
    ∙ ap (λ (es : List ℕ). chosen_entries reviewer rank seq state.revisions es choices)
    (c.deref.ensures.value ∙ c.in_ok-edits.ensures ∙ ap (λ (asked : Bool). if asked then all else []) c.ask_edits.ensures)
    ∙ entries-asked state.revisions all reviewer rank seq choices)
    c.make_entries.ensures.entries
