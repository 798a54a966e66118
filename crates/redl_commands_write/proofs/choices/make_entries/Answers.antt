use Rattle.std.proofs.Common.{◌≡◌, ◌++◌, ℕ, [], map, refl, sym, ap, ◌∙◌, append-nil}
use Rattle.std.proofs.lemmas.List.Elements.{All-nil, All-push}
use Rattle.std.specs.BTreeMap.{get}
use Rattle.std.specs.Ordering.{nat_cmp}
use Rattle.redl_commands_write.proofs.ChoiceLaws.{made_more, made_of_entries}
use Rattle.redl_commands.specs.Choices.{entry_with}
use Rattle.redl_journal.specs.Journals.{IsAllowed}
use Rattle.redl_journal.specs.declared.entry.Entry.{Entry}
use Rattle.redl_journal.specs.declared.entry.Word.{Word}
use Rattle.redl_commands_write.proofs.choices.make_entries.Goals as goal

pub loop-rev-init : goal.loop-rev-init
loop-rev-init c =
    let none : c.new-entries.result.items ≡ [] = c.new-entries.ensures.items in
    let all = c.into_iter-rev-iterator.ensures.into_iter_gives.0 in
    record { entries = rw (none, all) refl; allowed = rw none (All-nil IsAllowed) }

pub loop-rev-preserved : goal.loop-rev-preserved
loop-rev-preserved c =
    let make : ℕ × Word → Entry = λ e. entry_with c.args.reviewer.now c.args.rank c.args.seq e.0 e.1 in
    let x : ℕ × Word = (c.in-Some.rev.now, c.in-Some.word.now) in
    let one : Entry = entry_with c.in_ok-copy.field-0 c.args.rank c.args.seq x.0 x.1 in
    let is : one ≡ make x = ap (λ reviewer. entry_with reviewer c.args.rank c.args.seq x.0 x.1) c.in_ok-copy.ensures in
    record {
      entries = made_more make c.loop-rev.entries.items c.push.new.self.items one x c.loop-rev.rev-iterator c.next.new.self c.args.words.now.entries
          c.in_ok-push.ensures.items is c.in-Some.ensures.steps c.loop-rev.invariant.entries;
      allowed = rw c.in_ok-push.ensures.items (All-push IsAllowed c.loop-rev.entries.items one c.loop-rev.invariant.allowed
          (rw is (record { reviewer = c.requires.reviewer; seq = c.requires.seq; rank = c.requires.rank })));
    }

pub returns-clause-entries : goal.returns-clause-entries
returns-clause-entries c =
    let make : ℕ × Word → Entry = λ e. entry_with c.args.reviewer.now c.args.rank c.args.seq e.0 e.1 in
    let entries = c.args.words.now.entries in
    sym (append-nil c.loop-rev.entries.items) ∙ ap (λ left. c.loop-rev.entries.items ++ map make left) (sym c.in-None.ensures.steps.0)
    ∙ c.loop-rev.invariant.entries
    ∙ sym (made_of_entries (entry_with c.args.reviewer.now c.args.rank c.args.seq) (get nat_cmp c.args.words.now) entries c.into_iter-rev-iterator.ensures.into_iter_gives.6)
