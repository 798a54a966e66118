use Rattle.std.proofs.Common.{◌≡◌, ◌++◌, ℕ, All, map}
use Rattle.redl_commands.specs.Choices.{entry_with}
use Rattle.redl_journal.specs.Journals.{IsAllowed}
use Rattle.redl_journal.specs.declared.entry.Word.{Word}
use Rattle.redl_commands_write.proofs.choices.make_entries.Given as goal

-- the entries so far, and the words that are left
abbrev pub invariant-loop-rev : goal.invariant-loop-rev
invariant-loop-rev l = record {
  entries : l.entries.items ++ map (λ (e : ℕ × Word). entry_with l.reviewer l.rank l.seq e.0 e.1) l.rev-iterator
      ≡ map (λ (e : ℕ × Word). entry_with l.reviewer l.rank l.seq e.0 e.1) l.words.entries;
  allowed : All IsAllowed l.entries.items;
}
