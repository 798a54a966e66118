use Rattle.std.proofs.Common.{◌++◌, List, map, sym, ap, ◌∙◌}
use Rattle.std.specs.Map.Iter.{deref}
use Rattle.redl_journal.specs.declared.entry.Entry.{Entry}
use Rattle.redl_join.proofs.LastWordLaws.{has-among}
use Rattle.redl_join.proofs.book.Book.last_words.Goals as goal

pub is_last_word-requires : goal.is_last_word-requires
is_last_word-requires c =
    has-among (map deref c.loop-entry.yielded) c.next.new.self c.args.self.now c.in-Some.entry.now
    (ap (λ (l : List Entry). map deref c.loop-entry.yielded ++ l) (sym c.in-Some.ensures.steps) ∙ c.loop-entry.invariant.0)
