use Rattle.std.proofs.Common.{◌≡◌, ◌∷◌, ◌∙◌}
use Rattle.std.proofs.lemmas.List.Elements.{All-tail}
use Rattle.redl_journal.specs.Journals.{IsAllowed}
use Rattle.redl_sittings.specs.JoinedBooks.{mapped_back}
use Rattle.redl_sittings.proofs.BookLaws.{mapped-more}
use Rattle.redl_sittings.proofs.book.add_second.Goals as goal

pub loop-entry-preserved : goal.loop-entry-preserved
loop-entry-preserved c =
    let step : c.loop-entry.entry-iterator ≡ c.in-Some.entry.now ∷ c.next.new.self = c.in-Some.ensures.steps in
    record {
      mapped = mapped-more (mapped_back c.args.back.now) c.loop-entry.book c.add_mapped.new.book c.in-Some.entry.now c.next.new.self c.loop-entry.entry-iterator step
          c.in_ok-add_mapped.ensures ∙ c.loop-entry.invariant.mapped;
      allowed = All-tail IsAllowed c.in-Some.entry.now c.next.new.self (rw step at c.loop-entry.invariant.allowed);
    }
