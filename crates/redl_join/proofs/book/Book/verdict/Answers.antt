use Rattle.std.proofs.Common.{sym, ap, ◌∙◌}
use Rattle.redl_join.specs.Verdicts.{verdict_at}
use Rattle.redl_join.proofs.Kept.{decided, undecided}
use Rattle.redl_join.proofs.book.Book.verdict.Goals as goal

pub returns-in-Some : goal.returns-in-Some
returns-in-Some c =
    c.verdict.ensures.verdict
    ∙ decided c.self.inside.entries c.self.inside.numbers.entries c.self.inside.by_revision c.args.rev c.in-Some.by_reviewer.now c.self.invariant (sym c.in-Some.ensures.value) c.verdict.ensures.ordered
    ∙ ap (λ book. verdict_at book c.args.rev) c.self.view_is

pub returns-in-None : goal.returns-in-None
returns-in-None c =
    undecided c.self.inside.entries c.self.inside.numbers.entries c.self.inside.by_revision c.args.rev c.self.invariant (sym c.in-None.ensures.value)
    ∙ ap (λ book. verdict_at book c.args.rev) c.self.view_is
