-- A row that asks is the first of those that are left.
use Rattle.std.proofs.Common.{sym, ◌∙◌}
use Rattle.redl_left.specs.Named.{named_of}
use Rattle.redl_left.specs.declared.fact.Fact.TheVariants.{Ins}
use Rattle.redl_left.specs.declared.name.Name.TheVariants.{NumberingChange}
use Rattle.redl_left.specs.declared.row.Where.TheVariants.{Word}
use Rattle.redl_left.specs.declared.row.When.TheVariants.{Always}
use Rattle.redl_left.specs.declared.row.Value.TheVariants.{Nothing}
use Rattle.redl_left.specs.declared.row.Row.{Row}
use Rattle.redl_left.proofs.FindLaws.{row_here}
use Rattle.redl_left.proofs.find.first_row.Goals as goal

-- never met, since the place is among the rows
no_row : Row
no_row = record { fact = Ins; place = Word NumberingChange; when = Always; value = Nothing }

pub returns-then-branch : goal.returns-then-branch
unfolding no_row
returns-then-branch c =
    let asked = c.args.asked.now in
    row_here (named_of c.args.named.now) c.args.rows.now c.loop-row.row-index no_row asked.parent.now asked.space asked.local.now asked.tail.now c.loop-row-test.true
    (sym c.in_ok-asks.ensures ∙ c.if-branch.true)
    ∙ c.loop-row.invariant
