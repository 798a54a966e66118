-- An author who is named already changes nothing of what is named.
use Rattle.std.proofs.Common.{sym, ◌∙◌, rules}
use Rattle.std.proofs.lemmas.Result.{on_ok_weaker}
use denote.Enum.Bare.{same_true}
use Rattle.redl_left.specs.contracts.fact.Fact.{the_type}
use Rattle.redl_left.specs.Finds.{found_value}
use Rattle.redl_left.specs.Lines.{noted_all}
use Rattle.redl_left.specs.Seen.{tables_of}
use Rattle.redl_left.proofs.AlikeLaws.{alike, alike_author}
use Rattle.redl_left.proofs.gather.gather_value.Goals as goal

pub returns-then-names : goal.returns-then-names
returns-then-names c =
    alike_author (tables_of c.args.seen.now) c.args.part.now c.args.row.now c.args.value.now (same_true the_type (search rules) _ _ (sym c.eq.ensures ∙ c.if-eq.true)) (c.names.ensures c.if-names.true)

pub returns : goal.returns
returns c =
    let old = tables_of c.args.seen.now in
    let new = tables_of c.note_value.new.seen in
    on_ok_weaker c.note_value.result (λ e. alike new (noted_all old (found_value c.args.part.now c.args.row.now c.args.value.now)) e) c.note_value.ensures
