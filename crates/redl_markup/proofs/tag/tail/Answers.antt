use Rattle.std.proofs.Common.{map, ◌∙◌, ap, sym}
use Rattle.redl_markup.proofs.Preserving.{one_name}
use Rattle.redl_markup.specs.Views.{name_view}
use Rattle.redl_markup.proofs.Listing.{names_listed, names_of_none}
use Rattle.redl_grammar.proofs.Tags.{tail_of_none}
use Rattle.redl_markup.proofs.tag.tail.Goals as goal

pub returns-then-is_at_end-clause-read : goal.returns-then-is_at_end-clause-read
returns-then-is_at_end-clause-read c = tail_of_none c.args.bytes.now (sym c.is_at_end.ensures ∙ c.if-is_at_end.true)

pub returns-then-is_at_end-clause-names : goal.returns-then-is_at_end-clause-names
returns-then-is_at_end-clause-names c = ap (map name_view) c.clear.ensures.items ∙ sym (names_of_none c.args.bytes.now)

pub returns-then-branch-clause-names : goal.returns-then-branch-clause-names
returns-then-branch-clause-names c =
    names_listed c.args.bytes.now (map name_view c.in_ok-names.names.items, c.in_ok-names.rest.now) c.in_ok-names.ensures

pub returns-in-Some-clause-read : goal.returns-in-Some-clause-read
returns-in-Some-clause-read c = c.in-Some.ensures.read

pub returns-in-Some-clause-names : goal.returns-in-Some-clause-names
returns-in-Some-clause-names c = one_name _ _ _ c.in_ok-push.ensures.items c.clear-in-Some.ensures.items ∙ sym c.in-Some.ensures.names
