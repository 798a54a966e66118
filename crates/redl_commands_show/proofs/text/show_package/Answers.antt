use Rattle.std.proofs.Common.{ap}
use Rattle.redl_bare.specs.BareText.{bare_text}
use Rattle.redl_tree.specs.declared.kinds.Say.TheVariants.{Accept, Reject}
use Rattle.redl_commands_show.proofs.TextLaws.{plain_text_of}
use Rattle.redl_commands_show.proofs.text.show_package.Goals as goal

pub returns-in-Original : goal.returns-in-Original
returns-in-Original c =
    rw c.in-Original.is
    (rw (plain_text_of Reject c.args.pkg c.into_counted-counted.result.pkg c.into_counted-counted.result.count c.into_counted-counted.ensures.nodes c.into_counted-counted.ensures.count) at c.show_plain.ensures)

pub returns-in-Final : goal.returns-in-Final
returns-in-Final c =
    rw c.in-Final.is
    (rw (plain_text_of Accept c.args.pkg c.into_counted-counted.result.pkg c.into_counted-counted.result.count c.into_counted-counted.ensures.nodes c.into_counted-counted.ensures.count) at c.show_plain-in-Final.ensures)

pub returns-in-Marked : goal.returns-in-Marked
returns-in-Marked c = rw c.in-Marked.is (rw c.into_counted-counted.ensures.nodes at c.show_marked.ensures)

pub returns-in-Bare : goal.returns-in-Bare
returns-in-Bare c = rw c.in-Bare.is (ap bare_text c.into_counted-counted.ensures.nodes)

pub returns-in-Left : goal.returns-in-Left
returns-in-Left c = rw c.in-Left.is (rw c.into_counted-counted.ensures.nodes at c.show_left.ensures)

pub returns-in-LeftJson : goal.returns-in-LeftJson
returns-in-LeftJson c = rw c.in-LeftJson.is (rw c.into_counted-counted.ensures.nodes at c.show_left_json.ensures)
