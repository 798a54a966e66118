use Rattle.redl_commands_show.proofs.TextLaws.{ends_after, ends_after_put}
use Rattle.redl_terminal.specs.Masks.{masked}
use Rattle.redl_terminal.specs.declared.extent.Extent.TheVariants.{Lines}
use Rattle.redl_commands_show.proofs.text.put_shown.Goals as goal

pub returns-in-Masked : goal.returns-in-Masked
returns-in-Masked g c =
    let puts = rw c.deref.ensures.value at c.put_masked_text.ensures in
    rw c.in-Masked.is (ends_after (masked Lines c.in-Masked.text.items) c.put_masked_text.result c.end_of.ensures puts.all puts.front puts.cause)

pub returns-in-Made : goal.returns-in-Made
returns-in-Made g c =
    let puts = rw c.deref-in-Made.ensures.value at c.put.ensures in
    rw c.in-Made.is (ends_after_put c.in-Made.text.items c.put.result c.end_of-in-Made.ensures puts.appends puts.within puts.cause)

pub returns-in-Bare : goal.returns-in-Bare
returns-in-Bare g c = rw c.in-Bare.is c.put_bare_text.ensures
