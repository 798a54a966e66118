use Rattle.std.proofs.Common.{ap, sym, ◌∙◌}
use Rattle.redl_tree.specs.Model.IdleTexts.{idle_nodes}
use Rattle.redl_left.specs.Finds.{finds}
use Rattle.redl_left.specs.Naming.{lacks_naming}
use Rattle.redl_left.specs.Search.{table_of}
use Rattle.redl_left.specs.declared.search.Search.{Search}
use Rattle.redl_left.proofs.NamingLaws.{naming_kept}
use Rattle.redl_left.proofs.search.Search.passes.Goals as goal

pub returns-in-Naming : goal.returns-in-Naming
returns-in-Naming c = λ passes part parent.
    ap (λ (search : Search). finds (table_of search) part parent (idle_nodes c.args.idle.now)) c.in-Naming.is
    ∙ naming_kept c.args.idle.now c.requires.idle (ap lacks_naming c.requires.text ∙ sym c.lacks_naming.ensures ∙ passes) part parent
