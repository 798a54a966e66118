-- Documents, and then the others.
use Rattle.redl_io.proofs.Puts.{puts_then, puts_fails}
use Rattle.std.proofs.Common.{true, false}
use Rattle.redl_opc.specs.Shape.{parts_of}
use Rattle.redl_shown.specs.Shown.{shown}
use Rattle.redl_html.proofs.PieceLaws.{pieces_text-append}
use Rattle.redl_page_stories.specs.Document.{sections}
use Rattle.redl_page_stories.specs.Views.{facts_of}
use Rattle.redl_page_stories.proofs.sections.put_stories.Goals as goal

pub returns-in_err-put_sections : goal.returns-in_err-put_sections
returns-in_err-put_sections g c =
    let parts = parts_of c.args.pkg.now in
    let facts = facts_of c.args.facts.now in
    puts_fails _ (pieces_text-append (sections shown facts true true parts) (sections shown facts false false parts)) c.from_residual.ensures.1 c.in_err-put_sections.ensures

pub returns : goal.returns
returns g c =
    let parts = parts_of c.args.pkg.now in
    let facts = facts_of c.args.facts.now in
    puts_then (pieces_text-append (sections shown facts true true parts) (sections shown facts false false parts)) c.in_ok-put_sections.ensures c.put_sections-2.ensures
