-- The facts in code are those of the package.
use Rattle.std.proofs.Common.{ap, sym}
use Rattle.redl_shown.specs.Shown.{shown}
use Rattle.redl_html.specs.Pieces.{pieces_text}
use Rattle.redl_html.proofs.PieceLaws.{puts_is}
use Rattle.redl_page_stories.specs.Document.{stories_pieces}
use Rattle.redl_page_stories.specs.Views.{facts_of}
use Rattle.redl_page_stories.proofs.NodeLaws.{facts-same}
use Rattle.redl_page_stories.proofs.sections.put_document.Goals as goal

pub returns : goal.returns
returns g c =
    puts_is (ap (λ f. pieces_text (stories_pieces shown f c.args.pkg.now)) (sym (facts-same (facts_of c.args.facts.now) c.args.pkg.now c.requires.signs c.requires.hidden))) c.put_stories.ensures
