-- What is asked of stories and their revisions to find edits.
use Rattle.std.specs.Prelude.{ℕ, List}
use Rattle.redl_index.specs.declared.revision.Revision.{Revision}
use Rattle.redl_spans.specs.Stories.{nothing_walked, stories_walked}
use Rattle.redl_spans.specs.declared.span.Span.{Span}
use Rattle.redl_tree.specs.Model.View.{Element}
use Rattle.redl_edits.specs.Formats.{stories_formats}
use Rattle.redl_edits.specs.declared.formats.Format.{Format}
use Rattle.redl_edits.specs.Passed.{stories_passed}

-- the revisions by their numbers; which units members hold, in the order in which they end; what a reader passes; and
-- what changes of properties change
pub record Facts : Type 0 where
  pub revisions : List Revision
  pub spans : List Span
  pub passed : List ℕ
  pub formats : List Format

abbrev pub facts_of : List Element → List Revision → Facts
facts_of roots revisions = record {
  revisions = revisions;
  spans = (stories_walked roots nothing_walked).spans;
  passed = stories_passed roots;
  formats = stories_formats roots;
}
