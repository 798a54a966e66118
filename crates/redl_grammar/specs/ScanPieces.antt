-- Reading one piece from the left.
use Rattle.std.specs.Prelude.{ℕ, List, Option, Some, None, if◌then◌else◌, codes}
use Rattle.redl_grammar.specs.declared.section.Section.{Section}
use Rattle.redl_reading.specs.Lists.{behind}
use Rattle.redl_grammar.specs.Stretches.{begins_item}
use Rattle.redl_grammar.specs.Pieces.{Piece}
use Rattle.redl_grammar.specs.ScanTags.{tag_at, end_tag_at}
use Rattle.redl_grammar.specs.ScanStretches.{stretch_at}

abbrev pub tag_or_stretch : Section → List ℕ → Option (List ℕ) → Option (List ℕ) → Option (Piece × List ℕ)
tag_or_stretch place bs (Some end) start = end_tag_at end
tag_or_stretch place bs None (Some start) = if begins_item bs then stretch_at place bs else tag_at start
tag_or_stretch place bs None None = stretch_at place bs

unfoldable pub piece_at : Section → List ℕ → Option (Piece × List ℕ)
piece_at place bs = tag_or_stretch place bs (behind (codes "</") bs) (behind (codes "<") bs)
