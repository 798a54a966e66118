-- Tags as code keeps them.
use Rattle.std.specs.Prelude.{IfSome}
use Rattle.std.specs.List.{All}
use Rattle.redl_left.specs.Finds.{Table}
use Rattle.redl_left.specs.Pieces.{IsKnown}
use Rattle.redl_left.specs.declared.tags.Known.{Known}

-- each of them is found to be what is kept with it
abbrev pub AreKnown : Table → Known → Type 0
AreKnown table known = All (λ kept. IfSome kept (λ tag. IsKnown table tag.text.now tag.fact)) known.tags.items
