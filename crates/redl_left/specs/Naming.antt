-- Words without which a kept text names no comment, no note and no author.
use Rattle.std.specs.Prelude.{ℕ, Bool, ◌&&◌, List, codes}
use Rattle.redl_reading.specs.Lists.{lacks}

-- neither of the two words is in the text
abbrev pub lacks_naming : List ℕ → Bool
lacks_naming t = lacks (codes "author") t && lacks (codes "Reference") t
