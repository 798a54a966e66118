-- Words of which one is in each name of an idle mark.
use Rattle.std.specs.Prelude.{ℕ, Bool, ◌&&◌, List, codes}
use Rattle.redl_reading.specs.Lists.{lacks}

-- neither of the two words is in the text
abbrev pub lacks_middles : List ℕ → Bool
lacks_middles t = lacks (codes "Change") t && lacks (codes "Xml") t
