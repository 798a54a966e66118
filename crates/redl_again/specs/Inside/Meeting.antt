-- Whether stretches that meet form `]]>`, from the front: by how many `]` are before a place.
use Rattle.std.specs.Prelude.{ℕ, ◌+◌, ◌==◌, nat_le, List, [], ◌∷◌, Bool, true, not, ◌&&◌, ◌||◌, codes, min, if◌then◌else◌}
use Rattle.redl_reading.specs.Lists.{begins}
use Rattle.redl_tree.specs.Model.Nodes.{Nodes, no_nodes, bytes, element}
use Rattle.redl_again.specs.declared.stretch.Before.{Before}

-- how many `]` are at the end of a text that follows so many, up to 2
abbrev pub brackets : ℕ → List ℕ → ℕ
brackets before [] = before
brackets before (b ∷ text) = brackets (if b == 93 then min (before + 1) 2 else 0) text

-- the same of stretches
abbrev pub brackets_of : Before → ℕ
brackets_of before = brackets before.brackets before.text.now

-- a text that follows so many `]` forms `]]>` with them
abbrev pub closes : ℕ → List ℕ → Bool
closes before text = (nat_le 1 before && begins (codes "]>") text) || (nat_le 2 before && begins (codes ">") text)

-- no stretches that meet form `]]>`, where so many `]` are before the first one
abbrev pub join_well : ℕ → Nodes → Bool
join_well before no_nodes = true
join_well before (bytes b rest) = not (closes before b) && join_well (brackets before b) rest
join_well before (element tag kids rest) = join_well 0 kids && join_well 0 rest
