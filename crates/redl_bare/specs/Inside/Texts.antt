-- Texts, as the code goes past them.
use Rattle.std.specs.Prelude.{List, [], ◌∷◌, map, Bool, not, ◌==◌}
use Rattle.redl_bare.specs.Units.{Text, byte, object}
use Rattle.redl_bare.specs.Fields.{Fields, after_text}
use Rattle.redl_bare.specs.declared.starts.Short.{Short}
use Rattle.redl_bare.specs.declared.starts.Short.TheVariants.{Nothing, Characters, One}

-- the fields that are open after texts
abbrev pub after_texts : Fields → List Text → Fields
after_texts f [] = f
after_texts f (t ∷ ts) = after_texts (after_text f t) ts

-- whether characters are left out
abbrev pub is_silent : Fields → Bool
is_silent f = not (f.silent == 0)

-- the texts that an element shows
abbrev pub short_of : Short → List Text
short_of Nothing = []
short_of (Characters b) = map byte b.now
short_of (One what) = object what ∷ []
