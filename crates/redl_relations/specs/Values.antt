-- Values of attributes, as they are written (Namespaces in XML 1.0).
use Rattle.std.specs.Prelude.{ℕ, List, [], unwrap_or}
use Rattle.redl_stamp.specs.Attribute.{written_value}

-- the value of the first attribute of a tail with this local name, or the empty text without one
abbrev pub value_in : List ℕ → List ℕ → List ℕ
value_in tail local = unwrap_or (written_value tail local) []
