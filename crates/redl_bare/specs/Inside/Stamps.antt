-- A stamp as one look at the attributes of a tag finds it: the first value of each of its two attributes counts.
use Rattle.std.specs.Prelude.{ℕ, List, codes, take, find, Option, unwrap_or, []}
use Rattle.std.specs.Option.{option_map}
use denote.Ref.{Bor}
use Rattle.redl_grammar.specs.Names.{Name}
use Rattle.redl_reading.specs.Steps.{or_else}
use Rattle.redl_stamp.specs.Attribute.{has_local_name}
use Rattle.redl_bare.specs.Marks.{Stamp}
use Rattle.redl_bare.specs.declared.stamps.Values.{Values}

abbrev pub value_view : Option (Bor (List ℕ)) → Option (List ℕ)
value_view value = option_map (λ v. v.now) value

-- the value that is found, or else that of the first of these attributes that has the local name
abbrev pub found_or : Option (List ℕ) → List ℕ → List (Name × List ℕ) → List ℕ
found_or found local attributes = unwrap_or (or_else found (option_map (λ a. a.1) (find (has_local_name local) attributes))) []

-- the stamp of what is found, and of the attributes that are left
abbrev pub stamp_with : Values → List (Name × List ℕ) → Stamp
stamp_with values attributes = record {
  author = found_or (value_view values.author) (codes "author") attributes;
  minute = take 16 (found_or (value_view values.date) (codes "date") attributes);
}
