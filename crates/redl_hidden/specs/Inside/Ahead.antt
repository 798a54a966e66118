-- What the first properties of a run say, read from its text: each of them shows a letter, and so does their end.
use Rattle.std.specs.Prelude.{◌≡◌, ℕ, ◌==◌, Bool, true, false, List, [], ◌∷◌, ◌++◌, codes, Option, Some, None, unwrap_or, refl, if◌then◌else◌}
use Rattle.redl_reading.specs.Steps.{or_else}
use Rattle.redl_stamp.specs.Attribute.{written_value}
use Rattle.redl_tree.specs.Model.Nodes.{Tag}
use Rattle.redl_tree.specs.Roles.Names.{is, of_w}
use Rattle.redl_idle.specs.Shows.{ShowRule}
use Rattle.redl_hidden.specs.Runs.{value_hides}
use Rattle.redl_hidden.specs.Styles.{HiddenStyles, on_or}
use Rattle.redl_hidden.specs.declared.ahead.Own.{Own}
use Rattle.redl_hidden.specs.declared.ahead.Level.{Level}
use Rattle.redl_hidden.specs.declared.ahead.Level.TheVariants.{Kids, Properties, Below}
use Rattle.redl_hidden.specs.declared.ahead.Within.{Within}

-- ---- letters

abbrev pub vanish_letter : Bool → List ℕ
vanish_letter true = 1 ∷ []
vanish_letter false = 2 ∷ []

abbrev pub style_letter : Option Bool → List ℕ
style_letter None = 3 ∷ []
style_letter (Some false) = 4 ∷ []
style_letter (Some true) = 5 ∷ []

-- those of a property with this local name and tail
abbrev pub property_letters : HiddenStyles → List ℕ → List ℕ → List ℕ
property_letters hidden local tail =
    if is "vanish" (of_w local) then vanish_letter (on_or true (written_value tail (codes "val")))
    else if is "rStyle" (of_w local) then style_letter (value_hides hidden (written_value tail (codes "val")))
    else []

-- those of an element at this level
abbrev pub letters_in : HiddenStyles → Level → List ℕ → List ℕ → List ℕ
letters_in hidden Properties local tail = property_letters hidden local tail
letters_in hidden _ local tail = []

-- the level of its kids
abbrev pub level_in : Level → Tag → Level
level_in Kids tag = if is "rPr" tag then Properties else Below
level_in Properties tag = Below
level_in Below tag = Below

-- and the letter after these
abbrev pub closing : Level → List ℕ
closing Properties = 6 ∷ []
closing _ = []

abbrev pub ahead_rule : ShowRule Within
ahead_rule = record {
  bytes = λ within b. [];
  start = λ within local tail kids. letters_in within.hidden.now within.level local tail;
  inside = λ within local tail kids. record { hidden = within.hidden; level = level_in within.level (of_w local) };
  end = λ within. closing within.level;
}

-- ---- what is noted of them: the first of each sort, up to the end of the first properties

abbrev pub with_vanish : Own → Bool → Own
with_vanish own on = record { vanish = or_else own.vanish (Some on); style = own.style; closed = own.closed }

abbrev pub with_style : Own → Option Bool → Own
with_style own hides = record { vanish = own.vanish; style = or_else own.style (Some hides); closed = own.closed }

abbrev pub close : Own → Own
close own = record { vanish = own.vanish; style = own.style; closed = true }

abbrev pub read : Own → ℕ → Own
read own letter =
    if letter == 1 then with_vanish own true
    else if letter == 2 then with_vanish own false
    else if letter == 3 then with_style own None
    else if letter == 4 then with_style own (Some false)
    else if letter == 5 then with_style own (Some true)
    else close own

abbrev pub after : Own → List ℕ → Own
after own [] = own
after own (letter ∷ letters) = after (if own.closed then own else read own letter) letters

pub after_nothing : (own : Own) → after own [] ≡ own
after_nothing own = refl

pub after_more : (own : Own) (first rest : List ℕ) → after (after own first) rest ≡ after own (first ++ rest)
after_more own [] rest = refl
after_more own (letter ∷ letters) rest = after_more (if own.closed then own else read own letter) letters rest

-- ---- whether a run is hidden of which this was noted

abbrev pub hides_by : HiddenStyles → Bool → Own → Bool
hides_by hidden paragraph own = unwrap_or (or_else own.vanish (unwrap_or own.style (value_hides hidden None))) paragraph
