-- The first value of an attribute, found attribute by attribute.
use Rattle.std.proofs.Common.{◌≡◌, ◌∙◌, refl, sym, ap, ℕ, List, [], ◌∷◌, Bool, true, false, true≢false, Option, Some, None, codes, take, find, unwrap_or, is_some, if◌then◌else◌}
use Rattle.std.specs.Option.{option_map}
use denote.Ref.{Bor}
use Rattle.redl_grammar.specs.Names.{Name}
use Rattle.redl_reading.specs.Steps.{or_else}
use Rattle.redl_stamp.specs.Attribute.{has_local_name, own_value}
use Rattle.redl_bare.specs.Marks.{Stamp}
use Rattle.redl_bare.specs.Inside.Stamps.{value_view, found_or, stamp_with}
use Rattle.redl_bare.specs.declared.stamps.Values.{Values}

-- an attribute comes to what is found before it
found_then : (found : Option (List ℕ)) (local : List ℕ) (a : Name × List ℕ) (rest : List (Name × List ℕ))
    → found_or (or_else found (own_value local a)) local rest ≡ found_or found local (a ∷ rest)
found_then (Some v) local a rest = refl
found_then None local a rest = at (has_local_name local a)
  where
    at : (b : Bool) → found_or (or_else None (if b then Some a.1 else None)) local rest
        ≡ unwrap_or (or_else None (option_map (λ x. x.1) (if b then Some a else find (has_local_name local) rest))) []
    at true = refl
    at false = refl

pub stamp_then : (values next : Values) (a : Name × List ℕ) (rest : List (Name × List ℕ))
    → value_view next.author ≡ or_else (value_view values.author) (own_value (codes "author") a)
    → value_view next.date ≡ or_else (value_view values.date) (own_value (codes "date") a)
    → stamp_with next rest ≡ stamp_with values (a ∷ rest)
stamp_then values next a rest e f =
    ap (λ v. record { author = found_or v (codes "author") rest; minute = take 16 (found_or (value_view next.date) (codes "date") rest) }) e
    ∙ ap (λ v. record { author = found_or (or_else (value_view values.author) (own_value (codes "author") a)) (codes "author") rest; minute = take 16 (found_or v (codes "date") rest) }) f
    ∙ ap (λ x. record { author = x; minute = take 16 (found_or (or_else (value_view values.date) (own_value (codes "date") a)) (codes "date") rest) }) (found_then (value_view values.author) (codes "author") a rest)
    ∙ ap (λ x. record { author = found_or (value_view values.author) (codes "author") (a ∷ rest); minute = take 16 x }) (found_then (value_view values.date) (codes "date") a rest)

found_is : (found : Option (Bor (List ℕ))) (local : List ℕ) (rest : List (Name × List ℕ)) → is_some found ≡ true
    → found_or (value_view found) local rest ≡ found_or (value_view found) local []
found_is (Some v) local rest e = refl
found_is None local rest e = absurd (true≢false (sym e))

-- where both are found, no further attribute matters
pub stamp_found : (values : Values) (rest : List (Name × List ℕ)) → is_some values.author ≡ true → is_some values.date ≡ true → stamp_with values rest ≡ stamp_with values []
stamp_found values rest e f =
    ap (λ x. record { author = x; minute = take 16 (found_or (value_view values.date) (codes "date") rest) }) (found_is values.author (codes "author") rest e)
    ∙ ap (λ x. record { author = found_or (value_view values.author) (codes "author") []; minute = take 16 x }) (found_is values.date (codes "date") rest f)
