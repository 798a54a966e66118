-- A value whose bytes need no test of their own.
use Rattle.std.proofs.Common.{◌≡◌, ℕ, Bool, true, false, eqb, List, [], ◌∷◌, ◌++◌, Option, Some, None, refl, sym, ap, ◌∙◌, cond}
use Rattle.std.specs.Prelude.{◌&&◌, ◌||◌, not, codes}
use Rattle.std.specs.List.{list_all}
use Rattle.std.proofs.lemmas.Bool.{and_parts, and_from}
use Rattle.redl_reading.specs.Lists.{behind, front, after, is_other, is_none_of, field_at}
use Rattle.redl_reading.specs.Steps.{◌>>=◌}
use Rattle.redl_reading.proofs.Runs.{front-after, front_passes}
use Rattle.redl_reading.proofs.Words.{behind_takes}
use Rattle.redl_reading.proofs.Fields.{field_again}
use Rattle.redl_grammar.specs.Characters.{is_space}
use Rattle.redl_grammar.specs.Names.{Name}
use Rattle.redl_grammar.specs.ScanNames.{name_at}
use Rattle.redl_grammar.specs.ScanTags.{quote_at, quoted_at, opening_at, equated_at, is_plain, is_value, value_at, attribute_at}
use Rattle.redl_grammar.proofs.Attributes.{plain_value}

-- ---- the parts of an attribute

pub opened : (bs : List ℕ) → equated_at bs ≡ (opening_at bs >>= λ q. field_at q.0 q.1)
unfolding equated_at quoted_at opening_at
opened bs = by_equals (behind (codes "=") (after is_space bs)) where
  by_equals : (o : Option (List ℕ)) → (o >>= λ more. quote_at (after is_space more) >>= λ q. field_at q.0 q.1) ≡ ((o >>= λ more. quote_at (after is_space more)) >>= λ q. field_at q.0 q.1)
  by_equals None = refl
  by_equals (Some more) = refl

-- what follows a quote decides what the value is
pub opened_as : (bs : List ℕ) (o : Option (ℕ × List ℕ)) (r : Option (List ℕ × List ℕ)) → opening_at bs ≡ o → (o >>= λ q. field_at q.0 q.1) ≡ r → equated_at bs ≡ r
opened_as bs o r e f = opened bs ∙ ap (λ (p : Option (ℕ × List ℕ)). p >>= λ q. field_at q.0 q.1) e ∙ f

value_is : (bs : List ℕ) (o : Option (List ℕ × List ℕ)) → equated_at bs ≡ o → value_at bs ≡ (o >>= λ value. cond (is_value value.0) (Some value) None)
unfolding value_at
value_is bs o e = ap (λ (p : Option (List ℕ × List ℕ)). p >>= λ value. cond (is_value value.0) (Some value) None) e

pub no_value : (bs : List ℕ) → equated_at bs ≡ None → value_at bs ≡ None
no_value bs e = value_is bs None e

-- a value that was read, and whether it is a legal one
pub some_value : (bs : List ℕ) (quote : ℕ) (more value rest : List ℕ) (legal : Bool) → opening_at bs ≡ Some (quote, more) → field_at quote more ≡ Some (value, rest) → is_value value ≡ legal → value_at bs ≡ cond legal (Some (value, rest)) None
some_value bs quote more value rest legal e f test =
    value_is bs (Some (value, rest)) (opened_as bs (Some (quote, more)) (Some (value, rest)) e f) ∙ ap (λ (t : Bool). cond t (Some (value, rest)) None) test

-- the answers of the steps
abbrev Found : Type 0
Found = (Name × List ℕ) × List ℕ

abbrev with_name : Name → List ℕ × List ℕ → Option Found
with_name name value = Some ((name, value.0), value.1)

abbrev if_legal : List ℕ × List ℕ → Option (List ℕ × List ℕ)
if_legal value = cond (is_value value.0) (Some value) None

abbrev with_name_if_legal : Name → List ℕ × List ℕ → Option Found
with_name_if_legal name value = cond (is_value value.0) (with_name name value) None

by_test : (name : Name) (value : List ℕ × List ℕ) (legal : Bool) → cond legal (with_name name value) None ≡ (cond legal (Some value) None >>= with_name name)
by_test name value true = refl
by_test name value false = refl

by_equated : (name : Name) (o : Option (List ℕ × List ℕ)) → (o >>= with_name_if_legal name) ≡ ((o >>= if_legal) >>= with_name name)
by_equated name None = refl
by_equated name (Some value) = by_test name value (is_value value.0)

by_value : (bs : List ℕ) → attribute_at bs ≡ (name_at bs >>= λ name. value_at name.1 >>= with_name name.0)
unfolding attribute_at value_at
by_value bs = by_name (name_at bs) where
  by_name : (o : Option (Name × List ℕ)) → (o >>= λ name. equated_at name.1 >>= with_name_if_legal name.0) ≡ (o >>= λ name. (equated_at name.1 >>= if_legal) >>= with_name name.0)
  by_name None = refl
  by_name (Some name) = by_equated name.0 (equated_at name.1)

pub no_name : (bs : List ℕ) → name_at bs ≡ None → attribute_at bs ≡ None
no_name bs e = by_value bs ∙ ap (λ (o : Option (Name × List ℕ)). o >>= λ name. value_at name.1 >>= with_name name.0) e

pub some_name : (bs : List ℕ) (name : Name) (more : List ℕ) (o : Option (List ℕ × List ℕ)) → name_at bs ≡ Some (name, more) → value_at more ≡ o → attribute_at bs ≡ (o >>= with_name name)
some_name bs name more o e f =
    by_value bs ∙ ap (λ (n : Option (Name × List ℕ)). n >>= λ x. value_at x.1 >>= with_name x.0) e ∙ ap (λ (v : Option (List ℕ × List ℕ)). v >>= with_name name) f

-- ---- a plain value

-- the bytes before a quote, `<` and `&` have no such quote
none_alike : (q : ℕ) (a : List ℕ) → list_all (is_none_of q 60 38) a ≡ true → list_all (is_other q) a ≡ true
none_alike q [] all = refl
none_alike q (b ∷ bs) all =
    let both = and_parts (is_none_of q 60 38 b) (list_all (is_none_of q 60 38) bs) all in
    and_from (is_other q b) (list_all (is_other q) bs) (here (eqb b q) (eqb b 60) (eqb b 38) both.0) (none_alike q bs both.1) where
      here : (x y z : Bool) → not (x || y || z) ≡ true → not x ≡ true
      here false y z h = refl
      here true y z h = h

-- and neither `<` nor `&`
are_plain : (q : ℕ) (a : List ℕ) → list_all (is_none_of q 60 38) a ≡ true → list_all is_plain a ≡ true
are_plain q [] all = refl
are_plain q (b ∷ bs) all =
    let both = and_parts (is_none_of q 60 38 b) (list_all (is_none_of q 60 38) bs) all in
    and_from (is_plain b) (list_all is_plain bs) (here (eqb b q) (eqb b 60) (eqb b 38) both.0) (are_plain q bs both.1) where
      here : (x y z : Bool) → not (x || y || z) ≡ true → (not y && not z) ≡ true
      here false false false h = refl
      here false false true h = h
      here false true z h = h
      here true y z h = absurd cc

pub plain_found : (quote : ℕ) (bs value rest more : List ℕ) → value ≡ front (is_none_of quote 60 38) bs → rest ≡ after (is_none_of quote 60 38) bs → behind (quote ∷ []) rest ≡ Some more → (field_at quote bs ≡ Some (value, more)) × (is_value value ≡ true)
plain_found quote bs value rest more before behind_it e =
    let takes : after (is_none_of quote 60 38) bs ≡ quote ∷ more = sym behind_it ∙ behind_takes (quote ∷ []) rest more e in
    let all : list_all (is_none_of quote 60 38) value ≡ true = ap (list_all (is_none_of quote 60 38)) before ∙ front_passes (is_none_of quote 60 38) bs in
    let whole : bs ≡ value ++ (quote ∷ more) = sym (front-after (is_none_of quote 60 38) bs) ∙ ap (λ (z : List ℕ). z ++ after (is_none_of quote 60 38) bs) (sym before) ∙ ap (λ (z : List ℕ). value ++ z) takes in
    (ap (field_at quote) whole ∙ field_again quote value more (none_alike quote value all), plain_value value (are_plain quote value all))
