-- Steps as one list of numbers, by which the walk over kept text says which of them it takes.
use Rattle.std.specs.Prelude.{◌≡◌, ℕ, List, [], ◌∷◌, ◌++◌, length, OnOk, refl}
use Rattle.std.proofs.Common.{sym, ap, ◌∙◌, append_assoc}
use Rattle.std.proofs.lemmas.Result.{on_ok_weaker}
use Rattle.redl_idle.specs.Takes.{Taking}
use Rattle.redl_spans.specs.Units.{Step, units_step, place_step}
use Rattle.redl_spans.specs.Walks.{Walk, step, stepped}
use Rattle.redl_spans.specs.declared.place.Anchor.{Anchor}
use Rattle.redl_spans.specs.declared.place.Anchor.TheVariants.{Start, End, Reference}

abbrev pub anchor_number : Anchor → ℕ
anchor_number Start = 1
anchor_number End = 2
anchor_number Reference = 3

-- steps, and then these numbers
abbrev pub encoded_then : List Step → List ℕ → List ℕ
encoded_then [] rest = rest
encoded_then (units_step n ∷ more) rest = 0 ∷ n ∷ encoded_then more rest
encoded_then (place_step anchor id ∷ more) rest = anchor_number anchor ∷ length id ∷ (id ++ encoded_then more rest)

abbrev pub encoded : List Step → List ℕ
encoded steps = encoded_then steps []

encoded-then : (xs : List Step) (rest : List ℕ) → encoded_then xs rest ≡ encoded xs ++ rest
encoded-then [] rest = refl
encoded-then (units_step n ∷ xs) rest = ap (λ (r : List ℕ). 0 ∷ n ∷ r) (encoded-then xs rest)
encoded-then (place_step anchor id ∷ xs) rest =
    ap (λ (r : List ℕ). anchor_number anchor ∷ length id ∷ (id ++ r)) (encoded-then xs rest)
    ∙ ap (λ (r : List ℕ). anchor_number anchor ∷ length id ∷ r) (sym (append_assoc id (encoded xs) rest))

encoded-both : (xs ys : List Step) → encoded (xs ++ ys) ≡ encoded_then xs (encoded ys)
encoded-both [] ys = refl
encoded-both (units_step n ∷ xs) ys = ap (λ (r : List ℕ). 0 ∷ n ∷ r) (encoded-both xs ys)
encoded-both (place_step anchor id ∷ xs) ys = ap (λ (r : List ℕ). anchor_number anchor ∷ length id ∷ (id ++ r)) (encoded-both xs ys)

pub encoded-append : (xs ys : List Step) → encoded (xs ++ ys) ≡ encoded xs ++ encoded ys
encoded-append xs ys = encoded-both xs ys ∙ encoded-then xs (encoded ys)

pub stepped-append : (xs ys : List Step) (w : Walk) → stepped (xs ++ ys) w ≡ stepped ys (stepped xs w)
stepped-append [] ys w = refl
stepped-append (x ∷ xs) ys w = stepped-append xs ys (step x w)

-- these steps were taken
pub record Steps (old new : Walk) (shown : List ℕ) : Type 0 where
  pub found : List Step
  pub is : shown ≡ encoded found
  pub taken : new ≡ stepped found old

-- it takes the steps that the text says
abbrev pub by_steps : {E : Type 0} → Taking Walk E
by_steps = record {
  Takes = λ T old new text result. OnOk result (Steps old new text);
  nothing = λ T taker x. record { found = []; is = refl; taken = refl };
  then = λ T U old mid new first rest x r p q. on_ok_weaker r (λ n. record {
    found = p.found ++ n.found;
    is = ap (λ (f : List ℕ). f ++ rest) p.is ∙ ap (λ (f : List ℕ). encoded p.found ++ f) n.is ∙ sym (encoded-append p.found n.found);
    taken = n.taken ∙ ap (stepped n.found) p.taken ∙ sym (stepped-append p.found n.found old);
  }) q;
  stops = λ T U old new first rest e p. tt;
}
