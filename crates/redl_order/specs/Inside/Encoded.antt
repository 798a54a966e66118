-- References as one list of numbers, by which the walk over kept text says which of them it found.
use Rattle.std.specs.Prelude.{◌≡◌, Bool, true, false, ℕ, List, [], ◌∷◌, ◌++◌, length, OnOk, refl}
use Rattle.std.proofs.Common.{sym, ap, ◌∙◌, append_assoc, append-nil}
use Rattle.std.proofs.lemmas.Result.{on_ok_weaker}
use Rattle.redl_idle.specs.Shows.{ShowRule}
use Rattle.redl_idle.specs.Takes.{Taking}
use Rattle.redl_order.specs.References.{named_by, named_number}
use Rattle.redl_order.specs.declared.find.Anywhere.{Anywhere}
use Rattle.redl_order.specs.declared.find.Seen.{Seen}
use Rattle.redl_order.specs.declared.reference.Reference.{Reference}

abbrev pub bit : Bool → ℕ
bit true = 1
bit false = 0

-- references, and then these numbers
abbrev pub encoded_then : List Reference → List ℕ → List ℕ
encoded_then [] rest = rest
encoded_then (r ∷ rs) rest = named_number r.named ∷ bit r.own_sign ∷ length r.id ∷ (r.id ++ encoded_then rs rest)

abbrev pub encoded : List Reference → List ℕ
encoded references = encoded_then references []

encoded-then : (xs : List Reference) (rest : List ℕ) → encoded_then xs rest ≡ encoded xs ++ rest
encoded-then [] rest = refl
encoded-then (x ∷ xs) rest =
    ap (λ (r : List ℕ). named_number x.named ∷ bit x.own_sign ∷ length x.id ∷ (x.id ++ r)) (encoded-then xs rest)
    ∙ ap (λ (r : List ℕ). named_number x.named ∷ bit x.own_sign ∷ length x.id ∷ r) (sym (append_assoc x.id (encoded xs) rest))

encoded-both : (xs ys : List Reference) → encoded (xs ++ ys) ≡ encoded_then xs (encoded ys)
encoded-both [] ys = refl
encoded-both (x ∷ xs) ys = ap (λ (r : List ℕ). named_number x.named ∷ bit x.own_sign ∷ length x.id ∷ (x.id ++ r)) (encoded-both xs ys)

pub encoded-append : (xs ys : List Reference) → encoded (xs ++ ys) ≡ encoded xs ++ encoded ys
encoded-append xs ys = encoded-both xs ys ∙ encoded-then xs (encoded ys)

-- what idle elements show is the references that they are
abbrev pub idle_rule : ShowRule Anywhere
idle_rule = record {
  bytes = λ below b. [];
  start = λ below local tail kids. encoded (named_by local tail);
  inside = λ below local tail kids. below;
  end = λ below. [];
}

-- these references were added
pub record Adds (old new : List Reference) (shown : List ℕ) : Type 0 where
  pub found : List Reference
  pub is : shown ≡ encoded found
  pub added : new ≡ old ++ found

-- it adds the references that the text says
abbrev pub by_adding : {E : Type 0} → Taking Seen E
by_adding = record {
  Takes = λ T old new text result. OnOk result (Adds old.references.items new.references.items text);
  nothing = λ T taker x. record { found = []; is = refl; added = sym (append-nil taker.references.items) };
  then = λ T U old mid new first rest x r p q. on_ok_weaker r (λ n. record {
    found = p.found ++ n.found;
    is = ap (λ (f : List ℕ). f ++ rest) p.is ∙ ap (λ (f : List ℕ). encoded p.found ++ f) n.is ∙ sym (encoded-append p.found n.found);
    added = n.added ∙ ap (λ (s : List Reference). s ++ n.found) p.added ∙ append_assoc old.references.items p.found n.found;
  }) q;
  stops = λ T U old new first rest e p. tt;
}
