-- An end tag that is looked for by its name.
use Rattle.std.proofs.Common.{◌≡◌, ◌≢◌, ℕ, List, [], ◌∷◌, ◌++◌, length, Option, Some, None, refl, sym, append_assoc}
use Rattle.std.specs.Prelude.{IfSome}
use Rattle.redl_reading.specs.Lists.{behind}
use Rattle.redl_reading.specs.Steps.{Gives}
use Rattle.redl_reading.proofs.Words.{behind_takes}
use Rattle.redl_grammar.specs.Names.{Name, name_text}

-- what the code answers on a word, seen in what is asked of the rest
pub told_behind : {X : Type 0} (view : X → List ℕ) (word bs : List ℕ) (P : List ℕ → Type 0) (r : Option X) → Gives view r (behind word bs) → ((rest : List ℕ) → bs ≡ word ++ rest → P rest) → IfSome r (λ x. P (view x))
told_behind view word bs P None given h = tt
told_behind view word bs P (Some x) given h = h (view x) (behind_takes word bs (view x) given)

pub text_without_prefix : (n : Name) → length n.prefix ≡ 0 → n.local ≡ name_text n
text_without_prefix n none = without n.prefix n.local none where
  without : (prefix local : List ℕ) → length prefix ≡ 0 → (let n : Name = record { prefix = prefix; local = local } in local ≡ name_text n)
  without [] local none = refl
  without (p ∷ ps) local none = absurd cc

pub text_with_prefix : (n : Name) (rest : List ℕ) → (length n.prefix ≢ 0) → n.prefix ++ (58 ∷ (n.local ++ rest)) ≡ name_text n ++ rest
text_with_prefix n rest some = with_it n.prefix n.local some where
  with_it : (prefix local : List ℕ) → (length prefix ≢ 0) → (let n : Name = record { prefix = prefix; local = local } in prefix ++ (58 ∷ (local ++ rest)) ≡ name_text n ++ rest)
  with_it [] local some = absurd (some refl)
  with_it (p ∷ ps) local some = sym (append_assoc (p ∷ ps) (58 ∷ local) rest)
