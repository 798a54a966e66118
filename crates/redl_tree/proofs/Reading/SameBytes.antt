-- Words that are alike byte for byte.
use Rattle.std.proofs.Common.{◌≡◌, ℕ, true, List, refl, ap, ◌∙◌}
use Rattle.std.specs.Prelude.{bytes_eq}
use Rattle.std.proofs.lemmas.Bool.{and_parts}
use Rattle.std.proofs.lemmas.Slice.Eq.{bytes_eq-Decides}
use Rattle.redl_grammar.specs.Names.{Name, name_eq}

-- bytes that compare as equal are the same
pub same_bytes : (xs ys : List ℕ) → bytes_eq xs ys ≡ true → xs ≡ ys
same_bytes xs ys e = (bytes_eq-Decides xs ys).0 e

-- bytes are equal to themselves
pub bytes_same : (xs : List ℕ) → bytes_eq xs xs ≡ true
bytes_same xs = (bytes_eq-Decides xs xs).1 refl

-- ---- names

abbrev name_by : List ℕ → List ℕ → Name
name_by prefix local = record { prefix = prefix; local = local }

-- names that agree byte for byte are the same name
pub same_name : (m n : Name) → name_eq m n ≡ true → m ≡ n
same_name m n e =
    let both = and_parts _ _ e in
    ap (λ (x : List ℕ). name_by x m.local) (same_bytes m.prefix n.prefix both.0) ∙ ap (name_by n.prefix) (same_bytes m.local n.local both.1)
