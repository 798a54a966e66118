-- Numbers in lists of pieces.
use Rattle.std.proofs.Common.{◌≡◌, ℕ, List, [], ◌∷◌, ◌++◌, Bool, true, ◌&&◌, ◌⊎◌, inl, inr}
use Rattle.std.proofs.lemmas.Bool.{and_parts, or_left, or_right, or_cases, and_from}
use Rattle.redl_html.specs.Pieces.{HtmlPiece, starts_with_number, has_number}

starts-left : (rev : ℕ) (xs ys : List HtmlPiece) → starts_with_number rev xs ≡ true → starts_with_number rev (xs ++ ys) ≡ true
starts-left rev [] ys h = cc
starts-left rev (x ∷ xs) ys h = h

-- a number of the right list is one of both
pub has-right : (opens : HtmlPiece → Bool) (rev : ℕ) (xs ys : List HtmlPiece) → has_number opens rev ys ≡ true → has_number opens rev (xs ++ ys) ≡ true
has-right opens rev [] ys h = h
has-right opens rev (x ∷ xs) ys h = or_right (opens x && starts_with_number rev (xs ++ ys)) (has_number opens rev (xs ++ ys)) (has-right opens rev xs ys h)

-- a number of the left list is one of both
pub has-left : (opens : HtmlPiece → Bool) (rev : ℕ) (xs ys : List HtmlPiece) → has_number opens rev xs ≡ true → has_number opens rev (xs ++ ys) ≡ true
has-left opens rev [] ys h = cc
has-left opens rev (x ∷ xs) ys h = at (or_cases (opens x && starts_with_number rev xs) (has_number opens rev xs) h) (has-left opens rev xs ys)
  where
    at : ((opens x && starts_with_number rev xs) ≡ true) ⊎ (has_number opens rev xs ≡ true) → (has_number opens rev xs ≡ true → has_number opens rev (xs ++ ys) ≡ true) →
        has_number opens rev (x ∷ xs ++ ys) ≡ true
    at (inl here) ih =
        let both = and_parts (opens x) (starts_with_number rev xs) here in
        or_left (opens x && starts_with_number rev (xs ++ ys)) (has_number opens rev (xs ++ ys)) (and_from (opens x) (starts_with_number rev (xs ++ ys)) both.0 (starts-left rev xs ys both.1))
    at (inr later) ih = or_right (opens x && starts_with_number rev (xs ++ ys)) (has_number opens rev (xs ++ ys)) (ih later)
