-- A number for each name of a reviewer: which one a name has, and how a new name gets one.
use Rattle.std.specs.Prelude.{◌≡◌, ◌==◌, ◌&&◌, ◌<◌, ℕ, Bool, true, List, length}
use Rattle.std.specs.Global.{Vec}
use Rattle.std.specs.List.{list_any}
use Rattle.std.specs.Str.{bytes_eq}

-- a name with its number
abbrev pub Numbered : Type 0
Numbered = Vec ℕ × ℕ

-- the name has this number
abbrev pub has_number : List Numbered → List ℕ → ℕ → Bool
has_number numbers name number = list_any (λ numbered. bytes_eq numbered.0.items name && numbered.1 == number) numbers

-- the name has a number
abbrev pub is_numbered : List Numbered → List ℕ → Bool
is_numbered numbers name = list_any (λ numbered. bytes_eq numbered.0.items name) numbers

-- some name has this number
abbrev pub is_taken : List Numbered → ℕ → Bool
is_taken numbers number = list_any (λ numbered. numbered.1 == number) numbers

-- each name has one number, and no two have the same; a new one may have their count
pub record AreNumbers (numbers : List Numbered) : Type 0 where
  pub one_number : (name : List ℕ) (m n : ℕ) → has_number numbers name m ≡ true → has_number numbers name n ≡ true → m ≡ n
  pub one_name : (name other : List ℕ) (n : ℕ) → has_number numbers name n ≡ true → has_number numbers other n ≡ true → name ≡ other
  pub below : (n : ℕ) → is_taken numbers n ≡ true → n < length numbers
