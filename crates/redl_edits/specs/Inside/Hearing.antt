-- How bytes come to others.
use Rattle.std.specs.Prelude.{◌≡◌, ℕ, List, [], ◌++◌}
use Rattle.std.proofs.Common.{append_assoc}
use Rattle.std.proofs.lemmas.List.{append-nil}

abbrev pub heard : List ℕ → List ℕ → List ℕ
heard before bytes = before ++ bytes

pub heard-nothing : (before : List ℕ) → heard before [] ≡ before
heard-nothing before = append-nil before

pub heard-more : (before a b : List ℕ) → heard (heard before a) b ≡ heard before (a ++ b)
heard-more before a b = append_assoc before a b
