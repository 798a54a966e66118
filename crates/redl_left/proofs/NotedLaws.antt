-- Finds that are noted one after the other.
use Rattle.std.specs.Prelude.{◌≡◌, List, [], ◌∷◌, ◌++◌, refl}
use Rattle.redl_left.specs.Finds.{Find}
use Rattle.redl_left.specs.Lines.{noted_in, noted_all}
use Rattle.redl_left.specs.declared.line.Line.{Line}

pub noted-append : (tables : List (List Line)) (xs ys : List Find) → noted_all tables (xs ++ ys) ≡ noted_all (noted_all tables xs) ys
noted-append tables [] ys = refl
noted-append tables (x ∷ xs) ys = noted-append (noted_in tables x) xs ys
