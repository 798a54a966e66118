-- Facts on each element of a list.
use Rattle.std.proofs.Common.{List, [], ◌∷◌, ◌++◌}
use Rattle.redl_index.specs.Inside.Markers.Free.{Every}

pub every-append : {X : Type 0} (P : X → Type 0) (xs ys : List X) → Every P xs → Every P ys → Every P (xs ++ ys)
every-append P [] ys a b = b
every-append P (x ∷ xs) ys a b = (a.0, every-append P xs ys a.1 b)

pub every-left : {X : Type 0} (P : X → Type 0) (xs ys : List X) → Every P (xs ++ ys) → Every P xs
every-left P [] ys a = tt
every-left P (x ∷ xs) ys a = (a.0, every-left P xs ys a.1)

pub every-right : {X : Type 0} (P : X → Type 0) (xs ys : List X) → Every P (xs ++ ys) → Every P ys
every-right P [] ys a = a
every-right P (x ∷ xs) ys a = every-right P xs ys a.1

pub every-more : {X : Type 0} (P Q : X → Type 0) (xs : List X) → ((x : X) → P x → Q x) → Every P xs → Every Q xs
every-more P Q [] f a = tt
every-more P Q (x ∷ xs) f a = (f x a.0, every-more P Q xs f a.1)

pub every-both : {X : Type 0} (P Q R : X → Type 0) (xs : List X) → ((x : X) → P x → Q x → R x) → Every P xs → Every Q xs → Every R xs
every-both P Q R [] f p q = tt
every-both P Q R (x ∷ xs) f p q = (f x p.0 q.0, every-both P Q R xs f p.1 q.1)
