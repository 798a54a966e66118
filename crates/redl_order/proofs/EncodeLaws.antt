-- References are known by their numbers.
use Rattle.std.proofs.Common.{◌≡◌, Bool, true, false, ◌∙◌, refl, sym, ap, ℕ, List, [], ◌∷◌, ◌++◌, length, take, drop, get_or}
use Rattle.std.proofs.Math.Seq.{drop-append_seam, take-append_seam}
use Rattle.redl_order.specs.declared.reference.Named.{Named}
use Rattle.redl_order.specs.declared.reference.Named.TheVariants.{Header, Footer, Footnote, Endnote}
use Rattle.redl_order.specs.declared.reference.Reference.{Reference}
use Rattle.redl_order.specs.References.{named_number}
use Rattle.redl_order.specs.Inside.Encoded.{bit, encoded}

abbrev named_at : ℕ → Named
named_at n = get_or (Header ∷ Footer ∷ Footnote ∷ Endnote ∷ []) n Header

there : (n : Named) → named_at (named_number n) ≡ n
there Header = refl
there Footer = refl
there Footnote = refl
there Endnote = refl

same_named : (m n : Named) → named_number m ≡ named_number n → m ≡ n
same_named m n e = sym (there m) ∙ ap named_at e ∙ there n

-- of two texts of one length, each with more after it
same_front : (a b u v : List ℕ) → length a ≡ length b → a ++ u ≡ b ++ v → a ≡ b
same_front a b u v n e = sym (take-append_seam a u) ∙ ap (take (length a)) e ∙ ap (λ k. take k (b ++ v)) n ∙ take-append_seam b v

same_rest : (a b u v : List ℕ) → length a ≡ length b → a ++ u ≡ b ++ v → u ≡ v
same_rest a b u v n e = sym (drop-append_seam a u) ∙ ap (drop (length a)) e ∙ ap (λ k. drop k (b ++ v)) n ∙ drop-append_seam b v

head_same : (a b : ℕ) (u v : List ℕ) → a ∷ u ≡ b ∷ v → a ≡ b
head_same a b u v e = cc

tail_same : (a b : ℕ) (u v : List ℕ) → a ∷ u ≡ b ∷ v → u ≡ v
tail_same a b u v e = cc

same_bit : (a b : Bool) → bit a ≡ bit b → a ≡ b
same_bit true true e = refl
same_bit false false e = refl
same_bit true false e = cc
same_bit false true e = cc

abbrev reference_of : Named → Bool → List ℕ → Reference
reference_of named own_sign id = record { named = named; id = id; own_sign = own_sign }

pub same_references : (xs ys : List Reference) → encoded xs ≡ encoded ys → xs ≡ ys
same_references [] [] e = refl
same_references [] (y ∷ ys) e = cc
same_references (x ∷ xs) [] e = cc
same_references (x ∷ xs) (y ∷ ys) e =
    let x_rest = length x.id ∷ (x.id ++ encoded xs) in
    let y_rest = length y.id ∷ (y.id ++ encoded ys) in
    let named = same_named x.named y.named (head_same (named_number x.named) (named_number y.named) (bit x.own_sign ∷ x_rest) (bit y.own_sign ∷ y_rest) e) in
    let zero = tail_same (named_number x.named) (named_number y.named) (bit x.own_sign ∷ x_rest) (bit y.own_sign ∷ y_rest) e in
    let sign = same_bit x.own_sign y.own_sign (head_same (bit x.own_sign) (bit y.own_sign) x_rest y_rest zero) in
    let one = tail_same (bit x.own_sign) (bit y.own_sign) x_rest y_rest zero in
    let lengths = head_same (length x.id) (length y.id) (x.id ++ encoded xs) (y.id ++ encoded ys) one in
    let two = tail_same (length x.id) (length y.id) (x.id ++ encoded xs) (y.id ++ encoded ys) one in
    let id = same_front x.id y.id (encoded xs) (encoded ys) lengths two in
    let rest = same_references xs ys (same_rest x.id y.id (encoded xs) (encoded ys) lengths two) in
    let same : x ≡ y = ap (λ (n : Named). reference_of n x.own_sign x.id) named ∙ ap (λ (b : Bool). reference_of y.named b x.id) sign ∙ ap (λ (i : List ℕ). reference_of y.named y.own_sign i) id in
    ap (λ (z : Reference). z ∷ xs) same ∙ ap (λ (zs : List Reference). y ∷ zs) rest
