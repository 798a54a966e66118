-- What is written of pieces.
use Rattle.std.proofs.Common.{◌≡◌, ℕ, List, [], ◌++◌, Option, Result, sym, ap, ◌∙◌, append_assoc}
use Rattle.std.specs.Borrow.{GName}
use Rattle.std.proofs.lemmas.List.Concat.{flat_map-append}
use Rattle.redl_io.specs.Sink.{Puts}
use Rattle.redl_io.specs.declared.sink.Failed.{Failed}
use Rattle.redl_html.specs.Pieces.{HtmlPiece, piece_text, pieces_text}

-- a text by another name
pub puts_is : {K T : Type 0} {told : K → Option (List ℕ)} {faults settled : K → ℕ} {lenders : K → List GName} {old new : K} {text other : List ℕ} {r : Result T Failed}
    → text ≡ other → Puts told faults settled lenders old new other r → Puts told faults settled lenders old new text r
puts_is e p = rw e p

-- the text of two lists of pieces is that of one after the other
pub pieces_text-append : (xs ys : List HtmlPiece) → pieces_text (xs ++ ys) ≡ pieces_text xs ++ pieces_text ys
pieces_text-append xs ys = flat_map-append piece_text xs ys

-- three texts before others, as a list
pub three_then : (a b c rest : List ℕ) → a ++ (b ++ (c ++ rest)) ≡ (a ++ (b ++ (c ++ []))) ++ rest
three_then a b c rest =
    sym (append_assoc a (b ++ (c ++ [])) rest ∙ ap (λ l. a ++ l) (append_assoc b (c ++ []) rest ∙ ap (λ l. b ++ l) (append_assoc c [] rest)))

-- four texts before others, as a list
pub four_then : (a b c d rest : List ℕ) → a ++ (b ++ (c ++ (d ++ rest))) ≡ (a ++ (b ++ (c ++ (d ++ [])))) ++ rest
four_then a b c d rest = ap (λ l. a ++ l) (three_then b c d rest) ∙ sym (append_assoc a (b ++ (c ++ (d ++ []))) rest)
