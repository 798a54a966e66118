-- An array grows at its end.
use Rattle.std.proofs.Common.{◌≡◌, ◌≤◌, ◌+◌, Global, Vec, vec_len, vec_capacity, ℕ, Bool, true, false, List, [], ◌∷◌, ◌++◌, map, refl, sym, ap, ◌∙◌, append_assoc}
use Rattle.std.specs.List.{join_with_byte}
use Rattle.std.proofs.lemmas.List.{append-nil}
use Rattle.redl_formats.specs.Formats.{IsArrayDraft, array_of, array_end, comma_after}

-- one item more
joined-more : {I : Type 0} (piece_of : I → List ℕ) (items : List I) (item : I)
    → join_with_byte 44 (map piece_of (items ++ item ∷ [])) ≡ join_with_byte 44 (map piece_of items) ++ (comma_after items ++ piece_of item)
joined-more piece_of [] item = refl
joined-more piece_of (first ∷ []) item = refl
joined-more piece_of (first ∷ second ∷ items) item =
    ap (λ rest. piece_of first ++ (44 ∷ rest)) (joined-more piece_of (second ∷ items) item)
    ∙ sym (append_assoc (piece_of first) (44 ∷ join_with_byte 44 (map piece_of (second ∷ items))) (44 ∷ piece_of item))

-- an item more, after a comma where others are before it, makes the open array of one item more
pub array-more : {I : Type 0} (piece_of : I → List ℕ) (items : List I) (item : I)
    → array_of piece_of items false ++ (comma_after items ++ piece_of item) ≡ array_of piece_of (items ++ item ∷ []) false
array-more piece_of items item =
    let whole = join_with_byte 44 (map piece_of items) in
    rw (append-nil whole) (ap (λ (rest : List ℕ). 91 ∷ rest) (sym (joined-more piece_of items item) ∙ sym (append-nil _)))

-- the end of the array
pub array-closed : {I : Type 0} (piece_of : I → List ℕ) (items : List I) → array_of piece_of items false ++ array_end true ≡ array_of piece_of items true
array-closed piece_of items =
    rw (append-nil (join_with_byte 44 (map piece_of items))) refl

-- an open draft with one item more, for which there is a piece
pub draft-more : {I : Type 0} (piece_of : I → List ℕ) (items more : List I) (item given : I) (closed closed_new : Bool) (old new : Vec ℕ Global) (piece front : List ℕ)
    → closed ≡ false → closed_new ≡ closed → item ≡ given → IsArrayDraft piece_of items closed old → more ≡ items ++ item ∷ [] → new.items ≡ old.items ++ piece
    → front ≡ comma_after items → piece ≡ front ++ piece_of given → vec_len new + 2 ≤ vec_capacity new → IsArrayDraft piece_of more closed_new new
draft-more piece_of items more item given closed closed_new old new piece front is_open stays same draft grown text is_front is_piece room =
    let before : old.items ≡ array_of piece_of items false = draft.array ∙ ap (array_of piece_of items) is_open in
    let added : piece ≡ comma_after items ++ piece_of item = is_piece ∙ rw (is_front, ← same) refl in
    let after : new.items ≡ array_of piece_of (items ++ item ∷ []) false = text ∙ (rw (before, added) (array-more piece_of items item)) in
    record {
      array = after ∙ rw (grown, stays, is_open) refl;
      room = λ _. room;
    }
