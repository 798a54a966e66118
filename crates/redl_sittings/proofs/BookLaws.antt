-- Books that take the entries of others, one after the other.
use Rattle.std.proofs.Common.{◌≡◌, Bool, true, false, cond, List, ◌∷◌, filter, Option, None, Some, refl, sym, ap, ◌∙◌}
use Rattle.std.specs.List.{filter_map}
use Rattle.std.specs.Prelude.{option_to_list}
use Rattle.redl_join.specs.Books.{union, with_entry}
use Rattle.redl_journal.specs.declared.entry.Entry.{Entry}

-- one entry more, which is kept where it passes a test
pub kept-more : (passes : Entry → Bool) (book new : List Entry) (entry : Entry) (rest all : List Entry) → all ≡ entry ∷ rest → new ≡ cond (passes entry) (with_entry book entry) book
    → union new (filter passes rest) ≡ union book (filter passes all)
kept-more passes book new entry rest all step is =
    ap (λ (b : List Entry). union b (filter passes rest)) is ∙ at (passes entry) ∙ ap (λ (entries : List Entry). union book (filter passes entries)) (sym step)
  where
    at : (b : Bool) → union (cond b (with_entry book entry) book) (filter passes rest) ≡ union book (cond b (entry ∷ filter passes rest) (filter passes rest))
    at true = refl
    at false = refl

-- one entry more, which is put in as another one, or not
pub mapped-more : (as_other : Entry → Option Entry) (book new : List Entry) (entry : Entry) (rest all : List Entry) → all ≡ entry ∷ rest → new ≡ union book (option_to_list (as_other entry))
    → union new (filter_map as_other rest) ≡ union book (filter_map as_other all)
mapped-more as_other book new entry rest all step is =
    ap (λ (b : List Entry). union b (filter_map as_other rest)) is ∙ at (as_other entry) refl ∙ ap (λ (entries : List Entry). union book (filter_map as_other entries)) (sym step)
  where
    at : (o : Option Entry) → as_other entry ≡ o → union (union book (option_to_list (as_other entry))) (filter_map as_other rest) ≡ union book (filter_map as_other (entry ∷ rest))
    at None e = rw e refl
    at (Some other) e = rw e refl
