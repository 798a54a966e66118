-- Laws of joined paragraphs: no byte outside their properties is lost, and all of them keep their order.
use Rattle.std.proofs.Common.{◌≡◌, ℕ, List, [], ◌∷◌, ◌++◌, append_assoc, Bool, true, false, ◌&&◌, ◌||◌, not, Option, Some, None, refl, sym, ap, ◌∙◌, true≢false, if◌then◌else◌}
use Rattle.std.proofs.lemmas.List.{append-nil}
use Rattle.std.proofs.lemmas.Bool.{and_parts, cond-true, cond-false}
use Rattle.redl_tree.specs.Model.Nodes.{Tag, Nodes, no_nodes, bytes, element, ◌⊕◌}
use Rattle.redl_tree.specs.Roles.Names.{is}
use Rattle.redl_tree.specs.Model.Kids.{only, without, has_element}
use Rattle.redl_tree.specs.Decisions.Groups.{GroupPiece, para, thin, thick, has_thick, joins, taken, joined_tag, joined_kids, unjoined_para, given, held_by, grouped_from, grouped}
use Rattle.redl_tree.specs.Decisions.Beside.{bytes_beside, bytes_of_each, are_named}
use Rattle.redl_tree.proofs.Roles.Named.{by_name}
use Rattle.redl_tree.proofs.Decisions.PassLaws.{Takes, takes-next}

beside-⊕ : (xs ys : Nodes) → bytes_beside (xs ⊕ ys) ≡ bytes_beside xs ++ bytes_beside ys
beside-⊕ no_nodes ys = refl
beside-⊕ (bytes b rest) ys = ap (λ ts. b ∷ ts) (beside-⊕ rest ys)
beside-⊕ (element tag kids rest) ys =
    ap (λ ts. (if is "pPr" tag then [] else bytes_beside kids) ++ ts) (beside-⊕ rest ys)
    ∙ sym (append_assoc (if is "pPr" tag then [] else bytes_beside kids) (bytes_beside rest) (bytes_beside ys))

beside-without : (xs : Nodes) → bytes_beside (without (is "pPr") xs) ≡ bytes_beside xs
beside-without no_nodes = refl
beside-without (bytes b rest) = ap (λ ts. b ∷ ts) (beside-without rest)
beside-without (element tag kids rest) = at (is "pPr" tag) refl (beside-without rest)
  where
    at : (b : Bool) → is "pPr" tag ≡ b → bytes_beside (without (is "pPr") rest) ≡ bytes_beside rest →
        bytes_beside (if b then without (is "pPr") rest else element tag kids (without (is "pPr") rest))
        ≡ (if is "pPr" tag then [] else bytes_beside kids) ++ bytes_beside rest
    at true e ih = ih ∙ ap (λ ts. ts ++ bytes_beside rest) (sym (cond-true (is "pPr" tag) [] (bytes_beside kids) e))
    at false e ih = ap (λ ts. (if is "pPr" tag then [] else bytes_beside kids) ++ ts) ih

beside-only : (xs : Nodes) → bytes_beside (only (is "pPr") xs) ≡ []
beside-only no_nodes = refl
beside-only (bytes b rest) = beside-only rest
beside-only (element tag kids rest) = at (is "pPr" tag) refl (beside-only rest)
  where
    at : (b : Bool) → is "pPr" tag ≡ b → bytes_beside (only (is "pPr") rest) ≡ [] →
        bytes_beside (if b then element tag kids (only (is "pPr") rest) else only (is "pPr") rest) ≡ []
    at true e ih = ap (λ ts. ts ++ bytes_beside (only (is "pPr") rest)) (cond-true (is "pPr" tag) [] (bytes_beside kids) e) ∙ ih
    at false e ih = ih

abbrev beside_held : Option Nodes → List (List ℕ)
beside_held None = []
beside_held (Some held) = bytes_beside held

beside-settled : (ends : Bool) (tag : Tag) (kids : Nodes) → is "p" tag ≡ true → bytes_beside (unjoined_para ends tag kids) ≡ bytes_beside kids
beside-settled ends tag kids q = at (ends && not (has_element (without (is "pPr") kids)))
  where
    at : (b : Bool) → bytes_beside (if b then without (is "pPr") kids else element tag kids no_nodes) ≡ bytes_beside kids
    at true = beside-without kids
    at false =
        append-nil (if is "pPr" tag then [] else bytes_beside kids)
        ∙ cond-false (is "pPr" tag) [] (bytes_beside kids) (by_name (λ t. is "pPr" t ≡ false) "p" tag q refl)

beside-joined : (held : Option Nodes) (kids : Nodes) → bytes_beside (joined_kids held kids) ≡ beside_held held ++ bytes_beside kids
beside-joined None kids = refl
beside-joined (Some held) kids =
    beside-⊕ (only (is "pPr") kids) (held ⊕ without (is "pPr") kids)
    ∙ ap (λ ts. ts ++ bytes_beside (held ⊕ without (is "pPr") kids)) (beside-only kids)
    ∙ beside-⊕ held (without (is "pPr") kids) ∙ ap (λ ts. bytes_beside held ++ ts) (beside-without kids)

beside-taken : (held : Option Nodes) (nodes : Nodes) → bytes_beside (taken held nodes) ≡ beside_held held ++ bytes_beside nodes
beside-taken None nodes = beside-without nodes
beside-taken (Some held) nodes = beside-⊕ held (without (is "pPr") nodes) ∙ ap (λ ts. bytes_beside held ++ ts) (beside-without nodes)

named_joined : (held : Option Nodes) (tag : Tag) → is "p" tag ≡ true → is "p" (joined_tag held tag) ≡ true
named_joined None tag q = q
named_joined (Some held) tag q = q

beside-given : (p : GroupPiece) (held : Option Nodes) (joins followed : Bool) (ps : List GroupPiece) → are_named (p ∷ []) ≡ true → Takes held (p ∷ ps) →
    bytes_beside (given p held joins followed) ++ beside_held (held_by p held joins) ≡ beside_held held ++ bytes_of_each (p ∷ [])
beside-given (para tag cut kids) held true followed ps l t = beside-taken held kids ∙ ap (λ ts. beside_held held ++ ts) (sym (append-nil (bytes_beside kids)))
beside-given (para tag cut kids) held false followed ps l t =
    append-nil (bytes_beside (unjoined_para (cut && followed) (joined_tag held tag) (joined_kids held kids)))
    ∙ beside-settled (cut && followed) (joined_tag held tag) (joined_kids held kids) (named_joined held tag (and_parts (is "p" tag) true l).0)
    ∙ beside-joined held kids ∙ ap (λ ts. beside_held held ++ ts) (sym (append-nil (bytes_beside kids)))
beside-given (thin nodes) None joins followed ps l t = refl
beside-given (thin nodes) (Some held) joins followed ps l t = beside-taken (Some held) nodes ∙ ap (λ ts. bytes_beside held ++ ts) (sym (append-nil (bytes_beside nodes)))
beside-given (thick nodes) None joins followed ps l t = refl
beside-given (thick nodes) (Some held) joins followed ps l t = absurd (true≢false (sym t))

each-∷ : (p : GroupPiece) (ps : List GroupPiece) → bytes_of_each (p ∷ []) ++ bytes_of_each ps ≡ bytes_of_each (p ∷ ps)
each-∷ (para tag cut kids) ps = ap (λ ts. ts ++ bytes_of_each ps) (append-nil (bytes_beside kids))
each-∷ (thin nodes) ps = ap (λ ts. ts ++ bytes_of_each ps) (append-nil (bytes_beside nodes))
each-∷ (thick nodes) ps = ap (λ ts. ts ++ bytes_of_each ps) (append-nil (bytes_beside nodes))

named-∷ : (p : GroupPiece) (ps : List GroupPiece) → are_named (p ∷ ps) ≡ true → (are_named (p ∷ []) ≡ true) × (are_named ps ≡ true)
named-∷ (para tag cut kids) ps e = let a = and_parts (is "p" tag) (are_named ps) e in (rw a.0 refl, a.1)
named-∷ (thin nodes) ps e = (refl, e)
named-∷ (thick nodes) ps e = (refl, e)

beside-from : (followed : Bool) (held : Option Nodes) (ps : List GroupPiece) → are_named ps ≡ true → Takes held ps →
    bytes_beside (grouped_from followed held ps) ≡ beside_held held ++ bytes_of_each ps
beside-from followed None [] l t = refl
beside-from followed (Some held) [] l t = absurd (true≢false (sym t))
beside-from followed held (p ∷ ps) l t =
    let here = given p held (joins p ps) (has_thick ps || followed) in
    let later = held_by p held (joins p ps) in
    let n = named-∷ p ps l in
    beside-⊕ here (grouped_from followed later ps)
    ∙ ap (λ ts. bytes_beside here ++ ts) (beside-from followed later ps n.1 (takes-next p held ps t))
    ∙ sym (append_assoc (bytes_beside here) (beside_held later) (bytes_of_each ps))
    ∙ ap (λ ts. ts ++ bytes_of_each ps) (beside-given p held (joins p ps) (has_thick ps || followed) ps n.0 t)
    ∙ append_assoc (beside_held held) (bytes_of_each (p ∷ [])) (bytes_of_each ps)
    ∙ ap (λ ts. beside_held held ++ ts) (each-∷ p ps)

-- joining paragraphs keeps all bytes that stand beside their properties, in their order
pub beside-grouped : (followed : Bool) (ps : List GroupPiece) → are_named ps ≡ true → bytes_beside (grouped followed ps) ≡ bytes_of_each ps
beside-grouped followed ps l = beside-from followed None ps l tt
