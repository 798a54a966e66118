-- A tag is read exactly if the bytes begin with it.
use Rattle.std.proofs.Common.{◌≡◌, ℕ, suc, ◌<◌, ◌≤◌, true, cond, List, [], ◌∷◌, ◌++◌, length, map, Option, Some, None, refl, sym, ap, subst, ◌∙◌, append_assoc, length-append, arith}
use Rattle.std.specs.Prelude.{codes}
use Rattle.std.specs.List.{AllByRecursion}
use Rattle.std.proofs.lemmas.Bool.Decides.{nat_tests}
use Rattle.std.proofs.lemmas.Option.{same_Some, cond_some}
use Rattle.redl_grammar.specs.Characters.{is_space}
use Rattle.redl_reading.specs.Lists.{behind, front, after, before}
use Rattle.redl_reading.specs.Steps.{◌>>=◌, turns}
use Rattle.redl_grammar.specs.Names.{Name, name_text, IsName, are_distinct}
use Rattle.redl_grammar.specs.Tails.{IsSpace, Attribute, attribute_then, attributes_then, IsAttribute, IsTail}
use Rattle.redl_grammar.specs.Pieces.{Piece, start_tag, empty_tag, end_tag, stretch, piece_then}
use Rattle.redl_grammar.specs.ScanNames.{name_at}
use Rattle.redl_grammar.specs.ScanTags.{ends_tag, tail_step, attributes_at, tail_at, start_at, tag_at, end_tag_at}
use Rattle.redl_reading.proofs.Runs.{front-after, front_passes, front_again, after_again}
use Rattle.redl_reading.proofs.Words.{behind_takes, before-append}
use Rattle.redl_grammar.proofs.Names.{is_delimiter, ends_name, name_takes, name_again}
use Rattle.redl_reading.proofs.Steps.{bind_some}
use Rattle.redl_grammar.proofs.Attributes.{spaces_end_name, gap_ends_name, tail_takes_turns, tail_again_turns}

-- ---- tails

pub attribute_then-append : (a : Attribute) (x y : List ℕ) → attribute_then a x ++ y ≡ attribute_then a (x ++ y)
attribute_then-append a x y = simp append_assoc

-- text after attributes can be added in two parts
pub attributes_then-append : (attrs : List Attribute) (x y : List ℕ) → attributes_then attrs x ++ y ≡ attributes_then attrs (x ++ y)
attributes_then-append [] x y = refl
attributes_then-append (a ∷ attrs) x y = attribute_then-append a (attributes_then attrs x) y ∙ ap (attribute_then a) (attributes_then-append attrs x y)

pub tail_takes : (bs : List ℕ) (x : List ℕ × List ℕ) → tail_at bs ≡ Some x → (bs ≡ x.0 ++ x.1) × IsTail x.0 × (ends_tag x.1 ≡ true)
unfolding tail_at attributes_at
tail_takes bs x e =
    let r = bind_some (attributes_at bs) (λ end. cond (are_distinct end.0) (Some (before bs end.1, end.1)) None) x e in
    let c = cond_some (are_distinct r.0.0) (before bs r.0.1, r.0.1) x r.2 in
    let t = tail_takes_turns (suc (length bs)) ([], bs) r.0 r.1 in
    let tail : List ℕ = attributes_then t.attributes t.space in
    let whole : bs ≡ tail ++ r.0.1 = t.whole ∙ sym (attributes_then-append t.attributes t.space r.0.1) in
    let cut : before bs r.0.1 ≡ tail = ap (λ (z : List ℕ). before z r.0.1) whole ∙ before-append tail r.0.1 in
    let made : (tail, r.0.1) ≡ x = ap (λ (z : List ℕ). (z, r.0.1)) (sym cut) ∙ c.1 in
    let P : List ℕ × List ℕ → Type 0 = λ y. (bs ≡ y.0 ++ y.1) × IsTail y.0 × (ends_tag y.1 ≡ true) in
    subst P made (whole, record { attributes = t.attributes; space = t.space; each = t.each; is_space = t.is_space; distinct = rw (← t.names) c.0; whole = refl }, t.end)

attributes_long : (attrs : List Attribute) (rest : List ℕ) → length attrs ≤ length (attributes_then attrs rest)
attributes_long [] rest = omega arith
attributes_long (a ∷ attrs) rest = omega (arith, attributes_long attrs rest, length-append {A = ℕ})

pub tail_again : (tail rest : List ℕ) → IsTail tail → ends_tag rest ≡ true → tail_at (tail ++ rest) ≡ Some (tail, rest)
unfolding tail_at attributes_at
tail_again tail rest h end =
    let whole : tail ++ rest ≡ attributes_then h.attributes (h.space ++ rest) = ap (λ (z : List ℕ). z ++ rest) h.whole ∙ attributes_then-append h.attributes h.space rest in
    let long : length h.attributes < suc (length (tail ++ rest)) = omega (arith, ap length whole, attributes_long h.attributes (h.space ++ rest)) in
    let read : turns tail_step (suc (length (tail ++ rest))) ([], tail ++ rest) ≡ Some (map (λ a. a.name) h.attributes, rest) = ap (λ (z : List ℕ). turns tail_step (suc (length (tail ++ rest))) ([], z)) whole ∙ tail_again_turns h.attributes (suc (length (tail ++ rest))) [] h.space rest long h.each h.is_space end in
    rw (read, h.distinct, before-append tail rest) refl

-- a tag that ends behind its name has no attributes
no_attributes : IsTail []
unfolding are_distinct
no_attributes = record { attributes = []; space = []; each = tt; is_space = refl; distinct = refl; whole = refl }

-- where the tag ends at once, its tail is empty
pub tail_of_none : (rest : List ℕ) → ends_tag rest ≡ true → tail_at rest ≡ Some (before rest rest, rest)
tail_of_none rest end = tail_again [] rest no_attributes end ∙ ap (λ (z : List ℕ). Some (z, rest)) (sym (before-append [] rest))

end_ends_name : (rest : List ℕ) → ends_tag rest ≡ true → ends_name rest ≡ true
unfolding ends_tag is_delimiter is_space
end_ends_name [] h = refl
end_ends_name (b ∷ rest) h = grind (arith, nat_tests)

attributes_end_name : (attrs : List Attribute) (space rest : List ℕ) → AllByRecursion IsAttribute attrs → IsSpace space → ends_tag rest ≡ true → ends_name (attributes_then attrs (space ++ rest)) ≡ true
attributes_end_name [] space rest each spaces end = spaces_end_name space rest spaces (end_ends_name rest end)
attributes_end_name (a ∷ attrs) space rest each spaces end = gap_ends_name a.gap _ each.0.gap.0 each.0.gap.1

tail_ends_name : (tail rest : List ℕ) → IsTail tail → ends_tag rest ≡ true → ends_name (tail ++ rest) ≡ true
tail_ends_name tail rest h end = rw (h.whole, attributes_then-append h.attributes h.space rest) (attributes_end_name h.attributes h.space rest h.each h.is_space end)

-- ---- tags

-- a tag is legal at any place
abbrev pub IsTag : Piece → Type 0
IsTag (stretch bs) = ⊥
IsTag (start_tag name tail) = IsName name × IsTail tail
IsTag (empty_tag name tail) = IsName name × IsTail tail
IsTag (end_tag name space) = IsName name × IsSpace space

start_takes : (name : Name) (tail end : List ℕ) (o : Option (List ℕ)) (x : Piece × List ℕ) → IsName name → IsTail tail → behind (codes ">") end ≡ o → start_at name tail o end ≡ Some x → (60 ∷ (name_text name ++ (tail ++ end)) ≡ piece_then x.0 x.1) × IsTag x.0
start_takes name tail end (Some rest) x n t g e =
    let P : Piece × List ℕ → Type 0 = λ y. (60 ∷ (name_text name ++ (tail ++ end)) ≡ piece_then y.0 y.1) × IsTag y.0 in
    subst P (same_Some (start_tag name tail, rest) x e) (ap (λ (z : List ℕ). 60 ∷ (name_text name ++ (tail ++ z))) (behind_takes (codes ">") end rest g), (n, t))
start_takes name tail end None x n t g e =
    let r = bind_some (behind (codes "/>") end) (λ rest. Some (empty_tag name tail, rest)) x e in
    let P : Piece × List ℕ → Type 0 = λ y. (60 ∷ (name_text name ++ (tail ++ end)) ≡ piece_then y.0 y.1) × IsTag y.0 in
    subst P (same_Some (empty_tag name tail, r.0) x r.2) (ap (λ (z : List ℕ). 60 ∷ (name_text name ++ (tail ++ z))) (behind_takes (codes "/>") end r.0 r.1), (n, t))

pub tag_takes : (bs : List ℕ) (x : Piece × List ℕ) → tag_at bs ≡ Some x → (60 ∷ bs ≡ piece_then x.0 x.1) × IsTag x.0
unfolding tag_at
tag_takes bs x e =
    let n = bind_some (name_at bs) (λ name. tail_at name.1 >>= λ tail. start_at name.0 tail.0 (behind (codes ">") tail.1) tail.1) x e in
    let t = bind_some (tail_at n.0.1) (λ tail. start_at n.0.0 tail.0 (behind (codes ">") tail.1) tail.1) x n.2 in
    let name = name_takes bs n.0 n.1 in
    let tail = tail_takes n.0.1 t.0 t.1 in
    let end = start_takes n.0.0 t.0.0 t.0.1 (behind (codes ">") t.0.1) x name.1 tail.1 refl t.2 in
    (ap (λ (z : List ℕ). 60 ∷ z) (name.0 ∙ ap (λ (z : List ℕ). name_text n.0.0 ++ z) tail.0) ∙ end.0, end.1)

pub start_again : (name : Name) (tail rest : List ℕ) → IsName name → IsTail tail → tag_at (name_text name ++ (tail ++ (62 ∷ rest))) ≡ Some (start_tag name tail, rest)
unfolding tag_at ends_tag
start_again name tail rest n t =
    rw (name_again name (tail ++ (62 ∷ rest)) n (tail_ends_name tail (62 ∷ rest) t refl), tail_again tail (62 ∷ rest) t refl) refl

pub empty_again : (name : Name) (tail rest : List ℕ) → IsName name → IsTail tail → tag_at (name_text name ++ (tail ++ (47 ∷ 62 ∷ rest))) ≡ Some (empty_tag name tail, rest)
unfolding tag_at ends_tag
empty_again name tail rest n t =
    rw (name_again name (tail ++ (47 ∷ 62 ∷ rest)) n (tail_ends_name tail (47 ∷ 62 ∷ rest) t refl), tail_again tail (47 ∷ 62 ∷ rest) t refl) refl

pub end_takes : (bs : List ℕ) (x : Piece × List ℕ) → end_tag_at bs ≡ Some x → (60 ∷ 47 ∷ bs ≡ piece_then x.0 x.1) × IsTag x.0
unfolding end_tag_at
end_takes bs x e =
    let n = bind_some (name_at bs) (λ name. behind (codes ">") (after is_space name.1) >>= λ rest. Some (end_tag name.0 (front is_space name.1), rest)) x e in
    let r = bind_some (behind (codes ">") (after is_space n.0.1)) (λ rest. Some (end_tag n.0.0 (front is_space n.0.1), rest)) x n.2 in
    let name = name_takes bs n.0 n.1 in
    let space : List ℕ = front is_space n.0.1 in
    let rest : n.0.1 ≡ space ++ (62 ∷ r.0) = sym (front-after is_space n.0.1) ∙ ap (λ (z : List ℕ). space ++ z) (behind_takes (codes ">") (after is_space n.0.1) r.0 r.1) in
    let P : Piece × List ℕ → Type 0 = λ y. (60 ∷ 47 ∷ bs ≡ piece_then y.0 y.1) × IsTag y.0 in
    subst P (same_Some (end_tag n.0.0 space, r.0) x r.2) (ap (λ (z : List ℕ). 60 ∷ 47 ∷ z) (name.0 ∙ ap (λ (z : List ℕ). name_text n.0.0 ++ z) rest), (name.1, front_passes is_space n.0.1))

pub end_again : (name : Name) (space rest : List ℕ) → IsName name → IsSpace space → end_tag_at (name_text name ++ (space ++ (62 ∷ rest))) ≡ Some (end_tag name space, rest)
unfolding end_tag_at is_space is_delimiter
end_again name space rest n s =
    let stop = spaces_end_name space (62 ∷ rest) s refl in
    rw (name_again name (space ++ (62 ∷ rest)) n stop, front_again is_space space (62 ∷ rest) s refl, after_again is_space space (62 ∷ rest) s refl) refl

-- the text of a start tag is its name and its tail
pub start_text : (bs rest end : List ℕ) (name : Name) → name_at bs ≡ Some (name, rest) → tail_at rest ≡ Some (before rest end, end) → before bs end ≡ name_text name ++ before rest end
start_text bs rest end name e f =
    let named = (name_takes bs (name, rest) e).0 in
    let tailed = (tail_takes rest (before rest end, end) f).0 in
    let whole : bs ≡ (name_text name ++ before rest end) ++ end = named ∙ ap (λ (z : List ℕ). name_text name ++ z) tailed ∙ sym (append_assoc (name_text name) (before rest end) end) in
    ap (λ (z : List ℕ). before z end) whole ∙ before-append (name_text name ++ before rest end) end
