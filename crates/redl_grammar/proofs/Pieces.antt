-- A piece is read exactly if the bytes begin with it.
use Rattle.std.proofs.Common.{◌≡◌, ◌≢◌, ℕ, ◌<◌, ◌≤◌, Bool, true, false, eqb, List, [], ◌∷◌, ◌++◌, length, Option, Some, None, refl, sym, ap, subst, ◌∙◌, length-append, arith, inl, inr, ◌⊎◌}
use Rattle.std.specs.Prelude.{not, ◌&&◌, ◌||◌, codes}
use Rattle.std.specs.List.{list_all}
use Rattle.std.proofs.lemmas.Bool.Decides.{nat_tests}
use Rattle.std.proofs.lemmas.Bool.{eqb-true, and_parts, cases_Bool, not-true}
use Rattle.std.proofs.lemmas.Option.{some_pair_parts}
use Rattle.redl_grammar.specs.declared.section.Section.{Section}
use Rattle.redl_reading.specs.Lists.{behind, begins, is_other}
use Rattle.redl_grammar.specs.Names.{Name, name_text, IsName}
use Rattle.redl_grammar.specs.Stretches.{Item, items_then, Head, Declaration, head_then, begins_item, ends_stretch}
use Rattle.redl_grammar.specs.Pieces.{Piece, start_tag, empty_tag, end_tag, stretch, piece_then, IsPiece, Follows, Stands}
use Rattle.redl_grammar.specs.ScanTags.{tag_at, end_tag_at}
use Rattle.redl_grammar.specs.ScanStretches.{stretch_at}
use Rattle.redl_grammar.specs.ScanPieces.{tag_or_stretch, piece_at}
use Rattle.redl_reading.proofs.Words.{behind_takes}
use Rattle.redl_grammar.proofs.Names.{name_head}
use Rattle.redl_grammar.proofs.Items.{item_begins}
use Rattle.redl_grammar.proofs.Tags.{IsTag, tag_takes, start_again, empty_again, end_takes, end_again}
use Rattle.redl_grammar.proofs.Stretches.{whole_then, stretch_takes, stretch_again}

-- ---- the bytes begin with what is read

tag_stands : (place : Section) (bs : List ℕ) (p : Piece) (rest : List ℕ) → bs ≡ piece_then p rest → IsTag p → Stands place bs p rest
tag_stands place bs (stretch s) rest e h = absurd h
tag_stands place bs (start_tag name tail) rest e h = record { whole = e; legal = h; follows = tt }
tag_stands place bs (empty_tag name tail) rest e h = record { whole = e; legal = h; follows = tt }
tag_stands place bs (end_tag name space) rest e h = record { whole = e; legal = h; follows = tt }

stretch_stands : (place : Section) (bs : List ℕ) (x : Piece × List ℕ) → stretch_at place bs ≡ Some x → Stands place bs x.0 x.1
stretch_stands place bs x e =
    let t = stretch_takes place bs x e in
    let P : Piece → Type 0 = λ p. Stands place bs p x.1 in
    subst P (sym t.1) (record { whole = t.2; legal = t.3; follows = t.4 })

cases_take : (place : Section) (bs : List ℕ) (x : Piece × List ℕ) (a b : Option (List ℕ)) → behind (codes "</") bs ≡ a → behind (codes "<") bs ≡ b → tag_or_stretch place bs a b ≡ Some x → Stands place bs x.0 x.1
cases_take place bs x (Some rest) b ea eb e = let t = end_takes rest x e in tag_stands place bs x.0 x.1 (behind_takes (codes "</") bs rest ea ∙ t.0) t.1
cases_take place bs x None (Some rest) ea eb e =
    elim (cases_Bool (begins_item bs)) [
      | inl begun ↦ stretch_stands place bs x (rw begun at e)
      | inr lacks ↦ let t = tag_takes rest x (rw lacks at e) in tag_stands place bs x.0 x.1 (behind_takes (codes "<") bs rest eb ∙ t.0) t.1
    ]
cases_take place bs x None None ea eb e = stretch_stands place bs x e

-- a piece that is read stands at the start of the bytes
pub piece_takes : (place : Section) (bs : List ℕ) (x : Piece × List ℕ) → piece_at place bs ≡ Some x → Stands place bs x.0 x.1
unfolding piece_at
piece_takes place bs x e = cases_take place bs x (behind (codes "</") bs) (behind (codes "<") bs) refl refl e

-- ---- what the bytes begin with is read

high_is_other : (b : ℕ) → 65 ≤ b → (eqb b 47 ≡ false) × (eqb b 33 ≡ false) × (eqb b 63 ≡ false)
high_is_other b h = (grind (arith, nat_tests), grind (arith, nat_tests), grind (arith, nat_tests))

high_begins_tag : (b : ℕ) (rest : List ℕ) → 65 ≤ b → (behind (codes "/") (b ∷ rest) ≡ None) × (begins_item (60 ∷ b ∷ rest) ≡ false)
high_begins_tag b rest h = let other = high_is_other b h in (rw other.0 refl, rw (other.1, other.2) refl)

name_begins_tag : (name : Name) (rest : List ℕ) → IsName name → (behind (codes "/") (name_text name ++ rest) ≡ None) × (begins_item (60 ∷ (name_text name ++ rest)) ≡ false)
name_begins_tag name rest h =
    let head = name_head name h in
    let P : List ℕ → Type 0 = λ z. (behind (codes "/") (z ++ rest) ≡ None) × (begins_item (60 ∷ (z ++ rest)) ≡ false) in
    subst P (sym head.3) (high_begins_tag head.0 (head.1 ++ rest) head.2)

read_end : (place : Section) (bs : List ℕ) → piece_at place (60 ∷ 47 ∷ bs) ≡ end_tag_at bs
unfolding piece_at
read_end place bs = refl

tag_is_read : (place : Section) (name : Name) (rest : List ℕ) → IsName name → piece_at place (60 ∷ (name_text name ++ rest)) ≡ tag_at (name_text name ++ rest)
unfolding piece_at
tag_is_read place name rest h = let apart = name_begins_tag name rest h in rw (apart.0, apart.1) refl

-- a stretch begins with a byte other than `<`, or with an item
abbrev Begins : List ℕ → Type 0
Begins bs = (behind (codes "<") bs ≡ None) ⊎ (begins_item bs ≡ true)

item_is_no_end : (bs : List ℕ) → begins_item bs ≡ true → behind (codes "</") bs ≡ None
item_is_no_end [] e = refl
item_is_no_end (b ∷ []) e = elim (cases_Bool (eqb b 60)) [ inl y ↦ rw y refl | inr n ↦ rw n refl ]
item_is_no_end (b ∷ c ∷ bs) e =
    elim (cases_Bool (eqb b 60)) [
      | inl y ↦ elim (cases_Bool (eqb c 47)) [ inl z ↦ absurd (slash c z bs (rw y at e)) | inr z ↦ rw (y, z) refl ]
      | inr n ↦ rw n refl
    ] where
      slash : (c : ℕ) → eqb c 47 ≡ true → (bs : List ℕ) → ((eqb c 33 && begins [] bs) || (eqb c 63 && begins [] bs)) ≡ true → ⊥
      slash c z bs e = let k = rw (eqb-true c 47 z) at e in cc

no_tag_no_end : (bs : List ℕ) → behind (codes "<") bs ≡ None → behind (codes "</") bs ≡ None
no_tag_no_end [] e = refl
no_tag_no_end (b ∷ bs) e =
    elim (cases_Bool (eqb b 60)) [
      | inl tag ↦ absurd (let k = rw tag at e in let h : None ≡ Some bs = sym k in cc)
      | inr other ↦ rw other refl
    ]

item_is_read : (place : Section) (bs : List ℕ) (o : Option (List ℕ)) → begins_item bs ≡ true → tag_or_stretch place bs None o ≡ stretch_at place bs
item_is_read place bs None e = refl
item_is_read place bs (Some start) e = rw e refl

stretch_is_read : (place : Section) (bs : List ℕ) → Begins bs → piece_at place bs ≡ stretch_at place bs
unfolding piece_at
stretch_is_read place bs (inl e) = rw (no_tag_no_end bs e, e) refl
stretch_is_read place bs (inr e) = rw (item_is_no_end bs e) (item_is_read place bs (behind (codes "<") bs) e)

content_begins : (first : List ℕ) (more : List (Item × List ℕ)) (rest : List ℕ) → list_all (is_other 60) first ≡ true → (first ++ items_then more [] ≢ []) → Begins (first ++ items_then more rest)
content_begins [] [] rest h filled = absurd (filled refl)
content_begins [] (i ∷ more) rest h filled = inr (item_begins i.0 (i.1 ++ items_then more rest))
content_begins (b ∷ bs) more rest h filled =
    let other = not-true (eqb b 60) (and_parts (is_other 60 b) (list_all (is_other 60) bs) h).0 in
    inl (rw other refl)

head_begins : (marked : Bool) (declaration : Option Declaration) (first : List ℕ) (more : List (Item × List ℕ)) (rest : List ℕ) → list_all (is_other 60) first ≡ true
    → (let head : Head = record { marked = marked; declaration = declaration } in (head_then head (first ++ items_then more []) ≢ []) → Begins (head_then head (first ++ items_then more rest)))
head_begins true declaration first more rest h filled = inl refl
head_begins false (Some d) first more rest h filled = inr refl
head_begins false None first more rest h filled = content_begins first more rest h filled

-- a piece that is written is read again
pub piece_again : (place : Section) (p : Piece) (rest : List ℕ) → IsPiece place p → Follows p rest → piece_at place (piece_then p rest) ≡ Some (p, rest)
piece_again place (start_tag name tail) rest h f = tag_is_read place name (tail ++ (62 ∷ rest)) h.0 ∙ start_again name tail rest h.0 h.1
piece_again place (empty_tag name tail) rest h f = tag_is_read place name (tail ++ (47 ∷ 62 ∷ rest)) h.0 ∙ empty_again name tail rest h.0 h.1
piece_again place (end_tag name space) rest h f = read_end place (name_text name ++ (space ++ (62 ∷ rest))) ∙ end_again name space rest h.0 h.1
piece_again place (stretch s) rest h f =
    let whole : s ++ rest ≡ head_then h.head (h.first ++ items_then h.more rest) = ap (λ (z : List ℕ). z ++ rest) h.whole ∙ whole_then h.head h.first h.more rest in
    let begun = head_begins h.head.marked h.head.declaration h.first h.more rest h.first_run.no_tag (λ e. h.filled (h.whole ∙ e)) in
    let begins_so : Begins (s ++ rest) = let P : List ℕ → Type 0 = λ z. Begins z in subst P (sym whole) begun in
    stretch_is_read place (s ++ rest) begins_so ∙ stretch_again place s rest h f

-- a piece that the grammar has at the start is the one that is read
pub stands_is_read : (place : Section) (bs : List ℕ) (p : Piece) (rest : List ℕ) → Stands place bs p rest → piece_at place bs ≡ Some (p, rest)
stands_is_read place bs p rest h = ap (piece_at place) h.whole ∙ piece_again place p rest h.legal h.follows

-- two pieces with which one text begins are equal
pub one_piece : (place : Section) (bs : List ℕ) (p q : Piece) (x y : List ℕ) → Stands place bs p x → Stands place bs q y → (p ≡ q) × (x ≡ y)
one_piece place bs p q x y hp hq = some_pair_parts p q x y (sym (stands_is_read place bs p x hp) ∙ stands_is_read place bs q y hq)

-- a piece takes at least a byte
pub piece_shorter : (place : Section) (bs : List ℕ) (x : Piece × List ℕ) → piece_at place bs ≡ Some x → length x.1 < length bs
piece_shorter place bs x e = let t = piece_takes place bs x e in omega (arith, ap length t.whole, longer x.0 x.1 t.legal) where
  filled_long : (s : List ℕ) → (s ≢ []) → 0 < length s
  filled_long [] h = absurd (h refl)
  filled_long (b ∷ bs) h = omega arith

  longer : (p : Piece) (rest : List ℕ) → IsPiece place p → length rest < length (piece_then p rest)
  longer (start_tag name tail) rest h = omega (arith, length-append {A = ℕ})
  longer (empty_tag name tail) rest h = omega (arith, length-append {A = ℕ})
  longer (end_tag name space) rest h = omega (arith, length-append {A = ℕ})
  longer (stretch s) rest h = omega (arith, length-append s rest, filled_long s h.filled)

-- a stretch may end before a tag
pub start_ends_stretch : (name : Name) (rest : List ℕ) → IsName name → ends_stretch (60 ∷ (name_text name ++ rest)) ≡ true
start_ends_stretch name rest h = ap not (name_begins_tag name rest h).1

-- bytes that begin as an end tag end the stretch before them
pub end_ends_stretch : (rest : List ℕ) → ends_stretch (60 ∷ 47 ∷ rest) ≡ true
end_ends_stretch rest = refl
