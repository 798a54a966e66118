-- What a group ends with: a paragraph, where one is left.
use Rattle.std.proofs.Common.{◌≡◌, List, [], ◌∷◌, Bool, true, false, ◌&&◌, ◌||◌, not, Option, Some, None, refl, sym, ap, ◌∙◌, true≢false, if◌then◌else◌}
use Rattle.std.proofs.lemmas.Bool.{and_parts, or_parts, not-true, and_right}
use Rattle.std.proofs.Math.Bool.{or-true}
use Rattle.redl_tree.specs.Model.Nodes.{Tag, Nodes, no_nodes, bytes, element, ◌⊕◌}
use Rattle.redl_tree.specs.Roles.Names.{is}
use Rattle.redl_tree.specs.Model.Kids.{some_element, has_element, without}
use Rattle.redl_tree.specs.Roles.Lists.{into, is_wrapper, is_thick}
use Rattle.redl_tree.specs.Decisions.Groups.{GroupPiece, para, thin, thick, paragraph_next, has_thick, joins, joined_tag, joined_kids, unjoined_para, given, held_by, grouped_from, grouped}
use Rattle.redl_tree.specs.Rules.CellEnds.{or_before, end_of_one, end_of}
use Rattle.redl_tree.specs.declared.lists.Reach.TheVariants.{Direct}
use Rattle.redl_tree.proofs.Roles.Named.{by_names}
use Rattle.redl_tree.proofs.Decisions.PassLaws.{next-thick}
use Rattle.redl_laws.proofs.Soundness.Walk.{some-⊕}
use Rattle.redl_paras.specs.Ends.{is_chain, keeps_last}

-- Blocks that are no paragraphs

abbrev is_other_block : Tag → Bool
is_other_block tag = is_thick tag && not (is "p" tag)

no_block : (test : Tag → Bool) (xs : Nodes) → has_element xs ≡ false → some_element test xs ≡ false
no_block test no_nodes e = refl
no_block test (bytes b rest) e = no_block test rest e
no_block test (element tag kids rest) e = absurd (true≢false e)

para_no_other : (tag : Tag) → is "p" tag ≡ true → is_other_block tag ≡ false
para_no_other tag e = and_right (is_thick tag) (not (is "p" tag)) (ap not e)

thin_no_other : (xs : Nodes) → some_element is_thick xs ≡ false → some_element is_other_block xs ≡ false
thin_no_other no_nodes e = refl
thin_no_other (bytes b rest) e = thin_no_other rest e
thin_no_other (element tag kids rest) e =
    let both = or_parts (is_thick tag) (some_element is_thick rest) e in
    ap (λ t. (t && not (is "p" tag)) || some_element is_other_block rest) both.0 ∙ thin_no_other rest both.1

joined_p : (held : Option Nodes) (tag : Tag) → is "p" tag ≡ true → is "p" (joined_tag held tag) ≡ true
joined_p None tag e = e
joined_p (Some held) tag e = e

settled-other : (ends : Bool) (tag : Tag) (kids : Nodes) → is "p" tag ≡ true → some_element is_other_block (unjoined_para ends tag kids) ≡ false
settled-other ends tag kids e = at (ends && not (has_element (without (is "pPr") kids))) refl
  where
    at : (b : Bool) → (ends && not (has_element (without (is "pPr") kids))) ≡ b
        → some_element is_other_block (if b then without (is "pPr") kids else element tag kids no_nodes) ≡ false
    at true h = no_block is_other_block (without (is "pPr") kids) (not-true _ (and_parts ends _ h).1)
    at false h = ap (λ b. b || false) (para_no_other tag e)

given-other : (p : GroupPiece) (held : Option Nodes) (joining followed : Bool) → is_chain (p ∷ []) ≡ true → some_element is_other_block (given p held joining followed) ≡ false
given-other (para tag cut kids) held true followed c = refl
given-other (para tag cut kids) held false followed c =
    settled-other (cut && followed) (joined_tag held tag) (joined_kids held kids) (joined_p held tag (and_parts (is "p" tag) true c).0)
given-other (thin nodes) None joining followed c = thin_no_other nodes (not-true _ (and_parts (not (some_element is_thick nodes)) true c).0)
given-other (thin nodes) (Some held) joining followed c = refl
given-other (thick nodes) held joining followed c = absurd (true≢false (sym c))

chain-∷ : (p : GroupPiece) (ps : List GroupPiece) → is_chain (p ∷ ps) ≡ true → (is_chain (p ∷ []) ≡ true) × (is_chain ps ≡ true)
chain-∷ (para tag cut kids) ps c = let a = and_parts (is "p" tag) (is_chain ps) c in (rw a.0 refl, a.1)
chain-∷ (thin nodes) ps c = let a = and_parts (not (some_element is_thick nodes)) (is_chain ps) c in (rw a.0 refl, a.1)
chain-∷ (thick nodes) ps c = absurd (true≢false (sym c))

from-other : (followed : Bool) (held : Option Nodes) (ps : List GroupPiece) → is_chain ps ≡ true → some_element is_other_block (grouped_from followed held ps) ≡ false
from-other followed held [] c = refl
from-other followed held (p ∷ ps) c =
    let a = chain-∷ p ps c in
    some-⊕ is_other_block (given p held (joins p ps) (has_thick ps || followed)) (grouped_from followed (held_by p held (joins p ps)) ps)
    (given-other p held (joins p ps) (has_thick ps || followed) a.0) (from-other followed (held_by p held (joins p ps)) ps a.1)

-- The last block

record EndsIn (found : Bool) (end : Option Bool) : Type 0 where
  good : found ≡ true → end ≡ Some true
  none : found ≡ false → end ≡ None

ends_later : (b r : Bool) (here later : Option Bool) → EndsIn b here → EndsIn r later → EndsIn (b || r) (or_before here later)
ends_later true true here later e f = record { good = λ x. ap (or_before here) (f.good refl); none = λ x. absurd (true≢false x) }
ends_later false true here later e f = record { good = λ x. ap (or_before here) (f.good refl); none = λ x. absurd (true≢false x) }
ends_later true false here later e f = record { good = λ x. ap (or_before here) (f.none refl) ∙ e.good refl; none = λ x. absurd (true≢false x) }
ends_later false false here later e f = record { good = λ x. absurd (true≢false (sym x)); none = λ x. ap (or_before here) (f.none refl) ∙ e.none refl }

one_end : (p w t : Bool) (inner : Option Bool) → (w ≡ true → t ≡ true) → (t && not p) ≡ false
    → EndsIn p (if p then Some true else if w then inner else if t then Some false else None)
one_end true w t inner h e = record { good = λ x. refl; none = λ x. absurd (true≢false x) }
one_end false w true inner h e = absurd (true≢false e)
one_end false true false inner h e = absurd (true≢false (sym (h refl)))
one_end false false false inner h e = record { good = λ x. absurd (true≢false (sym x)); none = λ x. refl }

wrapper_thick : (tag : Tag) → is_wrapper tag ≡ true → is_thick tag ≡ true
wrapper_thick tag e = by_names (λ t. is_thick t ≡ true) ("sdt" ∷ "customXml" ∷ []) tag e (refl, (refl, tt))

para_end : (xs : Nodes) → some_element is_other_block xs ≡ false → EndsIn (some_element (is "p") xs) (end_of Direct xs)
para_end no_nodes e = record { good = λ x. absurd (true≢false (sym x)); none = λ x. refl }
para_end (bytes b rest) e = para_end rest e
para_end (element tag kids rest) e =
    let both = or_parts (is_other_block tag) (some_element is_other_block rest) e in
    ends_later (is "p" tag) (some_element (is "p") rest) (end_of_one Direct tag (end_of (into Direct tag) kids)) (end_of Direct rest)
    (one_end (is "p" tag) (is_wrapper tag) (is_thick tag) _ (wrapper_thick tag) both.0) (para_end rest both.1)

-- a group ends with a paragraph, where it has one
pub grouped-end : (followed : Bool) (ps : List GroupPiece) → is_chain ps ≡ true → some_element (is "p") (grouped followed ps) ≡ true → end_of Direct (grouped followed ps) ≡ Some true
grouped-end followed ps c = (para_end (grouped followed ps) (from-other followed None ps c)).good

-- The last paragraph

some-either : (test : Tag → Bool) (xs ys : Nodes) → some_element test (xs ⊕ ys) ≡ (some_element test xs || some_element test ys)
some-either test no_nodes ys = refl
some-either test (bytes b rest) ys = some-either test rest ys
some-either test (element tag kids rest) ys = at (test tag) (some-either test rest ys)
  where
    at : (b : Bool) → some_element test (rest ⊕ ys) ≡ (some_element test rest || some_element test ys)
        → (b || some_element test (rest ⊕ ys)) ≡ ((b || some_element test rest) || some_element test ys)
    at true ih = refl
    at false ih = ih

some_later : (xs ys : Nodes) → some_element (is "p") ys ≡ true → some_element (is "p") (xs ⊕ ys) ≡ true
some_later xs ys e = some-either (is "p") xs ys ∙ ap (λ b. some_element (is "p") xs || b) e ∙ or-true (some_element (is "p") xs)

left-from : (followed : Bool) (held : Option Nodes) (ps : List GroupPiece) → is_chain ps ≡ true → keeps_last followed ps ≡ true → some_element (is "p") (grouped_from followed held ps) ≡ true
left-from followed held [] c e = absurd (true≢false (sym e))
left-from followed held (thin nodes ∷ ps) c e =
    some_later (given (thin nodes) held false (has_thick ps || followed)) (grouped_from followed (held_by (thin nodes) held false) ps)
    (left-from followed (held_by (thin nodes) held false) ps (chain-∷ (thin nodes) ps c).1 e)
left-from followed held (thick nodes ∷ ps) c e = absurd (true≢false (sym c))
left-from followed held (para tag cut kids ∷ ps) c e =
    let both = chain-∷ (para tag cut kids) ps c in
    let joining = cut && paragraph_next ps in
    at (has_thick ps) refl e (and_parts (is "p" tag) true both.0).0 (left-from followed (held_by (para tag cut kids) held joining) ps both.1)
  where
    p : GroupPiece
    p = para tag cut kids

    at : (h : Bool) → has_thick ps ≡ h → (if h then keeps_last followed ps else not (cut && followed)) ≡ true → is "p" tag ≡ true
        → (keeps_last followed ps ≡ true → some_element (is "p") (grouped_from followed (held_by p held (cut && paragraph_next ps)) ps) ≡ true)
        → some_element (is "p") (given p held (cut && paragraph_next ps) (h || followed) ⊕ grouped_from followed (held_by p held (cut && paragraph_next ps)) ps) ≡ true
    at true h k q ih = some_later (given p held (cut && paragraph_next ps) true) (grouped_from followed (held_by p held (cut && paragraph_next ps)) ps) (ih k)
    at false h k q ih =
        let rest = grouped_from followed None ps in
        ap (λ j. some_element (is "p") (given p held j followed ⊕ grouped_from followed (held_by p held j) ps)) (and_right cut (paragraph_next ps) (next-thick ps h))
        ∙ ap (λ b. some_element (is "p") ((if b && not (has_element (without (is "pPr") (joined_kids held kids))) then without (is "pPr") (joined_kids held kids) else element (joined_tag held tag) (joined_kids held kids) no_nodes) ⊕ rest)) (not-true (cut && followed) k)
        ∙ ap (λ b. b || some_element (is "p") rest) (joined_p held tag q)

-- a group has a paragraph, where the last one of the chain is kept
pub grouped-left : (followed : Bool) (ps : List GroupPiece) → is_chain ps ≡ true → keeps_last followed ps ≡ true → some_element (is "p") (grouped followed ps) ≡ true
grouped-left followed ps = left-from followed None ps
