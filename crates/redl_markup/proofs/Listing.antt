-- The list of a tail's attributes.
use Rattle.std.proofs.Common.{◌≡◌, ℕ, inl, inr, zero, suc, ◌<◌, Bool, List, [], ◌∷◌, ◌++◌, length, map, Option, Some, None, refl, sym, ap, ◌∙◌, arith, true}
use Rattle.std.specs.Prelude.{IfSome, IsNone, ◌&&◌}
use Rattle.std.specs.List.{AllByRecursion, list_all}
use Rattle.redl_reading.specs.Steps.{Gives}
use Rattle.std.proofs.lemmas.List.{append-nil}
use Rattle.redl_grammar.specs.Characters.{is_space}
use Rattle.redl_reading.specs.Lists.{front, after, before, is_filled}
use Rattle.redl_grammar.specs.Names.{Name, name_text}
use Rattle.redl_grammar.specs.Tails.{IsSpace, Attribute, attribute_then, attributes_then, IsAttribute, IsTail, named_value}
use Rattle.redl_grammar.specs.ScanNames.{name_at, char_at, word_at}
use Rattle.redl_grammar.specs.ScanTags.{attribute_at, attribute_in, Tail, attributes_at}
use Rattle.redl_markup.specs.Attributes.{attributes_by, attributes_from, attributes_of, names_in}
use Rattle.redl_reading.proofs.Runs.{after_again, list_all-parts}
use Rattle.std.proofs.lemmas.Bool.{cases_Bool, and_parts, and_from}
use Rattle.redl_reading.proofs.Words.{before-append}
use Rattle.redl_grammar.proofs.Attributes.{first_again, first_shorter, tail_takes_turns, first_takes}
use Rattle.redl_grammar.proofs.Tags.{attributes_then-append}

-- any count above the length of the rest gives the same list
counts_alike : (n m : ℕ) (tail : List ℕ) → length tail < n → length tail < m → attributes_from n tail ≡ attributes_from m tail
counts_alike zero m tail hn hm = absurd (omega arith)
counts_alike (suc n) zero tail hn hm = absurd (omega arith)
counts_alike (suc n) (suc m) tail hn hm = of (attribute_in tail) refl (λ rest less. counts_alike n m rest (omega arith) (omega arith)) where
  of : (o : Option ((Name × List ℕ) × List ℕ)) → attribute_in tail ≡ o → ((rest : List ℕ) → length rest < length tail → attributes_from n rest ≡ attributes_from m rest) → attributes_by (attributes_from n) o ≡ attributes_by (attributes_from m) o
  of None e go = refl
  of (Some x) e go = ap (λ (more : List (Name × List ℕ)). x.0 ∷ more) (go x.1 (first_shorter tail x e))

pub lists_more : (tail : List ℕ) (x : (Name × List ℕ) × List ℕ) → attribute_in tail ≡ Some x → attributes_of tail ≡ x.0 ∷ attributes_of x.1
unfolding attributes_of
lists_more tail x e =
    let less = first_shorter tail x e in
    rw e (ap (λ (more : List (Name × List ℕ)). x.0 ∷ more) (counts_alike (length tail) (suc (length x.1)) x.1 less (omega arith)))

pub lists_none : (tail : List ℕ) → attribute_in tail ≡ None → attributes_of tail ≡ []
unfolding attributes_of
lists_none tail e = rw e refl

none_in_nothing : attribute_at [] ≡ None
unfolding attribute_at name_at word_at char_at
none_in_nothing = refl

none_in_space : (space : List ℕ) → IsSpace space → attribute_in space ≡ None
unfolding attribute_in
none_in_space space h =
    let left : after is_space space ≡ [] = ap (after is_space) (sym (append-nil space)) ∙ after_again is_space space [] h refl in
    elim (cases_Bool (is_filled (front is_space space))) [
      | inl filled ↦ rw (filled, left) none_in_nothing
      | inr lacks ↦ rw lacks refl
    ]

lists_all : (attrs : List Attribute) (space : List ℕ) → AllByRecursion IsAttribute attrs → IsSpace space → attributes_of (attributes_then attrs space) ≡ map named_value attrs
lists_all [] space each h = lists_none space (none_in_space space h)
lists_all (a ∷ attrs) space each h =
    lists_more (attribute_then a (attributes_then attrs space)) (named_value a, attributes_then attrs space) (first_again a (attributes_then attrs space) each.0)
    ∙ ap (λ (more : List (Name × List ℕ)). named_value a ∷ more) (lists_all attrs space each.1 h)

-- the list of a legal tail is that of its attributes
pub tail_lists : (tail : List ℕ) (h : IsTail tail) → attributes_of tail ≡ map named_value h.attributes
tail_lists tail h = ap attributes_of h.whole ∙ lists_all h.attributes h.space h.each h.is_space

-- ---- the names that were collected

names_of : (attrs : List Attribute) → map (λ (a : Attribute). a.name) attrs ≡ map (λ (a : Name × List ℕ). a.0) (map named_value attrs)
names_of [] = refl
names_of (a ∷ attrs) = ap (λ (ns : List Name). a.name ∷ ns) (names_of attrs)

-- they are those of the tail's attributes
pub names_listed : (bs : List ℕ) (x : Tail) → attributes_at bs ≡ Some x → x.0 ≡ names_in (before bs x.1)
unfolding attributes_at
names_listed bs x e =
    let t = tail_takes_turns (suc (length bs)) ([], bs) x e in
    let tail : List ℕ = attributes_then t.attributes t.space in
    let whole : bs ≡ tail ++ x.1 = t.whole ∙ sym (attributes_then-append t.attributes t.space x.1) in
    let cut : before bs x.1 ≡ tail = ap (λ (z : List ℕ). before z x.1) whole ∙ before-append tail x.1 in
    let listed = ap attributes_of cut ∙ lists_all t.attributes t.space t.each t.is_space in
    t.names ∙ names_of t.attributes ∙ sym (ap (map (λ (a : Name × List ℕ). a.0)) listed)

-- nothing has none
pub names_of_none : (rest : List ℕ) → names_in (before rest rest) ≡ []
names_of_none rest =
    let none : before rest rest ≡ [] = before-append [] rest in
    ap names_in none ∙ ap (map (λ (a : Name × List ℕ). a.0)) (lists_all [] [] tt refl)

-- ---- the bytes of names

-- the bytes of a name's two parts pass
abbrev pub name_passes : (ℕ → Bool) → Name → Bool
name_passes p name = list_all p name.prefix && list_all p name.local

text_passes : (p : ℕ → Bool) (prefix local : List ℕ) → list_all p (name_text (record { prefix = prefix; local = local })) ≡ true → (list_all p prefix && list_all p local) ≡ true
text_passes p [] local h = h
text_passes p (b ∷ bs) local h =
    let both = list_all-parts p (b ∷ bs) (58 ∷ local) h in
    and_from (list_all p (b ∷ bs)) (list_all p local) both.0 (and_parts (p 58) (list_all p local) both.1).1

first_passes : (p : ℕ → Bool) (a : Attribute) (rest : List ℕ) → list_all p (attribute_then a rest) ≡ true → (name_passes p a.name ≡ true) × (list_all p rest ≡ true)
first_passes p a rest h =
    let named = list_all-parts p (name_text a.name) _ (list_all-parts p a.gap _ h).1 in
    let equated = (and_parts (p 61) _ (list_all-parts p a.left _ named.1).1).1 in
    let quoted = (and_parts (p a.quote) _ (list_all-parts p a.right _ equated).1).1 in
    (text_passes p a.name.prefix a.name.local named.0, (and_parts (p a.quote) _ (list_all-parts p a.value _ quoted).1).1)

names_pass_from : (p : ℕ → Bool) (n : ℕ) (tail : List ℕ) → list_all p tail ≡ true → list_all (λ a. name_passes p a.0) (attributes_from n tail) ≡ true
names_pass_from p zero tail h = refl
names_pass_from p (suc n) tail h = of (attribute_in tail) refl (names_pass_from p n) where
  of : (o : Option ((Name × List ℕ) × List ℕ)) → attribute_in tail ≡ o → ((rest : List ℕ) → list_all p rest ≡ true → list_all (λ a. name_passes p a.0) (attributes_from n rest) ≡ true) → list_all (λ a. name_passes p a.0) (attributes_by (attributes_from n) o) ≡ true
  of None e go = refl
  of (Some x) e go =
      let t = first_takes tail x e in
      let passed = first_passes p t.0 x.1 (sym (ap (list_all p) t.1) ∙ h) in
      let name : t.0.name ≡ x.0.0 = ap (λ (v : Name × List ℕ). v.0) t.3 in
      and_from (name_passes p x.0.0) (list_all (λ a. name_passes p a.0) (attributes_from n x.1)) (sym (ap (name_passes p) name) ∙ passed.0) (go x.1 passed.1)

-- if all bytes of a tail pass, so do those of its attributes' names
pub names_pass : (p : ℕ → Bool) (tail : List ℕ) → list_all p tail ≡ true → list_all (λ a. name_passes p a.0) (attributes_of tail) ≡ true
unfolding attributes_of
names_pass p tail h = names_pass_from p (suc (length tail)) tail h

-- ---- what the code answers

pub is_first : {X : Type 0} (view : X → (Name × List ℕ) × List ℕ) (tail : List ℕ) (r : Option X) → Gives view r (attribute_in tail) → IfSome r (λ x. attributes_of tail ≡ (view x).0 ∷ attributes_of (view x).1)
is_first view tail None e = tt
is_first view tail (Some x) e = lists_more tail (view x) e

pub is_last : {X : Type 0} (view : X → (Name × List ℕ) × List ℕ) (tail : List ℕ) (r : Option X) → Gives view r (attribute_in tail) → IsNone r → attributes_of tail ≡ []
is_last view tail None e h = lists_none tail e
is_last view tail (Some x) e h = absurd cc

pub is_shorter : {X : Type 0} (view : X → (Name × List ℕ) × List ℕ) (tail : List ℕ) (r : Option X) → Gives view r (attribute_in tail) → IfSome r (λ x. length (view x).1 < length tail)
is_shorter view tail None e = tt
is_shorter view tail (Some x) e = first_shorter tail (view x) e
