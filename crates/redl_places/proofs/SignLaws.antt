-- Signs that references give, one after the other.
use Rattle.std.proofs.Common.{◌≡◌, ◌∙◌, refl, sym, ap, subst, ℕ, ◌+◌, ◌≤◌, List, arith, Bool, true, false, bytes_eq, cond, Option, Some, None, is_some, if◌then◌else◌}
use Rattle.std.proofs.lemmas.Cmp.{nat_list_cmp_total}
use Rattle.std.proofs.lemmas.Map.Text.{is_eq-slice_cmp}
use Rattle.std.proofs.lemmas.Slice.Eq.{bytes_eq-Decides}
use Rattle.std.specs.BTreeMap.{UpdatesBy}
use Rattle.std.specs.Cmp.{eq_by_cmp_equiv}
use Rattle.std.specs.Cmp.Lexicographic.{slice_cmp, nat_list_eq_equiv}
use Rattle.std.specs.Global.{Vec}
use Rattle.std.specs.Map.{AreApart, IsKeyTest, KeepsOthers, lookup}
use Rattle.std.specs.Ordering.{is_eq, nat_cmp}
use Rattle.redl_reading.specs.Steps.{or_else}
use Rattle.redl_order.specs.Order.{is_same}
use Rattle.redl_order.specs.declared.reference.Named.{Named}
use Rattle.redl_order.specs.declared.reference.Reference.{Reference}
use Rattle.redl_places.specs.Signs.{count_after}
use Rattle.redl_places.specs.Views.{sign_at}
use Rattle.redl_places.specs.declared.sign.KindSigns.{KindSigns}
use Rattle.redl_places.specs.declared.sign.NoteSign.{NoteSign}

pub or_nothing : (o : Option NoteSign) → o ≡ or_else o None
or_nothing None = refl
or_nothing (Some x) = refl

-- the first of three
pub or-or : (a b c : Option NoteSign) → or_else (or_else a b) c ≡ or_else a (or_else b c)
or-or None b c = refl
or-or (Some x) b c = refl

-- ---- maps by owned ids

module _ {K : Type 0} (eq : K → K → Bool) (test : K → Bool) where
  other_entries : {X : Type 0} (old new : List (K × X)) → KeepsOthers eq test old new → (other : K → Bool) → IsKeyTest eq other → AreApart test other → lookup other new ≡ lookup other old
  unfolding KeepsOthers
  other_entries old new h = h

apart : (id other key : List ℕ) → bytes_eq id other ≡ false → is_eq (slice_cmp nat_cmp id key) ≡ true → is_eq (slice_cmp nat_cmp other key) ≡ false
apart id other key differ same =
    is_eq-slice_cmp other key ∙ nat_list_eq_equiv.symm other key ∙ sym (nat_list_eq_equiv.congr id key other (sym (is_eq-slice_cmp id key) ∙ same)) ∙ differ

-- what a map with owned ids has at any id after a change at one
pub updated : (id : List ℕ) (old new : KindSigns) (sign : Option NoteSign)
    → UpdatesBy (λ (x y : Vec ℕ). slice_cmp nat_cmp x.items y.items) (λ (k : Vec ℕ). slice_cmp nat_cmp id k.items) old.by_id new.by_id sign
    → (other : List ℕ) → sign_at new other ≡ cond (bytes_eq id other) sign (sign_at old other)
updated id old new sign h other = by (bytes_eq id other) refl
  where
    by : (b : Bool) → bytes_eq id other ≡ b → sign_at new other ≡ cond b sign (sign_at old other)
    by true same = subst (λ (l : List ℕ). sign_at new l ≡ sign) ((bytes_eq-Decides id other).0 same) h.1
    by false differ =
        other_entries _ _ _ _ h.3 _ (λ (x y : Vec ℕ). (eq_by_cmp_equiv nat_list_cmp_total).congr other x.items y.items) (λ (k : Vec ℕ). apart id other k.items differ)

-- ---- signs

-- a sign more, where there was none: the signs before were `old`
pub sign_more : (id other : List ℕ) (old : List ℕ → Option NoteSign) (sign : NoteSign) (now : Option NoteSign) → old id ≡ None → now ≡ cond (bytes_eq id other) (Some sign) (old other)
    → now ≡ or_else (old other) (if bytes_eq id other then Some sign else None)
sign_more id other old sign now none is = at (bytes_eq id other) refl
  where
    at : (b : Bool) → bytes_eq id other ≡ b → now ≡ or_else (old other) (if bytes_eq id other then Some sign else None)
    at true s =
        is ∙ ap (λ b. cond b (Some sign) (old other)) s
        ∙ sym (ap (λ b. or_else (old other) (if b then Some sign else None)) s ∙ ap (λ o. or_else o (Some sign)) (ap old (sym ((bytes_eq-Decides id other).0 s)) ∙ none))
    at false s =
        is ∙ ap (λ b. cond b (Some sign) (old other)) s ∙ or_nothing (old other) ∙ sym (ap (λ b. or_else (old other) (if b then Some sign else None)) s)

kept : (o : Option NoteSign) (sign : NoteSign) → is_some o ≡ true → o ≡ or_else o (Some sign)
kept None sign h = cc
kept (Some x) sign h = refl

-- and where there was one
pub sign_kept : (id other : List ℕ) (old : List ℕ → Option NoteSign) (sign : NoteSign) → is_some (old id) ≡ true → old other ≡ or_else (old other) (if bytes_eq id other then Some sign else None)
sign_kept id other old sign there = at (bytes_eq id other) refl
  where
    at : (b : Bool) → bytes_eq id other ≡ b → old other ≡ or_else (old other) (if bytes_eq id other then Some sign else None)
    at true s =
        kept (old other) sign (ap (λ i. is_some (old i)) (sym ((bytes_eq-Decides id other).0 s)) ∙ there)
        ∙ sym (ap (λ b. or_else (old other) (if b then Some sign else None)) s)
    at false s = or_nothing (old other) ∙ sym (ap (λ b. or_else (old other) (if b then Some sign else None)) s)

pub none_there : (o : Option NoteSign) → is_some o ≡ false → o ≡ None
none_there None h = refl
none_there (Some x) h = cc

pub count_few : (kind : Named) (count : ℕ) (reference : Reference) → count_after kind count reference ≤ count + 1
count_few kind count reference = both (is_same kind reference.named) reference.own_sign
  where
    both : (same own : Bool) → (if same then (if own then count else count + 1) else count) ≤ count + 1
    both true true = omega arith
    both true false = omega arith
    both false own = omega arith
