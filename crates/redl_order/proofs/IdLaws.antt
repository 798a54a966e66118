-- Notes by their ids.
use Rattle.std.proofs.Common.{◌≡◌, ◌∙◌, refl, sym, ap, ℕ, List, [], ◌∷◌, ◌++◌, append_assoc, append-nil, Bool, true, false, not, ◌||◌, filter, codes, bytes_eq, cond, Option, Some, None, drop, if◌then◌else◌}
use Rattle.std.specs.List.{flat_map, list_any}
use Rattle.std.specs.Option.{option_map_or}
use Rattle.std.proofs.lemmas.Slice.Eq.{bytes_eq-Decides}
use Rattle.redl_tree.specs.Model.View.{Element}
use Rattle.redl_order.specs.Order.{has_id, with_ids, ids, own_id, is_same}
use Rattle.redl_order.specs.References.{id_in}
use Rattle.redl_order.specs.declared.places.Places.{Places}
use Rattle.redl_order.specs.declared.reference.Named.{Named}
use Rattle.redl_order.specs.declared.reference.Reference.{Reference}
use Rattle.redl_order.specs.Inside.Places.{notes_at, Moves}

-- what a table has after one of its ids got this
pub after_change : {X : Type 0} (f : X → List Element) (b : Bool) (now old : Option X) → option_map_or f (cond b now old) [] ≡ (if b then option_map_or f now [] else option_map_or f old [])
after_change f true now old = refl
after_change f false now old = refl

abbrev without : List ℕ → List Element → List Element
without id notes = filter (λ e. not (has_id id e)) notes

-- ---- a note more

pub one_more : (id other : List ℕ) (e : Element) (old : List ℕ → List Element) (first now : List Element) → id ≡ id_in e.tag.tail → first ≡ (if bytes_eq id other then [] else old other)
    → now ≡ (if bytes_eq id other then old id ++ (e ∷ []) else first) → now ≡ old other ++ filter (has_id other) (e ∷ [])
one_more id other e old first now is was h = at (bytes_eq id other) refl
  where
    tested : (b : Bool) → bytes_eq id other ≡ b → filter (has_id other) (e ∷ []) ≡ (if b then e ∷ [] else [])
    tested b s = ap (λ i. if bytes_eq i other then e ∷ [] else []) (sym is) ∙ ap (λ c. if c then e ∷ [] else []) s

    at : (b : Bool) → bytes_eq id other ≡ b → now ≡ old other ++ filter (has_id other) (e ∷ [])
    at true s =
        h ∙ ap (λ c. if c then old id ++ (e ∷ []) else first) s ∙ ap (λ (i : List ℕ). old i ++ (e ∷ [])) ((bytes_eq-Decides id other).0 s)
        ∙ ap (λ (es : List Element). old other ++ es) (sym (tested true s))
    at false s =
        h ∙ ap (λ c. if c then old id ++ (e ∷ []) else first) s ∙ was ∙ ap (λ c. if c then [] else old other) s ∙ sym (append-nil (old other))
        ∙ ap (λ (es : List Element). old other ++ es) (sym (tested false s))

-- ---- notes that were taken out

none_left : (id : List ℕ) (notes : List Element) → filter (has_id id) (without id notes) ≡ []
none_left id [] = refl
none_left id (e ∷ es) = at (has_id id e) refl (none_left id es)
  where
    at : (b : Bool) → has_id id e ≡ b → filter (has_id id) (without id es) ≡ [] → filter (has_id id) (without id (e ∷ es)) ≡ []
    at true s later = ap (λ c. filter (has_id id) (if not c then e ∷ without id es else without id es)) s ∙ later
    at false s later =
        ap (λ c. filter (has_id id) (if not c then e ∷ without id es else without id es)) s
        ∙ ap (λ c. if c then e ∷ filter (has_id id) (without id es) else filter (has_id id) (without id es)) s ∙ later

apart : (id other own : List ℕ) → bytes_eq id other ≡ false → bytes_eq own id ≡ true → bytes_eq own other ≡ false
apart id other own s t = ap (λ i. bytes_eq i other) ((bytes_eq-Decides own id).0 t) ∙ s

others_stay : (id other : List ℕ) (notes : List Element) → bytes_eq id other ≡ false → filter (has_id other) (without id notes) ≡ filter (has_id other) notes
others_stay id other [] s = refl
others_stay id other (e ∷ es) s = at (has_id id e) refl (others_stay id other es s)
  where
    at : (b : Bool) → has_id id e ≡ b → filter (has_id other) (without id es) ≡ filter (has_id other) es → filter (has_id other) (without id (e ∷ es)) ≡ filter (has_id other) (e ∷ es)
    at true t later =
        ap (λ c. filter (has_id other) (if not c then e ∷ without id es else without id es)) t ∙ later
        ∙ sym (ap (λ c. if c then e ∷ filter (has_id other) es else filter (has_id other) es) (apart id other (id_in e.tag.tail) s t))
    at false t later =
        ap (λ c. filter (has_id other) (if not c then e ∷ without id es else without id es)) t
        ∙ ap (λ (l : List Element). if has_id other e then e ∷ l else l) later

pub left_after : (id other : List ℕ) (notes : List Element) → filter (has_id other) (without id notes) ≡ (if bytes_eq id other then [] else filter (has_id other) notes)
left_after id other notes = at (bytes_eq id other) refl
  where
    at : (b : Bool) → bytes_eq id other ≡ b → filter (has_id other) (without id notes) ≡ (if bytes_eq id other then [] else filter (has_id other) notes)
    at true s =
        ap (λ i. filter (has_id i) (without id notes)) (sym ((bytes_eq-Decides id other).0 s)) ∙ none_left id notes
        ∙ sym (ap (λ c. if c then [] else filter (has_id other) notes) s)
    at false s = others_stay id other notes s ∙ sym (ap (λ c. if c then [] else filter (has_id other) notes) s)

-- ---- reference after reference

-- a table has these notes by their ids
abbrev pub Has : Places → List Element → Type 0
Has places notes = (id : List ℕ) → notes_at places id ≡ filter (has_id id) notes

-- the notes so far, and then those of the references that are left
pub record SoFar (places : Places) (now : List Element) (rest : List (List ℕ)) (all : List Element) : Type 0 where
  pub notes : List Element
  pub has : Has places notes
  pub all_of : now ++ with_ids rest notes ≡ all

pub goes_on : (own : Bool) (id : List ℕ) (more : List (List ℕ)) (found left : Places) (old new all : List Element)
    → SoFar found old ((if own then id ∷ [] else []) ++ more) all → Moves (if own then id ∷ [] else []) found left old new → SoFar left new more all
goes_on false id more found left old new all s m = record {
  notes = s.notes;
  has = λ other. m.others other ∙ s.has other;
  all_of = ap (λ (es : List Element). es ++ with_ids more s.notes) (m.added ∙ append-nil old) ∙ s.all_of;
}
goes_on true id more found left old new all s m = record {
  notes = without id s.notes;
  has = λ other.
      m.others other
      ∙ either other (bytes_eq id other)
      ∙ ap (λ (es : List Element). if bytes_eq id other then [] else es) (s.has other)
      ∙ sym (left_after id other s.notes);
  all_of =
      ap (λ (es : List Element). es ++ with_ids more (without id s.notes)) (m.added ∙ ap (λ (es : List Element). old ++ es) (append-nil (notes_at found id) ∙ s.has id))
      ∙ append_assoc old (filter (has_id id) s.notes) (with_ids more (without id s.notes)) ∙ s.all_of;
}
  where
    either : (other : List ℕ) (b : Bool) → (if b || false then [] else notes_at found other) ≡ (if b then [] else notes_at found other)
    either other true = refl
    either other false = refl
