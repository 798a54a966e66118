-- Lists of entries in blocks.
use Rattle.std.proofs.Common.{◌≡◌, ℕ, zero, suc, ◌+◌, ◌-◌, ◌<◌, ◌≤◌, Bool, true, false, cond, eqb, List, [], ◌∷◌, ◌++◌, length, take, drop, get_or, set, Ordering, Less, Equal, Greater, refl, sym, ap, subst, ◌∙◌, append_assoc, append-nil, add-one, arith}
use Rattle.std.specs.Prelude.{◌||◌}
use Rattle.std.specs.Global.{Vec}
use Rattle.std.specs.List.{list_any, AllByRecursion, insert, remove}
use Rattle.std.specs.List.Sorted.{IsStrictlySortedBy, IsPartitionedBy, IsPartitionPoint}
use Rattle.std.specs.Cmp.{IsTotalOrder}
use Rattle.std.specs.Ordering.{is_eq, is_lt, match_ordering}
use Rattle.std.specs.Set.{remove_key}
use Rattle.std.specs.BTreeSet.{insert_key}
use Rattle.std.proofs.lemmas.Bool.{eqb-true}
use Rattle.std.proofs.lemmas.List.Edits.{get_or-insert_below}
use native.Mathlib.Numerals.{unary_clauses}
use Rattle.redl_journal.specs.declared.entry.Entry.{Entry}
use Rattle.redl_journal.specs.Order.{entry_order}
use Rattle.redl_journal.proofs.EntryOrder.{entry_order-total}
use Rattle.redl_join.specs.Blocks.{entries_in_blocks, IsFilled, AreBlocks, AreCounted, ends_before, IsPlace}
use Rattle.redl_join.specs.Books.{IsBook}
use Rattle.redl_join.proofs.Lists.{below, insert_present, sorted_insert}
use Rattle.redl_join.proofs.Parts.{all_front, all_back, all_append, all_at, all_map, sorted_front, sorted_back, apart, less, insert_after, insert_before, any_after, any_before, remove_after, remove_before, remove_absent}

-- ---- the last entry of a block

abbrev AllBelow : Entry → List Entry → Type 0
AllBelow e xs = AllByRecursion (λ x. entry_order e x ≡ Less) xs

is_less : (r : Ordering) → is_lt r ≡ true → r ≡ Less
is_less Less h = refl
is_less Equal h = absurd cc
is_less Greater h = absurd cc

ends-tail : (e x y : Entry) (ys : List Entry) → ends_before e (x ∷ y ∷ ys) ≡ ends_before e (y ∷ ys)
ends-tail e x y ys = simp unary_clauses

-- the last entry tells of all
ends-all : (xs : List Entry) (e : Entry) → IsBook xs → ends_before e xs ≡ true → AllByRecursion (λ x. entry_order x e ≡ Less) xs
unfolding IsStrictlySortedBy
ends-all [] e sorted h = tt
ends-all (x ∷ []) e sorted h = (is_less (entry_order x e) h, tt)
ends-all (x ∷ y ∷ ys) e sorted h =
    let rest : AllByRecursion (λ x. entry_order x e ≡ Less) (y ∷ ys) = ends-all (y ∷ ys) e sorted.1 (sym (ends-tail e x y ys) ∙ h) in
    (entry_order-total.trans x y e sorted.0.0 rest.0, rest)

all-ends : (xs : List Entry) (e : Entry) → AllByRecursion (λ x. entry_order x e ≡ Less) xs → ends_before e xs ≡ true
all-ends [] e h = refl
all-ends (x ∷ []) e h = rw h.0 refl
all-ends (x ∷ y ∷ ys) e h = ends-tail e x y ys ∙ all-ends (y ∷ ys) e h.1

above : (x e : Entry) (rest : List Entry) → is_lt (entry_order x e) ≡ false → AllBelow x rest → AllBelow e rest
above x e rest h lower = by (entry_order x e) refl h where
  by : (r : Ordering) → entry_order x e ≡ r → is_lt r ≡ false → AllBelow e rest
  by Less is h = absurd cc
  by Equal is h = all_map (λ y. entry_order x y ≡ Less) (λ y. entry_order e y ≡ Less) rest (λ y own. sym (entry_order-total.congr x e y is) ∙ own) lower
  by Greater is h = below entry_order-total e x rest (less entry_order-total x e is) lower

-- where a block doesn't end before the entry, what comes after the block is later
ends-later : (xs rest : List Entry) (e : Entry) → ends_before e xs ≡ false → AllByRecursion (λ x. AllBelow x rest) xs → AllBelow e rest
ends-later [] rest e h lower = absurd cc
ends-later (x ∷ []) rest e h lower = above x e rest h lower.0
ends-later (x ∷ y ∷ ys) rest e h lower = ends-later (y ∷ ys) rest e (sym (ends-tail e x y ys) ∙ h) lower.1

last-reach : (x e : Entry) (ys : List Entry) → (ys ≡ [] → ⊥) → ends_before e ys ≡ true → AllBelow x ys → entry_order x e ≡ Less
last-reach x e [] filled h lower = absurd (filled refl)
last-reach x e (y ∷ []) filled h lower = entry_order-total.trans x y e lower.0 (is_less (entry_order y e) h)
last-reach x e (y ∷ z ∷ zs) filled h lower = last-reach x e (z ∷ zs) (λ none. absurd cc) (sym (ends-tail e y z zs) ∙ h) lower.1

reach : (x e : Entry) (blocks : List (Vec Entry)) (j : ℕ) (d : Vec Entry) → AllByRecursion IsFilled blocks → j < length blocks
    → ends_before e (get_or blocks j d).items ≡ true → AllBelow x (entries_in_blocks blocks) → entry_order x e ≡ Less
reach x e [] j d filled within h lower = absurd (omega arith)
reach x e (b ∷ bs) zero d filled within h lower = last-reach x e b.items filled.0 h (all_front (λ y. entry_order x y ≡ Less) b.items (entries_in_blocks bs) lower)
reach x e (b ∷ bs) (suc j) d filled within h lower = reach x e bs j d filled.1 (omega arith) h (all_back (λ y. entry_order x y ≡ Less) b.items (entries_in_blocks bs) lower)

blocks-rest : (b : Vec Entry) (bs : List (Vec Entry)) → AreBlocks (b ∷ bs) → AreBlocks bs
blocks-rest b bs h = record { ordered = sorted_back entry_order-total b.items (entries_in_blocks bs) h.ordered; filled = h.filled.1 }

pub partitioned : (blocks : List (Vec Entry)) (e : Entry) → AreBlocks blocks → IsPartitionedBy (λ block. ends_before e block.items) blocks
partitioned [] e are i j d le within h = absurd (omega arith)
partitioned (b ∷ bs) e are zero zero d le within h = h
partitioned (b ∷ bs) e are zero (suc j) d le within h =
    all-ends b.items e
    (all_map (λ x. AllBelow x (entries_in_blocks bs)) (λ x. entry_order x e ≡ Less) b.items (λ x lower. reach x e bs j d are.filled.1 (omega arith) h lower) (apart entry_order-total b.items (entries_in_blocks bs) are.ordered))
partitioned (b ∷ bs) e are (suc i) zero d le within h = absurd (omega arith)
partitioned (b ∷ bs) e are (suc i) (suc j) d le within h = partitioned bs e (blocks-rest b bs are) i j d (omega arith) (omega arith) h

earlier : (blocks : List (Vec Entry)) (i : ℕ) (e : Entry) → AreBlocks blocks → i ≤ length blocks
    → ((k : ℕ) (d : Vec Entry) → k < i → ends_before e (get_or blocks k d).items ≡ true) → AllByRecursion (λ x. entry_order x e ≡ Less) (entries_in_blocks (take i blocks))
earlier [] zero e are within h = tt
earlier [] (suc i) e are within h = absurd (omega arith)
earlier (b ∷ bs) zero e are within h = tt
earlier (b ∷ bs) (suc i) e are within h =
    all_append (λ x. entry_order x e ≡ Less) b.items (entries_in_blocks (take i bs))
    (ends-all b.items e (sorted_front entry_order-total b.items (entries_in_blocks bs) are.ordered) (h 0 b (omega arith)))
    (earlier bs i e (blocks-rest b bs are) (omega arith) (λ k d low. h (suc k) d (omega arith)))

later : (blocks : List (Vec Entry)) (i : ℕ) (e : Entry) → AreBlocks blocks
    → ((k : ℕ) (d : Vec Entry) → i ≤ k → k < length blocks → ends_before e (get_or blocks k d).items ≡ false) → AllBelow e (entries_in_blocks (drop (suc i) blocks))
later [] i e are h = tt
later (b ∷ bs) zero e are h = ends-later b.items (entries_in_blocks bs) e (h 0 b (omega arith) (omega arith)) (apart entry_order-total b.items (entries_in_blocks bs) are.ordered)
later (b ∷ bs) (suc i) e are h = later bs i e (blocks-rest b bs are) (λ k d low high. h (suc k) d (omega arith) (omega arith))

pub place_found : (blocks : List (Vec Entry)) (e : Entry) (i : ℕ) → AreBlocks blocks → i ≤ length blocks
    → IsPartitionPoint (λ block. ends_before e block.items ≡ true) (λ block. ends_before e block.items ≡ false) blocks i → IsPlace e blocks i
place_found blocks e i are within h = record {
  bound = within;
  earlier = earlier blocks i e are within (λ k d low. h.0 k d (omega arith) low);
  later = later blocks i e are (λ k d low high. h.1 k d low high);
}

default : (xs : List (Vec Entry)) (k : ℕ) (c d : Vec Entry) → k < length xs → get_or xs k c ≡ get_or xs k d
default [] k c d within = absurd (omega arith)
default (x ∷ xs) zero c d within = refl
default (x ∷ xs) (suc k) c d within = default xs k c d (omega arith)

-- where the last block ends before the entry, it comes after all
pub place_last : (blocks : List (Vec Entry)) (e : Entry) (last : Vec Entry) → AreBlocks blocks → 0 < length blocks
    → last ≡ get_or blocks (length blocks - 1) last → ends_before e last.items ≡ true → IsPlace e blocks (length blocks)
place_last blocks e last are some is h =
    let at : ends_before e (get_or blocks (length blocks - 1) last).items ≡ true = subst (λ (b : Vec Entry). ends_before e b.items ≡ true) is h in
    place_found blocks e (length blocks) are (omega arith)
    (λ k d low high. same k d high (partitioned blocks e are k (length blocks - 1) last (omega arith) (omega arith) at), λ k d low high. absurd (omega arith)) where
      same : (k : ℕ) (d : Vec Entry) → k < length blocks → ends_before e (get_or blocks k last).items ≡ true → ends_before e (get_or blocks k d).items ≡ true
      same k d high h = subst (λ (b : Vec Entry). ends_before e b.items ≡ true) (default blocks k last d high) h

-- ---- one block of several

pub parted : (blocks : List (Vec Entry)) (i : ℕ) (d : Vec Entry) → i < length blocks
    → entries_in_blocks blocks ≡ entries_in_blocks (take i blocks) ++ ((get_or blocks i d).items ++ entries_in_blocks (drop (suc i) blocks))
parted [] i d within = absurd (omega arith)
parted (b ∷ bs) zero d within = refl
parted (b ∷ bs) (suc i) d within =
    ap (λ (l : List Entry). b.items ++ l) (parted bs i d (omega arith)) ∙ sym (append_assoc b.items (entries_in_blocks (take i bs)) ((get_or bs i d).items ++ entries_in_blocks (drop (suc i) bs)))

pub joined-set : (blocks : List (Vec Entry)) (i : ℕ) (b : Vec Entry) → i < length blocks
    → entries_in_blocks (set blocks i b) ≡ entries_in_blocks (take i blocks) ++ (b.items ++ entries_in_blocks (drop (suc i) blocks))
joined-set [] i b within = absurd (omega arith)
joined-set (x ∷ xs) zero b within = refl
joined-set (x ∷ xs) (suc i) b within =
    ap (λ (l : List Entry). x.items ++ l) (joined-set xs i b (omega arith)) ∙ sym (append_assoc x.items (entries_in_blocks (take i xs)) (b.items ++ entries_in_blocks (drop (suc i) xs)))

last-tail : (x y d : Vec Entry) (ys : List (Vec Entry)) → get_or (x ∷ y ∷ ys) (length (x ∷ y ∷ ys) - 1) d ≡ get_or (y ∷ ys) (length (y ∷ ys) - 1) d
last-tail x y d ys = simp unary_clauses

set-tail : (x y b : Vec Entry) (ys : List (Vec Entry)) → set (x ∷ y ∷ ys) (length (x ∷ y ∷ ys) - 1) b ≡ x ∷ set (y ∷ ys) (length (y ∷ ys) - 1) b
set-tail x y b ys = simp unary_clauses

-- a block that has the entries of the one in its place
pub joined-same : (blocks : List (Vec Entry)) (i : ℕ) (b d : Vec Entry) → i < length blocks → b.items ≡ (get_or blocks i d).items → entries_in_blocks (set blocks i b) ≡ entries_in_blocks blocks
joined-same blocks i b d within same =
    joined-set blocks i b within ∙ ap (λ (l : List Entry). entries_in_blocks (take i blocks) ++ (l ++ entries_in_blocks (drop (suc i) blocks))) same ∙ sym (parted blocks i d within)

pub joined-push : (blocks : List (Vec Entry)) (b d : Vec Entry) (e : Entry) → 0 < length blocks → b.items ≡ (get_or blocks (length blocks - 1) d).items ++ e ∷ []
    → entries_in_blocks (set blocks (length blocks - 1) b) ≡ entries_in_blocks blocks ++ e ∷ []
joined-push [] b d e some is = absurd (omega arith)
joined-push (x ∷ []) b d e some is = append-nil b.items ∙ is ∙ ap (λ (l : List Entry). l ++ e ∷ []) (sym (append-nil x.items))
joined-push (x ∷ y ∷ ys) b d e some is =
    ap entries_in_blocks (set-tail x y b ys)
    ∙ ap (λ (l : List Entry). x.items ++ l) (joined-push (y ∷ ys) b d e (omega arith) (is ∙ ap (λ (c : Vec Entry). c.items ++ e ∷ []) (last-tail x y d ys)))
    ∙ sym (append_assoc x.items (entries_in_blocks (y ∷ ys)) (e ∷ []))

pub joined-push-at : (blocks : List (Vec Entry)) (n : ℕ) (b d : Vec Entry) (e : Entry) → n ≡ length blocks → 0 < n → d ≡ get_or blocks (n - 1) d → b.items ≡ d.items ++ e ∷ []
    → entries_in_blocks (set blocks (n - 1) b) ≡ entries_in_blocks blocks ++ e ∷ []
joined-push-at blocks n b d e is some own more =
    let last : d ≡ get_or blocks (length blocks - 1) d = rw is at own in
    rw is (joined-push blocks b d e (omega arith) (more ∙ ap (λ (c : Vec Entry). c.items ++ e ∷ []) last))

pub filled-set : (blocks : List (Vec Entry)) (i : ℕ) (b : Vec Entry) → AllByRecursion IsFilled blocks → IsFilled b → AllByRecursion IsFilled (set blocks i b)
filled-set [] i b h own = tt
filled-set (x ∷ xs) zero b h own = (own, h.1)
filled-set (x ∷ xs) (suc i) b h own = (h.0, filled-set xs i b h.1 own)

pub filled-remove : (blocks : List (Vec Entry)) (i : ℕ) → AllByRecursion IsFilled blocks → AllByRecursion IsFilled (remove blocks i)
filled-remove [] i h = none i where
  none : (i : ℕ) → AllByRecursion IsFilled (remove [] i)
  none zero = tt
  none (suc i) = tt
filled-remove (x ∷ xs) zero h = h.1
filled-remove (x ∷ xs) (suc i) h = (h.0, filled-remove xs i h.1)

pub insert-filled : (xs : List Entry) (e : Entry) → insert_key entry_order xs e ≡ [] → ⊥
insert-filled [] e none = absurd cc
insert-filled (x ∷ xs) e none = by (entry_order e x) none where
  by : (r : Ordering) → match_ordering r (e ∷ x ∷ xs) (x ∷ xs) (x ∷ insert_key entry_order xs e) ≡ [] → ⊥
  by Less none = absurd cc
  by Equal none = absurd cc
  by Greater none = absurd cc

-- ---- an entry at its place

-- an insertion into the block where the entry belongs
pub put : (blocks : List (Vec Entry)) (place : ℕ) (b d : Vec Entry) (e : Entry) → IsPlace e blocks place → place < length blocks
    → b.items ≡ insert_key entry_order (get_or blocks place d).items e → entries_in_blocks (set blocks place b) ≡ insert_key entry_order (entries_in_blocks blocks) e
put blocks place b d e at within is =
    let front = entries_in_blocks (take place blocks) in
    let back = entries_in_blocks (drop (suc place) blocks) in
    let own = (get_or blocks place d).items in
    joined-set blocks place b within
    ∙ ap (λ (l : List Entry). front ++ (l ++ back)) is
    ∙ ap (λ (l : List Entry). front ++ l) (sym (insert_before entry_order-total own back e at.later))
    ∙ sym (insert_after entry_order-total front (own ++ back) e at.earlier)
    ∙ ap (λ (l : List Entry). insert_key entry_order l e) (sym (parted blocks place d within))

-- whether the entry is there can be seen in that block
pub seen : (blocks : List (Vec Entry)) (place : ℕ) (d : Vec Entry) (e : Entry) → IsPlace e blocks place → place < length blocks
    → list_any (λ y. is_eq (entry_order e y)) (entries_in_blocks blocks) ≡ list_any (λ y. is_eq (entry_order e y)) (get_or blocks place d).items
seen blocks place d e at within =
    let front = entries_in_blocks (take place blocks) in
    let back = entries_in_blocks (drop (suc place) blocks) in
    let own = (get_or blocks place d).items in
    ap (λ (l : List Entry). list_any (λ y. is_eq (entry_order e y)) l) (parted blocks place d within)
    ∙ any_after entry_order-total front (own ++ back) e at.earlier
    ∙ any_before entry_order-total own back e at.later

pub taken : (blocks : List (Vec Entry)) (place : ℕ) (b d : Vec Entry) (e : Entry) → IsPlace e blocks place → place < length blocks
    → b.items ≡ remove_key (λ y. is_eq (entry_order e y)) (get_or blocks place d).items
    → entries_in_blocks (set blocks place b) ≡ remove_key (λ y. is_eq (entry_order e y)) (entries_in_blocks blocks)
taken blocks place b d e at within is =
    let front = entries_in_blocks (take place blocks) in
    let back = entries_in_blocks (drop (suc place) blocks) in
    let own = (get_or blocks place d).items in
    joined-set blocks place b within
    ∙ ap (λ (l : List Entry). front ++ (l ++ back)) is
    ∙ ap (λ (l : List Entry). front ++ l) (sym (remove_before entry_order-total own back e at.later))
    ∙ sym (remove_after entry_order-total front (own ++ back) e at.earlier)
    ∙ ap (λ (l : List Entry). remove_key (λ y. is_eq (entry_order e y)) l) (sym (parted blocks place d within))

take_whole : (blocks : List (Vec Entry)) → take (length blocks) blocks ≡ blocks
take_whole [] = refl
take_whole (b ∷ bs) = ap (λ (l : List (Vec Entry)). b ∷ l) (take_whole bs)

all_earlier : (blocks : List (Vec Entry)) (e : Entry) → IsPlace e blocks (length blocks) → AllByRecursion (λ x. entry_order x e ≡ Less) (entries_in_blocks blocks)
all_earlier blocks e at = subst (λ (l : List (Vec Entry)). AllByRecursion (λ x. entry_order x e ≡ Less) (entries_in_blocks l)) (take_whole blocks) at.earlier

-- an entry after all others
pub put_last : (blocks : List (Vec Entry)) (e : Entry) → IsPlace e blocks (length blocks) → entries_in_blocks blocks ++ e ∷ [] ≡ insert_key entry_order (entries_in_blocks blocks) e
put_last blocks e at =
    sym (insert_after entry_order-total (entries_in_blocks blocks) [] e (all_earlier blocks e at)) ∙ ap (λ (l : List Entry). insert_key entry_order l e) (append-nil (entries_in_blocks blocks))

pub unseen : (blocks : List (Vec Entry)) (e : Entry) → IsPlace e blocks (length blocks) → list_any (λ y. is_eq (entry_order e y)) (entries_in_blocks blocks) ≡ false
unseen blocks e at =
    ap (λ (l : List Entry). list_any (λ y. is_eq (entry_order e y)) l) (sym (append-nil (entries_in_blocks blocks)))
    ∙ any_after entry_order-total (entries_in_blocks blocks) [] e (all_earlier blocks e at)

-- ---- a block that is halved

pub some-front : (xs : List Entry) (n : ℕ) → 0 < n → n ≤ length xs → take n xs ≡ [] → ⊥
some-front [] n some within none = absurd (omega arith)
some-front (x ∷ xs) zero some within none = absurd (omega arith)
some-front (x ∷ xs) (suc n) some within none = absurd cc

pub some-back : (xs : List Entry) (n : ℕ) → n < length xs → drop n xs ≡ [] → ⊥
some-back [] n within none = absurd (omega arith)
some-back (x ∷ xs) zero within none = absurd cc
some-back (x ∷ xs) (suc n) within none = some-back xs n (omega arith) none

-- an empty block is put after the block b, which is then cut
pub record IsCut (blocks more : List (Vec Entry)) (i : ℕ) (none b : Vec Entry) : Type 0 where
  pub within : i < length blocks
  pub more_is : more ≡ insert blocks (i + 1) none
  pub block : b ≡ get_or more i b

inserted : (blocks more : List (Vec Entry)) (i : ℕ) (none b : Vec Entry) → IsCut blocks more i none b → b ≡ get_or blocks i b
inserted blocks more i none b cut =
    let within : i < length blocks = cut.within in
    let own : b ≡ get_or (insert blocks (i + 1) none) i b = rw cut.more_is at cut.block in
    own ∙ get_or-insert_below blocks (i + 1) none b i (omega arith) (omega arith)

pub block_is : (blocks more : List (Vec Entry)) (i : ℕ) (none b a : Vec Entry) → IsCut blocks more i none b → a ≡ get_or blocks i a → a ≡ b
block_is blocks more i none b a cut own = own ∙ default blocks i a b cut.within ∙ sym (inserted blocks more i none b cut)

pub halved : (blocks more : List (Vec Entry)) (i : ℕ) (none b lower upper : Vec Entry) → IsCut blocks more i none b → lower.items ++ upper.items ≡ b.items
    → entries_in_blocks (set (set more i lower) (i + 1) upper) ≡ entries_in_blocks blocks
halved blocks more i none b lower upper cut parts =
    let own = inserted blocks more i none b cut in
    rw (cut.more_is, add-one) (by blocks i cut.within (parts ∙ ap (λ (block : Vec Entry). block.items) own)) where
      by : (xs : List (Vec Entry)) (i : ℕ) → i < length xs → lower.items ++ upper.items ≡ (get_or xs i b).items
          → entries_in_blocks (set (set (insert xs (suc i) none) i lower) (suc i) upper) ≡ entries_in_blocks xs
      by [] i within parts = absurd (omega arith)
      by (x ∷ xs) zero within parts = sym (append_assoc lower.items upper.items (entries_in_blocks xs)) ∙ ap (λ (l : List Entry). l ++ entries_in_blocks xs) parts
      by (x ∷ xs) (suc i) within parts = ap (λ (l : List Entry). x.items ++ l) (by xs i (omega arith) parts)

pub halved-filled : (blocks more : List (Vec Entry)) (i : ℕ) (none b lower upper : Vec Entry) → IsCut blocks more i none b → IsFilled lower → IsFilled upper
    → AllByRecursion IsFilled blocks → AllByRecursion IsFilled (set (set more i lower) (i + 1) upper)
halved-filled blocks more i none b lower upper cut low high h = rw (cut.more_is, add-one) (by blocks i cut.within h) where
  by : (xs : List (Vec Entry)) (i : ℕ) → i < length xs → AllByRecursion IsFilled xs → AllByRecursion IsFilled (set (set (insert xs (suc i) none) i lower) (suc i) upper)
  by [] i within h = absurd (omega arith)
  by (x ∷ xs) zero within h = (low, (high, h.1))
  by (x ∷ xs) (suc i) within h = (h.0, by xs i (omega arith) h.1)

-- the block stays whole, and the empty one is removed again
pub whole : (blocks more : List (Vec Entry)) (i : ℕ) (none b same : Vec Entry) → IsCut blocks more i none b → same.items ≡ b.items
    → entries_in_blocks (remove (set more i same) (i + 1)) ≡ entries_in_blocks blocks
whole blocks more i none b same cut is =
    let own = inserted blocks more i none b cut in
    rw (cut.more_is, add-one) (by blocks i cut.within (is ∙ ap (λ (block : Vec Entry). block.items) own)) where
      by : (xs : List (Vec Entry)) (i : ℕ) → i < length xs → same.items ≡ (get_or xs i b).items → entries_in_blocks (remove (set (insert xs (suc i) none) i same) (suc i)) ≡ entries_in_blocks xs
      by [] i within is = absurd (omega arith)
      by (x ∷ xs) zero within is = ap (λ (l : List Entry). l ++ entries_in_blocks xs) is
      by (x ∷ xs) (suc i) within is = ap (λ (l : List Entry). x.items ++ l) (by xs i (omega arith) is)

-- ---- a block that may have become empty

pub empty_block : (b : Vec Entry) → eqb b.len 0 ≡ true → b.items ≡ []
empty_block b h = by b.items (sym b.ok.0 ∙ eqb-true b.len 0 h) where
  by : (xs : List Entry) → length xs ≡ 0 → xs ≡ []
  by [] h = refl
  by (x ∷ xs) h = absurd (omega arith)

pub some_block : (b : Vec Entry) → eqb b.len 0 ≡ false → IsFilled b
some_block b h none = let count : b.len ≡ 0 = b.ok.0 ∙ ap length none in let g : eqb 0 0 ≡ false = rw count at h in absurd cc

pub joined-drop : (blocks : List (Vec Entry)) (i : ℕ) (b : Vec Entry) → i < length blocks → b ≡ get_or blocks i b → b.items ≡ [] → entries_in_blocks (remove blocks i) ≡ entries_in_blocks blocks
joined-drop [] i b within own none = absurd (omega arith)
joined-drop (x ∷ xs) zero b within own none = ap (λ (l : List Entry). l ++ entries_in_blocks xs) (sym none ∙ ap (λ (block : Vec Entry). block.items) own)
joined-drop (x ∷ xs) (suc i) b within own none = ap (λ (l : List Entry). x.items ++ l) (joined-drop xs i b (omega arith) own none)

pub filled-back : (blocks : List (Vec Entry)) (i : ℕ) (b : Vec Entry) → i < length blocks → b ≡ get_or blocks i b → IsFilled b → AllByRecursion IsFilled (remove blocks i)
    → AllByRecursion IsFilled blocks
filled-back [] i b within own some h = absurd (omega arith)
filled-back (x ∷ xs) zero b within own some h = (subst IsFilled own some, h)
filled-back (x ∷ xs) (suc i) b within own some h = (h.0, filled-back xs i b (omega arith) own some h.1)

pub filled-others : (blocks : List (Vec Entry)) (i : ℕ) (b : Vec Entry) → AllByRecursion IsFilled blocks → AllByRecursion IsFilled (remove (set blocks i b) i)
filled-others [] i b h = filled-remove [] i tt
filled-others (x ∷ xs) zero b h = h.1
filled-others (x ∷ xs) (suc i) b h = (h.0, filled-others xs i b h.1)

-- ---- the block into which an entry belongs

pub record IsFor (entry : Entry) (blocks : List (Vec Entry)) (place : ℕ) (block : Vec Entry) : Type 0 where
  pub at : IsPlace entry blocks place
  pub within : place < length blocks
  pub is : block ≡ get_or blocks place block

pub for-book : (e : Entry) (blocks : List (Vec Entry)) (place : ℕ) (b : Vec Entry) → IsFor e blocks place b → AreBlocks blocks → IsBook b.items
for-book e blocks place b own are =
    let within : place < length blocks = own.within in
    let own_items = (get_or blocks place b).items in
    let parts : IsBook (entries_in_blocks (take place blocks) ++ (own_items ++ entries_in_blocks (drop (suc place) blocks))) = subst IsBook (parted blocks place b within) are.ordered in
    subst (λ (block : Vec Entry). IsBook block.items) (sym own.is)
    (sorted_front entry_order-total own_items (entries_in_blocks (drop (suc place) blocks)) (sorted_back entry_order-total (entries_in_blocks (take place blocks)) (own_items ++ entries_in_blocks (drop (suc place) blocks)) parts))

pub for-put : (e : Entry) (blocks : List (Vec Entry)) (place : ℕ) (b c : Vec Entry) → IsFor e blocks place b → c.items ≡ insert_key entry_order b.items e
    → entries_in_blocks (set blocks place c) ≡ insert_key entry_order (entries_in_blocks blocks) e
for-put e blocks place b c own more = put blocks place c b e own.at own.within (more ∙ ap (λ (block : Vec Entry). insert_key entry_order block.items e) own.is)

pub for-seen : (e : Entry) (blocks : List (Vec Entry)) (place : ℕ) (b : Vec Entry) → IsFor e blocks place b
    → list_any (λ y. is_eq (entry_order e y)) (entries_in_blocks blocks) ≡ list_any (λ y. is_eq (entry_order e y)) b.items
for-seen e blocks place b own =
    seen blocks place b e own.at own.within ∙ ap (λ (block : Vec Entry). list_any (λ y. is_eq (entry_order e y)) block.items) (sym own.is)

pub for-same : (e : Entry) (blocks : List (Vec Entry)) (place : ℕ) (b c : Vec Entry) → IsFor e blocks place b → c.items ≡ b.items → entries_in_blocks (set blocks place c) ≡ entries_in_blocks blocks
for-same e blocks place b c own same = joined-same blocks place c b own.within (same ∙ ap (λ (block : Vec Entry). block.items) own.is)

pub for-taken : (e : Entry) (blocks : List (Vec Entry)) (place : ℕ) (b c : Vec Entry) → IsFor e blocks place b → c.items ≡ remove_key (λ y. is_eq (entry_order e y)) b.items
    → entries_in_blocks (set blocks place c) ≡ remove_key (λ y. is_eq (entry_order e y)) (entries_in_blocks blocks)
for-taken e blocks place b c own less =
    taken blocks place c b e own.at own.within (less ∙ ap (λ (block : Vec Entry). remove_key (λ y. is_eq (entry_order e y)) block.items) own.is)

pub for-filled : (e : Entry) (blocks : List (Vec Entry)) (place : ℕ) (b c : Vec Entry) → IsFor e blocks place b → AllByRecursion IsFilled blocks
    → c.items ≡ insert_key entry_order b.items e → AllByRecursion IsFilled (set blocks place c)
for-filled e blocks place b c own h more = filled-set blocks place c h (λ none. insert-filled b.items e (sym more ∙ none))

pub for-filled_same : (e : Entry) (blocks : List (Vec Entry)) (place : ℕ) (b c : Vec Entry) → IsFor e blocks place b → AllByRecursion IsFilled blocks
    → c.items ≡ b.items → AllByRecursion IsFilled (set blocks place c)
for-filled_same e blocks place b c own h same =
    let some : IsFilled b = subst IsFilled (sym own.is) (all_at IsFilled blocks place b h own.within) in
    filled-set blocks place c h (λ none. some (sym same ∙ none))

-- ---- the invariant

pub blocks-with : (blocks new : List (Vec Entry)) (e : Entry) → AreBlocks blocks → entries_in_blocks new ≡ insert_key entry_order (entries_in_blocks blocks) e → AllByRecursion IsFilled new → AreBlocks new
blocks-with blocks new e are more filled = record { ordered = subst IsBook (sym more) (sorted_insert entry_order-total (entries_in_blocks blocks) e are.ordered); filled = filled }

pub blocks-same : (blocks new : List (Vec Entry)) → AreBlocks blocks → entries_in_blocks new ≡ entries_in_blocks blocks → AllByRecursion IsFilled new → AreBlocks new
blocks-same blocks new are same filled = record { ordered = subst IsBook (sym same) are.ordered; filled = filled }

pub all_remove : (P : Entry → Type 0) (test : Entry → Bool) (xs : List Entry) → AllByRecursion P xs → AllByRecursion P (remove_key test xs)
all_remove P test [] h = tt
all_remove P test (x ∷ xs) h = by (test x) (all_remove P test xs h.1) where
  by : (b : Bool) → AllByRecursion P (remove_key test xs) → AllByRecursion P (cond b xs (x ∷ remove_key test xs))
  by true rest = h.1
  by false rest = (h.0, rest)

pub sorted_remove : (test : Entry → Bool) (xs : List Entry) → IsBook xs → IsBook (remove_key test xs)
unfolding IsStrictlySortedBy
sorted_remove test [] h = tt
sorted_remove test (x ∷ xs) h = by (test x) (sorted_remove test xs h.1) where
  by : (b : Bool) → IsBook (remove_key test xs) → IsBook (cond b xs (x ∷ remove_key test xs))
  by true rest = h.1
  by false rest = (all_remove (λ y. entry_order x y ≡ Less) test xs h.0, rest)

pub blocks-without : (blocks new : List (Vec Entry)) (e : Entry) → AreBlocks blocks → entries_in_blocks new ≡ remove_key (λ y. is_eq (entry_order e y)) (entries_in_blocks blocks) → AllByRecursion IsFilled new
    → AreBlocks new
blocks-without blocks new e are less filled =
    record { ordered = subst IsBook (sym less) (sorted_remove (λ y. is_eq (entry_order e y)) (entries_in_blocks blocks) are.ordered); filled = filled }

pub no_blocks : AreBlocks []
unfolding IsStrictlySortedBy
no_blocks = record { ordered = tt; filled = tt }

-- ---- what a search for the place says

pub end_place : (e : Entry) (seen blocks : List (Vec Entry)) (place count : ℕ) → IsPlace e seen place → seen ≡ blocks → place ≡ count → count ≡ length blocks → IsPlace e blocks (length blocks)
end_place e seen blocks place count at same is counts =
    subst (λ (n : ℕ). IsPlace e blocks n) (is ∙ counts) (subst (λ (bs : List (Vec Entry)). IsPlace e bs place) same at)

pub for_place : (e : Entry) (seen blocks : List (Vec Entry)) (place count : ℕ) (b : Vec Entry) → IsPlace e seen place → seen ≡ blocks → (place ≡ count → ⊥) → count ≡ length blocks
    → b ≡ get_or blocks place b → IsFor e blocks place b
for_place e seen blocks place count b at same other counts own =
    let here : IsPlace e blocks place = subst (λ (bs : List (Vec Entry)). IsPlace e bs place) same at in
    let bound : place ≤ length blocks = here.bound in
    record { at = here; within = omega arith; is = own }

-- ---- how many entries there are

module _ {K : Type 0} {R : K → K → Ordering} (o : IsTotalOrder R) where
  length-new : (xs : List K) (e : K) → list_any (λ y. is_eq (R e y)) xs ≡ false → length (insert_key R xs e) ≡ length xs + 1
  length-new [] e h = refl
  length-new (x ∷ xs) e h = by (R e x) h (length-new xs e) where
    by : (r : Ordering) → (is_eq r || list_any (λ y. is_eq (R e y)) xs) ≡ false → (list_any (λ y. is_eq (R e y)) xs ≡ false → length (insert_key R xs e) ≡ length xs + 1)
        → length (match_ordering r (e ∷ x ∷ xs) (x ∷ xs) (x ∷ insert_key R xs e)) ≡ suc (length xs) + 1
    by Less h rec = omega arith
    by Equal h rec = absurd cc
    by Greater h rec = let more = rec h in omega arith

  length-removed : (xs : List K) (e : K) → list_any (λ y. is_eq (R e y)) xs ≡ true → length (remove_key (λ y. is_eq (R e y)) xs) + 1 ≡ length xs
  length-removed [] e h = absurd cc
  length-removed (x ∷ xs) e h = by (is_eq (R e x)) h (length-removed xs e) where
    by : (b : Bool) → (b || list_any (λ y. is_eq (R e y)) xs) ≡ true → (list_any (λ y. is_eq (R e y)) xs ≡ true → length (remove_key (λ y. is_eq (R e y)) xs) + 1 ≡ length xs)
        → length (cond b xs (x ∷ remove_key (λ y. is_eq (R e y)) xs)) + 1 ≡ suc (length xs)
    by true h rec = omega arith
    by false h rec = let less = rec h in omega arith

-- after an insertion
pub counted-new : (old new : List (Vec Entry)) (count : ℕ) (e : Entry) → AreCounted old count → AreBlocks new → entries_in_blocks new ≡ insert_key entry_order (entries_in_blocks old) e
    → list_any (λ y. is_eq (entry_order e y)) (entries_in_blocks old) ≡ false → AreCounted new (count + 1)
counted-new old new count e h are more lacks =
    let longer = length-new entry_order-total (entries_in_blocks old) e lacks in
    record { are = are; counted = ap (λ (n : ℕ). n + 1) h.counted ∙ sym longer ∙ ap length (sym more) }

pub counted-same : (old new : List (Vec Entry)) (count : ℕ) → AreCounted old count → AreBlocks new → entries_in_blocks new ≡ entries_in_blocks old → AreCounted new count
counted-same old new count h are same = record { are = are; counted = h.counted ∙ ap length (sym same) }

pub counted-removed : (old new : List (Vec Entry)) (count : ℕ) (e : Entry) → AreCounted old count → AreBlocks new → entries_in_blocks new ≡ remove_key (λ y. is_eq (entry_order e y)) (entries_in_blocks old)
    → list_any (λ y. is_eq (entry_order e y)) (entries_in_blocks old) ≡ true → AreCounted new (count - 1)
counted-removed old new count e h are less has =
    let shorter = length-removed entry_order-total (entries_in_blocks old) e has in
    let own : count ≡ length (entries_in_blocks old) = h.counted in
    let here : length (entries_in_blocks new) ≡ length (remove_key (λ y. is_eq (entry_order e y)) (entries_in_blocks old)) = ap length less in
    record { are = are; counted = omega arith }

pub some_counted : (old : List (Vec Entry)) (count : ℕ) (e : Entry) → AreCounted old count → list_any (λ y. is_eq (entry_order e y)) (entries_in_blocks old) ≡ true → 0 < count
some_counted old count e h has =
    let shorter = length-removed entry_order-total (entries_in_blocks old) e has in
    let own : count ≡ length (entries_in_blocks old) = h.counted in
    omega arith

pub none_counted : AreCounted [] 0
none_counted = record { are = no_blocks; counted = refl }

-- after an insertion that found the entry there
pub counted-there : (old new : List (Vec Entry)) (count : ℕ) (e : Entry) → AreCounted old count → AreBlocks new → entries_in_blocks new ≡ insert_key entry_order (entries_in_blocks old) e
    → list_any (λ y. is_eq (entry_order e y)) (entries_in_blocks old) ≡ true → AreCounted new count
counted-there old new count e h are more has = counted-same old new count h are (more ∙ insert_present entry_order-total (entries_in_blocks old) e h.are.ordered has)

-- after a removal that found nothing
pub counted-missed : (old new : List (Vec Entry)) (count : ℕ) (e : Entry) → AreCounted old count → AreBlocks new → entries_in_blocks new ≡ remove_key (λ y. is_eq (entry_order e y)) (entries_in_blocks old)
    → list_any (λ y. is_eq (entry_order e y)) (entries_in_blocks old) ≡ false → AreCounted new count
counted-missed old new count e h are less lacks = counted-same old new count h are (less ∙ remove_absent entry_order-total (entries_in_blocks old) e lacks)
