-- The number on an element is that of the revision that a lock holds.
use Rattle.std.proofs.Common.{◌≡◌, ◌∙◌, refl, ap, sym, subst, ℕ, zero, suc, ◌+◌, ◌≤◌, ◌||◌, Bool, true, false, List, [], ◌∷◌, slice_get, Option, Some, None, bytes_eq, arith}
use Rattle.std.specs.List.{list_any}
use Rattle.std.proofs.lemmas.List.Elements.{All-nil}
use Rattle.redl_tree.proofs.Reading.SameBytes.{bytes_same}
use Rattle.redl_index.specs.Revisions.{revisions_of}
use Rattle.redl_index.specs.declared.revision.Revision.{Revision}
use Rattle.redl_join.specs.Books.{is_on}
use Rattle.redl_journal.specs.declared.entry.Entry.{Entry}
use Rattle.redl_sound.specs.Held.{IsBegun, IsHeld, IsAuthor, IsLocked, move_in}
use Rattle.redl_sound.proofs.Locked.Books.{AreElsewhere, barred, still-elsewhere}
use Rattle.redl_sound.specs.Names.{IsTellerOf, NumbersNameIn}
use Rattle.redl_sound.proofs.Numbered.Labelled.{Rise, seen-rise}
use Rattle.redl_sound.proofs.Numbered.Lists.{placed}
use Rattle.redl_sound.proofs.Numbered.Package.{numbers-name}
use Rattle.redl_select.specs.Locks.{holds}
use Rattle.redl_kinds.specs.declared.lock.Lock.{Lock}
use Rattle.redl_kinds.specs.declared.lock.Lock.TheVariants.{Author}
use Rattle.redl_session.specs.Sessions.{SessionState, after, says}
use Rattle.redl_stamp.specs.Stamp.{author_of}
use Rattle.redl_tree.specs.Decisions.Fates.{fate, fate_of, say_of}
use Rattle.redl_tree.specs.Model.Seen.{Seen, seen, root_spots}
use Rattle.redl_tree.specs.Revisions.Moves.{Pair}
use Rattle.redl_tree.specs.declared.kinds.Fate.TheVariants.{Leave}
use Rattle.redl_tree.specs.declared.kinds.Kind.{Kind}
use Rattle.redl_tree.specs.declared.kinds.Kind.TheVariants.{Plain, Content, Mark, Row, Cell, Change, Marker}
use Rattle.redl_tree.specs.declared.kinds.Say.TheVariants.{Keep}

-- ---- an element that is held is kept

pub held-kept : (state : SessionState) (entries : List Entry) (element : Seen) → IsBegun state → IsHeld state element
    → say_of (says (after state entries)) element.own.tag.rev ≡ Keep
held-kept state entries element begun held = by element.own.tag.rev refl
  where
    names : NumbersNameIn (revisions_of state.nodes) held.part (seen held.root.tag held.root.kids) element
    names = (numbers-name state.nodes begun.shape begun.numbered).elements held.part held.root element held.is_story held.among

    by : (number : ℕ) → element.own.tag.rev ≡ number → say_of (says (after state entries)) number ≡ Keep
    by zero e = refl
    by (suc place) e =
        let found = names.named place e in
        let bar = barred state.locks found.revision (held.held found.revision found.told) in
        still-elsewhere place found.revision bar.0 state entries (ap (λ rs. slice_get rs place) begun.index ∙ found.listed) bar.1
        (subst (AreElsewhere (suc place)) (sym begun.empty) (All-nil (λ (entry : Entry). is_on (suc place) entry ≡ false)))

-- what is kept is left, whatever its kind
leave-kept : (kind : Kind) → fate kind Keep ≡ Leave
leave-kept Plain = refl
leave-kept (Content trace) = refl
leave-kept (Mark trace) = refl
leave-kept (Row trace) = refl
leave-kept (Cell trace) = refl
leave-kept (Change prop) = refl
leave-kept Marker = refl

pub held-left : (state : SessionState) (entries : List Entry) (element : Seen) → IsBegun state → IsHeld state element
    → fate_of (says (after state entries)) element.own.tag ≡ Leave
held-left state entries element begun held = ap (fate element.own.tag.kind) (held-kept state entries element begun held) ∙ leave-kept element.own.tag.kind

-- ---- a lock on the author

-- positions tell the elements of a story apart
below : (at : ℕ) (xs : List Seen) (k : ℕ) (x : Seen) → Rise at xs → slice_get xs k ≡ Some x → at ≤ x.own.start
below at [] k x rise e = absurd (cc)
below at (y ∷ xs) zero x rise e =
    let is : y ≡ x = cc in
    let P : Seen → Type 0 = λ z. at ≤ z.own.start in
    subst P is rise.0
below at (y ∷ xs) (suc k) x rise e = omega (arith, rise.0, below (y.own.start + 1) xs k x rise.1 e)

one-there : (at : ℕ) (xs : List Seen) (k l : ℕ) (x y : Seen) → Rise at xs → slice_get xs k ≡ Some x → slice_get xs l ≡ Some y → x.own.start ≡ y.own.start → x ≡ y
one-there at [] k l x y rise e f same = absurd (cc)
one-there at (z ∷ xs) zero zero x y rise e f same = cc
one-there at (z ∷ xs) zero (suc l) x y rise e f same =
    let is : z ≡ x = cc in
    absurd (omega (arith, ap (λ (s : Seen). s.own.start) is, same, below (z.own.start + 1) xs l y rise.1 f))
one-there at (z ∷ xs) (suc k) zero x y rise e f same =
    let is : z ≡ y = cc in
    absurd (omega (arith, ap (λ (s : Seen). s.own.start) is, same, below (z.own.start + 1) xs k x rise.1 e))
one-there at (z ∷ xs) (suc k) (suc l) x y rise e f same = one-there (z.own.start + 1) xs k l x y rise.1 e f same

-- a lock on this author is among the locks
any-holds : (revision : Revision) (name : List ℕ) (locks : List Lock) (k : ℕ) → slice_get locks k ≡ Some (Author name) → revision.author ≡ name
    → list_any (holds revision) locks ≡ true
any-holds revision name [] k at is = absurd (cc)
any-holds revision name (lock ∷ locks) zero at is =
    let same : lock ≡ Author name = cc in
    ap (λ l. holds revision l || list_any (holds revision) locks) same
    ∙ ap (λ b. b || list_any (holds revision) locks) (ap (λ a. bytes_eq a name) is ∙ bytes_same name)
any-holds revision name (lock ∷ locks) (suc k) at is = by (holds revision lock) (any-holds revision name locks k at is)
  where
    by : (b : Bool) → list_any (holds revision) locks ≡ true → (b || list_any (holds revision) locks) ≡ true
    by true e = refl
    by false e = e

pub locked-held : (state : SessionState) (element : Seen) → IsLocked state element → IsHeld state element
locked-held state element locked = record {
  part = locked.part;
  root = locked.root;
  is_story = locked.is_story;
  among = locked.among;
  held = λ revision told.
      let lock = placed state.locks (Author locked.author) locked.locked in
      any-holds revision locked.author state.locks lock.0 lock.1 (by (move_in (seen locked.root.tag locked.root.kids) element) locked.is_author revision told);
}
  where
    by : (p : Option Pair) → IsAuthor (seen locked.root.tag locked.root.kids) element locked.author p → (revision : Revision)
        → IsTellerOf (seen locked.root.tag locked.root.kids) element revision p → revision.author ≡ locked.author
    by None is revision told = told.author ∙ sym is
    by (Some pair) is revision told =
        let all = seen locked.root.tag locked.root.kids in
        let one = placed all told.0.element told.0.among in
        let other = placed all is.0.element is.0.among in
        let same = one-there 1 all one.0 other.0 told.0.element is.0.element (seen-rise (root_spots locked.root.tag locked.root.kids) 1 locked.root.kids) one.1 other.1
        (told.0.start ∙ sym is.0.start) in
        told.1.author ∙ ap (λ (x : Seen). author_of x.own.tag.tail) same ∙ sym is.1
