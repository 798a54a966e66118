-- The texts of locks: what was read is what the text means, and what the text means is read.
use Rattle.std.proofs.Common.{◌≡◌, ℕ, List, Some, refl, sym, ap, subst, ◌∙◌, IsUtf8, false}
use Rattle.std.specs.Prelude.{ℤ, codes, option_map}
use Rattle.std.proofs.lemmas.Option.{same_Some}
use Rattle.redl_reading.proofs.Options.{map_some}
use Rattle.redl_kinds.specs.KindNames.{kind_named}
use Rattle.redl_kinds.proofs.KindNameLaws.{kind_named-exact}
use Rattle.redl_kinds.specs.declared.lock.Lock.{Lock}
use Rattle.redl_kinds.specs.declared.lock.Lock.TheVariants.{Author, Kind, Span}
use Rattle.redl_words.specs.Commands.{LockHasUtf8}
use Rattle.redl_words.specs.Items.{is_name, lock_option}
use Rattle.redl_words.specs.Selections.{MeansLock}
use Rattle.redl_words.specs.Reading.Locks.{lock_in}
use Rattle.redl_words.specs.Reading.Selections.{moments_in}
use Rattle.redl_words.specs.declared.options.Locked.{Locked}
use Rattle.redl_words.specs.declared.options.Locked.TheVariants as locked
use Rattle.redl_words.proofs.SelectionLaws.{dates_take, dates_again}

-- what a lock is on, and the option of that
abbrev pub lock_on : Lock → Locked
lock_on (Author name) = locked.Author
lock_on (Kind of_kind) = locked.Kind
lock_on (Span start end) = locked.Span

abbrev pub locked_option : Locked → List ℕ
locked_option locked.Author = codes "--lock"
locked_option locked.Kind = codes "--lock-kind"
locked_option locked.Span = codes "--lock-span"

pub no_name : (lock : Lock) → is_name (lock_option lock) ≡ false
no_name (Author name) = refl
no_name (Kind of_kind) = refl
no_name (Span start end) = refl

pub lock_takes : (on : Locked) (text : List ℕ) (lock : Lock) → lock_in on text ≡ Some lock → (locked_option on ≡ lock_option lock) × MeansLock text lock
unfolding lock_in
lock_takes locked.Author text lock e =
    subst (λ (l : Lock). (locked_option locked.Author ≡ lock_option l) × MeansLock text l) (same_Some (Author text) lock e) (refl, refl)
lock_takes locked.Kind text lock e =
    let k = map_some Kind (kind_named text) lock e in
    let t = (kind_named-exact text k.0).0 k.1 in
    subst (λ (l : Lock). (locked_option locked.Kind ≡ lock_option l) × MeansLock text l) k.2 (refl, (sym t.1, t.0))
lock_takes locked.Span text lock e =
    let m = map_some (λ (m : ℤ × ℤ). Span m.0 m.1) (moments_in text) lock e in
    subst (λ (l : Lock). (locked_option locked.Span ≡ lock_option l) × MeansLock text l) m.2 (refl, dates_take text m.0 m.1)

pub lock_again : (text : List ℕ) (lock : Lock) → MeansLock text lock → lock_in (lock_on lock) text ≡ Some lock
unfolding lock_in
lock_again text (Author name) h = ap (λ (l : List ℕ). Some (Author l)) h
lock_again text (Kind of_kind) h = ap (option_map Kind) ((kind_named-exact text of_kind).1 (h.1, sym h.0))
lock_again text (Span start end) h =
    ap (λ (l : List ℕ). option_map (λ (m : ℤ × ℤ). Span m.0 m.1) (moments_in l)) h.written
    ∙ ap (option_map (λ (m : ℤ × ℤ). Span m.0 m.1)) (dates_again h.first h.second start end h.starts h.ends)

pub lock_utf8 : (text : List ℕ) (lock : Lock) → MeansLock text lock → IsUtf8 text → LockHasUtf8 lock
lock_utf8 text (Author name) h u = subst IsUtf8 h u
lock_utf8 text (Kind of_kind) h u = tt
lock_utf8 text (Span start end) h u = tt
