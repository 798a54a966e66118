-- Entries on a revision are refused exactly if a lock holds it.
use Rattle.std.proofs.Common.{◌≡◌, Bool, true, false, ◌&&◌, ◌||◌, List, [], ◌∷◌, Some, None, is_some, refl, if◌then◌else◌}
use Rattle.std.specs.List.{list_any}
use Rattle.redl_commands_shown.specs.Page.{is_locked}
use Rattle.redl_index.specs.declared.revision.Revision.{Revision}
use Rattle.redl_kinds.specs.Locks.{is_author, is_kind}
use Rattle.redl_select.specs.Locks.{holds}
use Rattle.redl_kinds.specs.declared.lock.Lock.{Lock}
use Rattle.redl_session.specs.declared.refusal.Bar.TheVariants.{Author, Kind, Span}

first_or_later : (second first here later : Bool) → (here ≡ true → later ≡ true) → (first && second) || here ≡ true → second || later ≡ true
first_or_later true first here later more h = refl
first_or_later false true here later more h = more h
first_or_later false false here later more h = more h

-- where both hold of a member, the second does
any_second : {X : Type 0} (first second : X → Bool) (xs : List X) → list_any (λ x. first x && second x) xs ≡ true → list_any second xs ≡ true
any_second first second [] h = h
any_second first second (x ∷ xs) h =
    first_or_later (second x) (first x) (list_any (λ y. first y && second y) xs) (list_any second xs) (any_second first second xs) h

barred : (author kind held : Bool) → (author ≡ true → held ≡ true) → (kind ≡ true → held ≡ true)
    → held ≡ is_some (if author then Some Author else if kind then Some Kind else if held then Some Span else None)
barred true kind held of_author of_kind = of_author refl
barred false true held of_author of_kind = of_kind refl
barred false false true of_author of_kind = refl
barred false false false of_author of_kind = refl

pub held_is_locked : (locks : List Lock) (revision : Revision) → list_any (λ lock. holds revision lock) locks ≡ is_locked locks revision
held_is_locked locks revision =
    barred (list_any (λ lock. is_author lock && holds revision lock) locks) (list_any (λ lock. is_kind lock && holds revision lock) locks)
    (list_any (λ lock. holds revision lock) locks) (any_second is_author (holds revision) locks) (any_second is_kind (holds revision) locks)
