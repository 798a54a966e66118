-- Locked revisions and their notes, one more at a time.
use Rattle.std.proofs.Common.{◌≡◌, ◌∙◌, ℕ, List, [], ◌∷◌, ◌++◌, append_assoc, append-nil, Bool, true, false, not, map, filter, refl, sym, ap, if◌then◌else◌}
use Rattle.std.proofs.lemmas.List.{map-append}
use Rattle.std.proofs.lemmas.List.Elements.{filter-append}
use Rattle.std.specs.List.{list_any}
use Rattle.redl_commands.specs.Notes.{gone_among, locked_numbers, noting_gone, stands}
use Rattle.redl_index.specs.declared.revision.Revision.{Revision}
use Rattle.redl_kinds.specs.declared.lock.Lock.{Lock}
use Rattle.redl_lines.specs.Remarks.{Remarks}
use Rattle.redl_lines.specs.declared.note.Note.{Note}
use Rattle.redl_lines.specs.declared.note.Note.TheVariants.{Gone}
use Rattle.redl_select.specs.Locks.{holds}
use Rattle.redl_tree.specs.Model.Nodes.{Nodes}

-- ---- locked revisions

abbrev is_held : List Lock → Revision → Bool
is_held locks revision = list_any (λ lock. holds revision lock) locks

one_locked : (locks : List Lock) (last : Revision) (held : Bool) → is_held locks last ≡ held → locked_numbers locks (last ∷ []) ≡ (if held then last.number ∷ [] else [])
one_locked locks last true is = rw is refl
one_locked locks last false is = rw is refl

pub locked_more : (locks : List Lock) (before now : List Revision) (last : Revision) (held : Bool) → now ≡ before ++ last ∷ [] → is_held locks last ≡ held
    → locked_numbers locks now ≡ locked_numbers locks before ++ (if held then last.number ∷ [] else [])
locked_more locks before now last held more is =
    ap (locked_numbers locks) more
    ∙ ap (map (λ revision. revision.number)) (filter-append (is_held locks) before (last ∷ []))
    ∙ map-append (λ revision. revision.number) (filter (is_held locks) before) (filter (is_held locks) (last ∷ []))
    ∙ ap (λ (ns : List ℕ). locked_numbers locks before ++ ns) (one_locked locks last held is)

-- ---- notes

one_gone : (nodes : Nodes) (last : ℕ) (there : Bool) → stands nodes last ≡ there → gone_among nodes (last ∷ []) ≡ (if there then [] else last ∷ [])
one_gone nodes last true is = rw is refl
one_gone nodes last false is = rw is refl

gone_more : (nodes : Nodes) (before now : List ℕ) (last : ℕ) (there : Bool) → now ≡ before ++ last ∷ [] → stands nodes last ≡ there
    → gone_among nodes now ≡ gone_among nodes before ++ (if there then [] else last ∷ [])
gone_more nodes before now last there more is =
    ap (gone_among nodes) more ∙ filter-append (λ number. not (stands nodes number)) before (last ∷ [])
    ∙ ap (λ (ns : List ℕ). gone_among nodes before ++ ns) (one_gone nodes last there is)

-- the note of a number that doesn't stand
pub noted_more : (nodes : Nodes) (before now : List ℕ) (last : ℕ) (start old : Remarks) → now ≡ before ++ last ∷ [] → stands nodes last ≡ false
    → old ≡ noting_gone nodes before start → record old { notes = old.notes ++ Gone last ∷ [] } ≡ noting_gone nodes now start
noted_more nodes before now last start old more is so_far =
    ap (λ (r : Remarks). record r { notes = r.notes ++ Gone last ∷ [] }) so_far
    ∙ ap (λ (ns : List Note). record start { notes = ns })
    (append_assoc start.notes (map Gone (gone_among nodes before)) (Gone last ∷ [])
    ∙ ap (λ (ns : List Note). start.notes ++ ns) (sym (ap (map Gone) (gone_more nodes before now last false more is) ∙ map-append Gone (gone_among nodes before) (last ∷ []))))

-- no note of one that stands
pub noted_same : (nodes : Nodes) (before now : List ℕ) (last : ℕ) (start : Remarks) → now ≡ before ++ last ∷ [] → stands nodes last ≡ true
    → noting_gone nodes before start ≡ noting_gone nodes now start
noted_same nodes before now last start more is =
    ap (λ (ns : List ℕ). record start { notes = start.notes ++ map Gone ns }) (sym (gone_more nodes before now last true more is ∙ append-nil (gone_among nodes before)))
