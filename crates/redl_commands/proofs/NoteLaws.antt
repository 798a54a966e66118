-- Remarks with the note of so many marks, and with notes of what keeps a text from being read again.
use Rattle.std.proofs.Common.{◌≡◌, ◌∙◌, ℕ, List, [], ◌∷◌, ◌++◌, ◌-◌, ◌^◌, ◌==◌, min, ap, sym, append_assoc, append-nil, Bool, true, false, refl}
use Rattle.redl_commands.specs.Notes.{marks_noted, notes_of, noting}
use Rattle.redl_lines.specs.Remarks.{Remarks}
use Rattle.redl_lines.specs.declared.note.Note.{Note}
use Rattle.redl_lines.specs.declared.note.Note.TheVariants.{Undecided}
use Rattle.redl_tree.specs.Model.Nodes.{Nodes}
use Rattle.redl_undecided.specs.Undecided.{undecided_marks}

abbrev pub with_notes : Remarks → List Note → Remarks
with_notes remarks notes = record remarks { notes = notes }

-- no mark, no note
pub none_noted : (remarks : Remarks) (nodes : Nodes) (number : ℕ) → number ≡ min (undecided_marks nodes) (2 ^ 64 - 1) → number ≡ 0 → remarks ≡ noting nodes remarks
none_noted remarks nodes number is zero =
    let none : marks_noted nodes ≡ [] = ap notes_of (sym is ∙ zero) in
    ap (with_notes remarks) (sym (append-nil remarks.notes) ∙ ap (λ (notes : List Note). remarks.notes ++ notes) (sym none))

-- a number that is not 0 is noted
some_noted : (number : ℕ) (b : Bool) → (number == 0) ≡ b → b ≡ false → Undecided number ∷ [] ≡ notes_of number
some_noted number true is other = absurd (cc other)
some_noted number false is other = rw is refl

pub marks_are_noted : (remarks : Remarks) (nodes : Nodes) (number : ℕ) (notes : List Note) → number ≡ min (undecided_marks nodes) (2 ^ 64 - 1) → (number == 0) ≡ false
    → notes ≡ remarks.notes ++ Undecided number ∷ [] → with_notes remarks notes ≡ noting nodes remarks
marks_are_noted remarks nodes number notes is other added =
    ap (with_notes remarks)
    (added ∙ ap (λ (more : List Note). remarks.notes ++ more) (some_noted number (number == 0) refl other ∙ ap notes_of is))

-- ---- what keeps a text from being read again

-- three more notes, one after the other
pub noted_each : (one two three start : Remarks) (a b c : List Note) → one ≡ with_notes start (start.notes ++ a) → two ≡ with_notes one (one.notes ++ b)
    → three ≡ with_notes two (two.notes ++ c) → three ≡ with_notes start (start.notes ++ (a ++ (b ++ c)))
noted_each one two three start a b c first second third =
    let mid : two ≡ with_notes start (start.notes ++ (a ++ b)) =
    second ∙ ap (λ (r : Remarks). with_notes r (r.notes ++ b)) first ∙ ap (with_notes start) (append_assoc start.notes a b) in
    third ∙ ap (λ (r : Remarks). with_notes r (r.notes ++ c)) mid
    ∙ ap (with_notes start) (append_assoc start.notes (a ++ b) c ∙ ap (λ (ns : List Note). start.notes ++ ns) (append_assoc a b c))
