-- What a call tells of the document that it writes (our own rule): marks that are left and never decided, locked revisions of which
-- nothing is left, and what keeps the document from being read again.
use Rattle.std.specs.Prelude.{ℕ, ◌-◌, ◌^◌, ◌==◌, Bool, not, nat_lt, List, [], ◌∷◌, ◌++◌, filter, length, map, min, if◌then◌else◌}
use Rattle.std.specs.List.{list_any}
use Rattle.redl_commands.specs.Choices.{is_among}
use Rattle.redl_commands.specs.Writing.{Writing}
use Rattle.redl_lines.specs.Remarks.{Remarks}
use Rattle.redl_lines.specs.declared.note.Note.{Note}
use Rattle.redl_lines.specs.declared.note.Note.TheVariants.{Undecided, Gone, NotAgain}
use Rattle.redl_lines.specs.declared.note.Obstacle.{Obstacle}
use Rattle.redl_lines.specs.declared.note.Obstacle.TheVariants as obstacle
use Rattle.redl_io.specs.Limits.{depth, package_bytes}
use Rattle.redl_index.specs.declared.revision.Revision.{Revision}
use Rattle.redl_kinds.specs.declared.lock.Lock.{Lock}
use Rattle.redl_select.specs.Locks.{holds}
use Rattle.redl_sittings.specs.SecondNumbers.{part_numbers}
use Rattle.redl_reread_sound.specs.Together.{meet_well}
use Rattle.redl_tree.specs.Model.Nodes.{Nodes}
use Rattle.redl_tree.specs.Model.Shapes.{depth_of}
use Rattle.redl_tree.specs.Model.Text.{text}
use Rattle.redl_undecided.specs.Undecided.{undecided_marks}

-- a note of so many marks, if there is one
abbrev pub notes_of : ℕ → List Note
notes_of number = if number == 0 then [] else Undecided number ∷ []

-- a note of the marks among nodes, where 64 bits count them
abbrev pub marks_noted : Nodes → List Note
marks_noted nodes = notes_of (min (undecided_marks nodes) (2 ^ 64 - 1))

-- remarks with the note of the marks among nodes
abbrev pub noting : Nodes → Remarks → Remarks
noting nodes remarks = record remarks { notes = remarks.notes ++ marks_noted nodes }

-- what is written, with the note of the marks among nodes
abbrev pub with_marks : Nodes → Writing → Writing
with_marks nodes writing = record writing { remarks = noting nodes writing.remarks }

-- the numbers of the revisions that a lock holds
abbrev pub locked_numbers : List Lock → List Revision → List ℕ
locked_numbers locks revisions = map (λ revision. revision.number) (filter (λ revision. list_any (λ lock. holds revision lock) locks) revisions)

-- an element of the revision with this number stands among nodes
abbrev pub stands : Nodes → ℕ → Bool
stands nodes number = list_any (λ part. is_among part number) (part_numbers nodes)

-- those of some revisions of which nothing stands among nodes
abbrev pub gone_among : Nodes → List ℕ → List ℕ
gone_among nodes numbers = filter (λ number. not (stands nodes number)) numbers

-- remarks with a note of each of these revisions of which nothing stands among nodes
abbrev pub noting_gone : Nodes → List ℕ → Remarks → Remarks
noting_gone nodes numbers remarks = record remarks { notes = remarks.notes ++ map Gone (gone_among nodes numbers) }

-- a note of an obstacle, if it is there
abbrev pub noted_if : Bool → Obstacle → List Note
noted_if is_there why = if is_there then NotAgain why ∷ [] else []

-- the notes of nodes whose text will not be read again as a package: an element is deeper than it may be, the text is longer, or stretches
-- that meet form `]]>`
abbrev pub again_notes : Nodes → List Note
again_notes nodes =
    noted_if (nat_lt depth (depth_of nodes)) obstacle.Depth
    ++ (noted_if (nat_lt package_bytes (length (text nodes))) obstacle.Bytes ++ noted_if (not (meet_well nodes)) obstacle.Meeting)

-- remarks with the notes of what keeps the text of nodes from being read again
abbrev pub noting_again : Nodes → Remarks → Remarks
noting_again nodes remarks = record remarks { notes = remarks.notes ++ again_notes nodes }

-- what is written, a package with these nodes, with the note of the marks among them and those of what keeps it from being read again
abbrev pub with_result_notes : Nodes → Writing → Writing
with_result_notes nodes writing = record writing { remarks = noting_again nodes (noting nodes writing.remarks) }
