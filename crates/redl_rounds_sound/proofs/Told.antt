-- What a call tells of what it left, and that this is read again exactly where there was nothing to tell.
use Rattle.std.proofs.Common.{◌≡◌, ◌∙◌, refl, sym, ap, arith, ℕ, nat_lt, List, [], ◌++◌, length, append_assoc, Bool, true, false, not, Option, None, Some, Result, Ok}
use Rattle.std.specs.List.{flat_map}
use Rattle.std.proofs.lemmas.Bool.{ltb-false}
use Rattle.std.proofs.lemmas.Grind.{flat_map-append}
use Rattle.redl_commands.specs.Notes.{again_notes, locked_numbers, noted_if, noting, noting_again, noting_gone}
use Rattle.redl_commands.specs.Settle.{settled, settled_under, settling}
use Rattle.redl_commands.specs.Write.{resolved, written}
use Rattle.redl_commands.specs.Writing.{Writing, outcome_of}
use Rattle.redl_index.specs.Numbers.{numbered_package}
use Rattle.redl_inputs.proofs.StepLaws.{both_ok, same_ok, same_some}
use Rattle.redl_inputs.specs.Admission.{Admission, admission_with, no_admission, opened, opened_over}
use Rattle.redl_inputs.specs.Journals.{document_of, gathered}
use Rattle.redl_inputs.specs.Packages.{package_file, package_in}
use Rattle.redl_inputs.specs.Readers.{Reader, IsReader}
use Rattle.redl_inputs.specs.Steps.{◌>>=◌}
use Rattle.redl_io.specs.Limits.{depth as depth_limit, journal_bytes, package_bytes}
use Rattle.redl_io.specs.Shelf.{Files}
use Rattle.redl_kinds.specs.declared.lock.Lock.{Lock}
use Rattle.redl_lines.specs.Ends.{remark_lines}
use Rattle.redl_lines.specs.Failures.{Failure}
use Rattle.redl_lines.specs.Lines.{idle_line, note_line, refused_line}
use Rattle.redl_lines.specs.Remarks.{Remarks, no_remarks}
use Rattle.redl_lines.specs.declared.failure.Limit.TheVariants.{PackageBytes}
use Rattle.redl_lines.specs.declared.note.Obstacle.TheVariants as obstacle
use Rattle.redl_outcome.proofs.LeftLaws.{leaves_sound}
use Rattle.redl_outcome.specs.Brought.{Brought}
use Rattle.redl_outcome.specs.Left.{IsLeft, decided_package, left_of}
use Rattle.redl_outcome.specs.Outcome.{outcome, writing_of}
use Rattle.redl_outcome.specs.Plans.{plan}
use Rattle.redl_reread_sound.specs.Again.{again}
use Rattle.redl_reread_sound.specs.Together.{meet_well}
use Rattle.redl_rounds_sound.proofs.OneFile.{reads_file}
use Rattle.redl_rounds_sound.proofs.Second.{is-second, left-again}
use Rattle.redl_rounds_sound.proofs.TakenAgain.{takes-again, refuses-told}
use Rattle.redl_rounds_sound.specs.Second.{CanBeRead}
use Rattle.redl_rounds_sound.specs.Told.{IsTakenUnlessTold, TakenUnlessTold, TellsOf}
use Rattle.redl_session.specs.Sessions.{says}
use Rattle.redl_tree.specs.Decisions.Packages.{pass_package}
use Rattle.redl_tree.specs.Model.Nodes.{Nodes}
use Rattle.redl_tree.specs.Model.Shapes.{depth_of}
use Rattle.redl_tree.specs.Model.Text.{text}
use Rattle.redl_tree.specs.declared.kinds.Say.{Say}
use Rattle.redl_words.specs.Commands.{Command, settle, view_text, list, report, page, write, decide, resume, join, check, sample}

-- ---- the lines

lines-again : (nodes : Nodes) (r : Remarks) → remark_lines (noting_again nodes r) ≡ remark_lines r ++ flat_map note_line (again_notes nodes)
lines-again nodes r =
    let first = flat_map refused_line r.refused in
    let second = flat_map refused_line r.second in
    let idle = flat_map idle_line r.idle in
    let notes = flat_map note_line r.notes in
    let more = flat_map note_line (again_notes nodes) in
    ap (λ (z : List ℕ). first ++ (second ++ (idle ++ z))) (flat_map-append note_line r.notes (again_notes nodes))
    ∙ ap (λ (z : List ℕ). first ++ (second ++ z)) (sym (append_assoc idle notes more))
    ∙ ap (λ (z : List ℕ). first ++ z) (sym (append_assoc second (idle ++ notes) more))
    ∙ sym (append_assoc first (second ++ (idle ++ notes)) more)

-- a call that wrote this, with these notes at the end
tells : (reader : Reader) (files : Files) (brought : Brought) (words : List (List ℕ)) (command : Command) (writing : Writing) (nodes : Nodes) (r : Remarks)
    → reader.command words ≡ Some command → writing_of reader files brought (Some command) ≡ Ok writing → writing.remarks ≡ noting_again nodes r
    → TellsOf (outcome reader words files brought) nodes
tells reader files brought words command writing nodes r is made same = record {
  before = remark_lines r;
  lines = ap (λ (found : Option Command). (outcome_of (writing_of reader files brought found)).lines) is
      ∙ ap (λ (m : Result Writing Failure). (outcome_of m).lines) made ∙ ap remark_lines same ∙ lines-again nodes r;
}

tells_settled : (reader : Reader) (files : Files) (brought : Brought) (words : List (List ℕ)) (accept : Bool) (p name bytes : List ℕ) → p ≡ name
    → (l : IsLeft reader files (plan (settle accept p)) name bytes) → reader.command words ≡ Some (settle accept p) → TellsOf (outcome reader words files brought) (left_of l.says l.nodes)
tells_settled reader files brought words accept p name bytes same l is =
    let made : writing_of reader files brought (Some (settle accept p)) ≡ Ok (settled_under (settling accept) l.nodes) =
    ap (λ (made : Result (List ℕ) Failure). made >>= (λ whole. settled reader accept whole)) (ap (package_file files) same ∙ l.file)
    ∙ ap (λ (made : Result Nodes Failure). made >>= (λ nodes. let r : Result Writing Failure = Ok (settled_under (settling accept) nodes) in r)) l.original in
    tells reader files brought words (settle accept p) (settled_under (settling accept) l.nodes) (left_of l.says l.nodes) (noting (left_of l.says l.nodes) no_remarks) is made
    (ap (λ (s : List Say). noting_again (left_of s l.nodes) (noting (left_of s l.nodes) no_remarks)) (sym l.decided))

-- a session is over the package that was read
session_over : (reader : Reader) (files : Files) (locks : List Lock) (journals : List (List ℕ)) (whole : List ℕ) (nodes : Nodes) (admission : Admission)
    → package_in reader whole ≡ Ok nodes → opened reader files locks journals whole ≡ Ok admission → admission.state.nodes ≡ numbered_package nodes
session_over reader files locks journals whole nodes admission read is =
    let over : opened_over reader files locks journals whole nodes ≡ Ok admission =
    sym (ap (λ (made : Result Nodes Failure). made >>= (λ nodes. opened_over reader files locks journals whole nodes)) read) ∙ is in
    let entries = both_ok (gathered reader files (document_of whole nodes) journal_bytes journals) (λ entries. Ok (admission_with (no_admission whole nodes locks) entries)) admission over in
    ap (λ (a : Admission). a.state.nodes) (sym (same_ok entries.second))

tells_written : (reader : Reader) (files : Files) (brought : Brought) (words : List (List ℕ)) (locks : List Lock) (journals : List (List ℕ)) (p name bytes : List ℕ) → p ≡ name
    → (l : IsLeft reader files (plan (write p locks journals)) name bytes) → reader.command words ≡ Some (write p locks journals)
    → TellsOf (outcome reader words files brought) (left_of l.says l.nodes)
tells_written reader files brought words locks journals p name bytes same l is =
    let admission = l.decided.0 in
    let made : writing_of reader files brought (Some (write p locks journals)) ≡ Ok (resolved locks admission) =
    ap (λ (made : Result (List ℕ) Failure). made >>= (λ whole. written reader files locks journals whole)) (ap (package_file files) same ∙ l.file)
    ∙ ap (λ (made : Result Admission Failure). made >>= (λ a. let r : Result Writing Failure = Ok (resolved locks a) in r)) l.decided.1 in
    let numbers = locked_numbers locks admission.state.revisions in
    let nodes : pass_package (says admission.state) admission.state.nodes ≡ left_of l.says l.nodes =
    ap (pass_package (says admission.state)) (session_over reader files locks journals l.whole l.nodes admission l.original l.decided.1)
    ∙ ap (λ (s : List Say). left_of s l.nodes) (sym l.decided.2) in
    tells reader files brought words (write p locks journals) (resolved locks admission) (left_of l.says l.nodes)
    (noting (left_of l.says l.nodes) (noting_gone (left_of l.says l.nodes) numbers admission.remarks)) is made
    (ap (λ (n : Nodes). noting_again n (noting n (noting_gone n numbers admission.remarks))) nodes)

tells_left : (reader : Reader) (files : Files) (brought : Brought) (words : List (List ℕ)) (command : Command) (name bytes : List ℕ) → decided_package (plan command) ≡ Some name
    → (l : IsLeft reader files (plan command) name bytes) → reader.command words ≡ Some command → TellsOf (outcome reader words files brought) (left_of l.says l.nodes)
tells_left reader files brought words (settle accept p) name bytes named l is = tells_settled reader files brought words accept p name bytes (same_some named) l is
tells_left reader files brought words (write p locks journals) name bytes named l is = tells_written reader files brought words locks journals p name bytes (same_some named) l is
tells_left reader files brought words (list p format locks journals wanted) name bytes named l is = absurd (cc named)
tells_left reader files brought words (report p format by_kind locks journals) name bytes named l is = absurd (cc named)
tells_left reader files brought words (page p title rank pictures locks journals) name bytes named l is = absurd (cc named)
tells_left reader files brought words (decide p reviewer journals locks choices rank) name bytes named l is = absurd (cc named)
tells_left reader files brought words (resume p q firsts journals) name bytes named l is = absurd (cc named)
tells_left reader files brought words (join journals) name bytes named l is = absurd (cc named)
tells_left reader files brought words (view_text p view) name bytes named l is = absurd (cc named)
tells_left reader files brought words (check p) name bytes named l is = absurd (cc named)
tells_left reader files brought words (sample number) name bytes named l is = absurd (cc named)

-- ---- nothing to tell

none_noted : (a b c : Bool) → noted_if a obstacle.Depth ++ (noted_if b obstacle.Bytes ++ noted_if c obstacle.Meeting) ≡ [] → (a ≡ false) × (b ≡ false) × (c ≡ false)
none_noted true b c is = absurd (cc is)
none_noted false true c is = absurd (cc is)
none_noted false false true is = absurd (cc is)
none_noted false false false is = (refl, refl, refl)

is_so : (b : Bool) → not b ≡ false → b ≡ true
is_so true is = refl
is_so false is = absurd (cc is)

pub taken_unless_told : (reader : Reader) → IsReader reader → (files : Files) (brought : Brought) → TakenUnlessTold reader files brought
taken_unless_told reader is files brought words command p name is_command decides done held =
    let call = outcome reader words files brought in
    let l = leaves_sound reader words files brought command p is_command decides done in
    let nodes = left_of l.says l.nodes in
    record {
      left = l;
      told = tells_left reader files brought words command p call.bytes decides l is_command;
      second = λ none.
          let each = none_noted (nat_lt depth_limit (depth_of nodes)) (nat_lt package_bytes (length (text nodes))) (not (meet_well nodes)) none in
          let short = ltb-false package_bytes (length (text nodes)) each.1 in
          let can : CanBeRead nodes = record { meet = is_so (meet_well nodes) each.2; shallow = ltb-false depth_limit (depth_of nodes) each.0 } in
          is-second reader files brought name call.bytes (again nodes)
          (reads_file files name call.bytes package_bytes PackageBytes held (omega (arith, ap length l.written, short)))
          (left-again reader files (plan command) p call.bytes is l can);
      refused = refuses-told reader files (plan command) p name call.bytes is l held brought;
      taken = takes-again reader files (plan command) p name call.bytes is l held;
    }
