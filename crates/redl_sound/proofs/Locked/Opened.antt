-- The session that a call opens over a package leaves what its locks hold.
use Rattle.std.proofs.Common.{◌≡◌, ◌∙◌, refl, ap, sym, subst, ℕ, List, Option, Some, None, Ok}
use Rattle.redl_index.proofs.AgainLaws.{revisions-numbered}
use Rattle.redl_inputs.specs.Admission.{Admission, no_admission, admission_with, opened_over, opened}
use Rattle.redl_inputs.specs.Journals.{document_of, gathered}
use Rattle.redl_inputs.specs.Packages.{tree_in, shaped_unless, shaped, sound_unless, sound, package_in}
use Rattle.redl_inputs.specs.Readers.{Reader}
use Rattle.redl_inputs.specs.Steps.{◌>>=◌}
use Rattle.redl_inputs.proofs.StepLaws.{both_ok, same_ok}
use Rattle.redl_io.specs.Limits.{journal_bytes}
use Rattle.redl_io.specs.Shelf.{Files}
use Rattle.redl_journal.specs.declared.entry.Entry.{Entry}
use Rattle.redl_sound.specs.Held.{IsBegun, IsHeld}
use Rattle.redl_sound.proofs.Locked.Held.{held-kept, held-left}
use Rattle.redl_sound.proofs.Numbered.Package.{shape-numbered}
use Rattle.redl_opc.specs.Shape.{refusal}
use Rattle.redl_opc.specs.declared.error.OpcError.{OpcError}
use Rattle.redl_rules.specs.Attributes.{broken_rule}
use Rattle.redl_kinds.specs.declared.lock.Lock.{Lock}
use Rattle.redl_session.specs.Sessions.{SessionState, after, says}
use Rattle.redl_session.proofs.Admissions.{after-union}
use Rattle.redl_stamp.specs.Attribute.{attribute_value}
use Rattle.redl_tree.proofs.Revisions.NumberLaws.{numbered-indexed}
use Rattle.redl_tree.specs.Decisions.Fates.{fate_of, say_of}
use Rattle.redl_tree.specs.Model.Nodes.{Nodes}
use Rattle.redl_tree.specs.Model.Seen.{Seen}
use Rattle.redl_tree.specs.declared.kinds.Fate.TheVariants.{Leave}
use Rattle.redl_tree.specs.declared.kinds.Say.TheVariants.{Keep}

-- what is read as a package has the shape of one

shape-of : (o : Option OpcError) (tree nodes : Nodes) → refusal tree ≡ o → shaped_unless o tree ≡ Ok nodes → refusal nodes ≡ None
shape-of None tree nodes is e = ap refusal (sym (same_ok e)) ∙ is
shape-of (Some error) tree nodes is e = absurd (cc e)

-- the test for soundness gives the nodes back
pub sound-same : (o : Option ℕ) (tree nodes : Nodes) → sound_unless o tree ≡ Ok nodes → tree ≡ nodes
sound-same None tree nodes e = same_ok e
sound-same (Some rule) tree nodes e = absurd (cc e)

-- a package that was read has the shape of one
pub shape-read : (reader : Reader) (whole : List ℕ) (nodes : Nodes) → package_in reader whole ≡ Ok nodes → refusal nodes ≡ None
shape-read reader whole nodes is =
    let tree = both_ok (tree_in (reader.tree whole)) (λ tree. shaped tree >>= (λ package_. sound package_)) nodes is in
    let shape = both_ok (shaped tree.x) (λ package_. sound package_) nodes tree.second in
    ap refusal (sym (sound-same (broken_rule shape.x) shape.x nodes shape.second)) ∙ shape-of (refusal tree.x) tree.x shape.x refl shape.first

-- a session that a call opened: one that was begun, after some entries
pub record IsAfter (state : SessionState) : Type 0 where
  pub begun : SessionState
  pub is_begun : IsBegun begun
  pub entries : List Entry
  pub is_after : after begun entries ≡ state
  pub same_held : (element : Seen) → IsHeld state element → IsHeld begun element

-- what is held does not depend on the book
held-before : (state : SessionState) (book : List Entry) (element : Seen) → IsHeld (record state { book = book }) element → IsHeld state element
held-before state book element h = record { part = h.part; root = h.root; is_story = h.is_story; among = h.among; held = h.held }

opened-after : (reader : Reader) (files : Files) (locks : List Lock) (journals : List (List ℕ)) (whole : List ℕ) (admission : Admission)
    → opened reader files locks journals whole ≡ Ok admission → IsAfter admission.state
opened-after reader files locks journals whole admission is =
    let read = both_ok (package_in reader whole) (λ nodes. opened_over reader files locks journals whole nodes) admission is in
    let found = both_ok (gathered reader files (document_of whole read.x) journal_bytes journals) (λ entries. Ok (admission_with (no_admission whole read.x locks) entries)) admission read.second in
    let state = (no_admission whole read.x locks).state in
    let same : after state found.x ≡ admission.state = after-union state found.x ∙ ap (λ (a : Admission). a.state) (same_ok found.second) in
    subst IsAfter same (record {
      begun = state;
      is_begun = record {
        shape = shape-numbered read.x (shape-read reader whole read.x read.first);
        numbered = numbered-indexed attribute_value read.x;
        index = sym (revisions-numbered read.x);
        empty = refl;
      };
      entries = found.x;
      is_after = refl;
      same_held = λ element held. held-before state _ element (subst (λ s. IsHeld s element) (after-union state found.x) held);
    })

pub opened-kept : (reader : Reader) (files : Files) (locks : List Lock) (journals : List (List ℕ)) (whole : List ℕ) (admission : Admission) (element : Seen)
    → opened reader files locks journals whole ≡ Ok admission → IsHeld admission.state element → say_of (says admission.state) element.own.tag.rev ≡ Keep
opened-kept reader files locks journals whole admission element is held =
    let over = opened-after reader files locks journals whole admission is in
    ap (λ s. say_of (says s) element.own.tag.rev) (sym over.is_after) ∙ held-kept over.begun over.entries element over.is_begun (over.same_held element held)

-- a revision that a lock holds keeps its tags in a session that was opened with the lock
pub opened-left : (reader : Reader) (files : Files) (locks : List Lock) (journals : List (List ℕ)) (whole : List ℕ) (admission : Admission) (element : Seen)
    → opened reader files locks journals whole ≡ Ok admission → IsHeld admission.state element → fate_of (says admission.state) element.own.tag ≡ Leave
opened-left reader files locks journals whole admission element is held =
    let over = opened-after reader files locks journals whole admission is in
    ap (λ s. fate_of (says s) element.own.tag) (sym over.is_after) ∙ held-left over.begun over.entries element over.is_begun (over.same_held element held)
