-- The invariant of a session with an editor, after entries.
use Rattle.std.proofs.Common.{◌≡◌, ◌∙◌, refl, sym, ap, subst, ℕ, zero, suc, ◌-◌, ◌<◌, ◌≤◌, true, List, [], None, replicate, set, length, arith}
use Rattle.std.specs.Prelude.{not}
use Rattle.std.proofs.lemmas.Bool.{not-true}
use Rattle.redl_editor.proofs.CountLaws.{none-counted}
use Rattle.redl_editor.specs.Changes.{is_changed}
use Rattle.redl_editor.specs.Costs.{AreCounted, parts_cost}
use Rattle.redl_editor.specs.Documents.{Document}
use Rattle.redl_index.specs.Numbers.{numbered_package}
use Rattle.redl_index.specs.declared.revision.Revision.{Revision}
use Rattle.redl_join.proofs.Lists.{sorted_insert}
use Rattle.redl_join.proofs.Unions.{book-none, book-union, without-with}
use Rattle.redl_join.specs.Books.{has_entry, union, with_entry, without_entry}
use Rattle.redl_join.specs.Verdicts.{verdict_at}
use Rattle.redl_journal.proofs.EntryOrder.{entry_order-total}
use Rattle.redl_journal.specs.declared.entry.Entry.{Entry}
use Rattle.redl_live_session.specs.Consistency.{IsConsistent}
use Rattle.redl_live_session.specs.Costs.{IsCounted, entry_cost}
use Rattle.redl_rules.specs.Attributes.{broken_rule}
use Rattle.redl_kinds.specs.declared.lock.Lock.{Lock}
use Rattle.redl_session.proofs.SaysLaws.{says_of-none, says_of-with}
use Rattle.redl_session.specs.Refusals.{admitted, cause_of}
use Rattle.redl_session.specs.Says.{say_of_verdict, says_of}
use Rattle.redl_session.specs.Sessions.{SessionState, after_entry, says}
use Rattle.redl_tree.specs.Decisions.Packages.{stories}
use Rattle.redl_tree.specs.Leaves.Settings.{set_say}
use Rattle.redl_tree.specs.Model.Nodes.{Nodes}
use Rattle.redl_tree.specs.declared.kinds.Say.{Say}
use Rattle.redl_tree.specs.declared.kinds.Say.TheVariants.{Keep}

-- what contracts see of a session with this editor
abbrev pub state_of : Document → List Revision → List Lock → List Entry → SessionState
state_of document revisions locks book = record { nodes = document.nodes; revisions = revisions; locks = locks; book = book }

-- an editor in which nothing is decided
pub live-begun : (editor : Document) (pkg : Nodes) (revisions : List Revision) (book : List Entry) (count : ℕ)
    → editor ≡ record { nodes = pkg; says = replicate count Keep } → count ≡ length revisions → book ≡ []
    → numbered_package pkg ≡ pkg → broken_rule pkg ≡ None → IsConsistent editor.nodes revisions book editor.says
live-begun editor pkg revisions book count is many none numbered sound =
    subst (λ (d : Document). IsConsistent d.nodes revisions book d.says) (sym is)
    (record {
      session = record { numbered = numbered; sound = sound; ordered = rw none book-none };
      decided = ap (λ (n : ℕ). replicate n Keep) many ∙ says_of-none (length revisions) ∙ ap (λ (b : List Entry). says_of b (length revisions)) (sym none);
    })

-- numbers begin with 1
set-is : (said : List Say) (rev : ℕ) (say : Say) → 0 < rev → set said (rev - 1) say ≡ set_say said rev say
set-is said zero say some = absurd (omega (arith, some))
set-is said (suc n) say some = let at : suc n - 1 ≡ n = omega arith in ap (λ (k : ℕ). set said k say) at

-- a new entry, whose revision got the say of its verdict
consistent-with : (nodes : Nodes) (revisions : List Revision) (book new : List Entry) (says : List Say) (entry : Entry) (say : Say)
    → IsConsistent nodes revisions book says → 0 < entry.rev → entry.rev ≤ length revisions
    → new ≡ with_entry book entry → say ≡ say_of_verdict (verdict_at new entry.rev)
    → IsConsistent nodes revisions new (set says (entry.rev - 1) say)
consistent-with nodes revisions book new says entry say kept some within is said =
    let place : ℕ = entry.rev - 1 in
    let count : ℕ = length revisions in
    record {
      session = record {
        numbered = kept.session.numbered;
        sound = kept.session.sound;
        ordered = rw is (sorted_insert entry_order-total book entry kept.session.ordered);
      };
      decided = ap (λ (old : List Say). set old place say) kept.decided
          ∙ ap (λ (one : Say). set (says_of book count) place one) (said ∙ ap (λ (b : List Entry). say_of_verdict (verdict_at b entry.rev)) is)
          ∙ says_of-with book entry count kept.session.ordered some within
          ∙ ap (λ (b : List Entry). says_of b count) (sym is);
    }

-- the same in the document of the editor
pub live-with : (old new : Document) (revisions : List Revision) (book later : List Entry) (entry : Entry) (say : Say)
    → IsConsistent old.nodes revisions book old.says → 0 < entry.rev → entry.rev ≤ length revisions
    → later ≡ with_entry book entry → say ≡ say_of_verdict (verdict_at later entry.rev)
    → new ≡ record { nodes = old.nodes; says = set_say old.says entry.rev say }
    → IsConsistent new.nodes revisions later new.says
live-with old new revisions book later entry say kept some within is said made =
    subst (λ (d : Document). IsConsistent d.nodes revisions later d.says) (sym made)
    (subst (λ (s : List Say). IsConsistent old.nodes revisions later s) (set-is old.says entry.rev say some)
    (consistent-with old.nodes revisions book later old.says entry say kept some within is said))

-- its says are those of the book that has the entry
says-with : (old : Document) (revisions : List Revision) (book later : List Entry) (entry : Entry) (say : Say)
    → IsConsistent old.nodes revisions book old.says → 0 < entry.rev → entry.rev ≤ length revisions
    → later ≡ with_entry book entry → say ≡ say_of_verdict (verdict_at later entry.rev) → set_say old.says entry.rev say ≡ says_of later (length revisions)
says-with old revisions book later entry say kept some within is said =
    sym (set-is old.says entry.rev say some) ∙ (consistent-with old.nodes revisions book later old.says entry say kept some within is said).decided

-- what setting the say of its revision may cost
pub live-cost : (old : Document) (revisions : List Revision) (locks : List Lock) (book later : List Entry) (entry : Entry) (say : Say)
    → IsConsistent old.nodes revisions book old.says → 0 < entry.rev → entry.rev ≤ length revisions
    → later ≡ with_entry book entry → say ≡ say_of_verdict (verdict_at later entry.rev) → cause_of revisions locks entry ≡ None
    → parts_cost (is_changed old.says (set_say old.says entry.rev say)) (stories old.nodes) ≡ entry_cost (state_of old revisions locks book) entry
live-cost old revisions locks book later entry say kept some within is said free =
    let state = state_of old revisions locks book in
    let cost : List Say → List Say → ℕ = λ before after. parts_cost (is_changed before after) (stories old.nodes) in
    let taken : after_entry state entry ≡ record state { book = with_entry book entry } = rw free refl in
    ap (λ (s : List Say). cost s (set_say old.says entry.rev say)) kept.decided
    ∙ ap (cost (says state)) (says-with old revisions book later entry say kept some within is said ∙ ap (λ (b : List Entry). says_of b (length revisions)) is)
    ∙ ap (λ (s : SessionState). cost (says state) (says s)) (sym taken)

-- what was counted for it
pub live-counted : (old new : Document) (revisions : List Revision) (locks : List Lock) (book later : List Entry) (before after : ℕ)
    → IsConsistent old.nodes revisions book old.says → IsConsistent new.nodes revisions later new.says
    → AreCounted (is_changed old.says new.says) new.says before after (stories old.nodes)
    → IsCounted (state_of old revisions locks book) (state_of new revisions locks later) before after
live-counted old new revisions locks book later before after kept now counted =
    subst (λ (s : List Say). AreCounted (is_changed s (says_of later (length revisions))) (says_of later (length revisions)) before after (stories old.nodes)) kept.decided
    (subst (λ (s : List Say). AreCounted (is_changed old.says s) s before after (stories old.nodes)) now.decided counted)

-- nothing has to be counted where nothing changes
pub same-counted : (before after : ℕ) (old new : SessionState) → new ≡ old → IsCounted old new before after
same-counted before after old new same =
    subst (λ (s : SessionState). IsCounted old s before after) (sym same) (none-counted (says old) before after (stories old.nodes))

-- an entry that was new, and was removed again
pub book-back : (book added removed : List Entry) (entry : Entry) → added ≡ with_entry book entry → true ≡ not (has_entry book entry)
    → removed ≡ without_entry added entry → removed ≡ book
book-back book added removed entry is new gone =
    gone ∙ ap (λ (b : List Entry). without_entry b entry) is ∙ without-with book entry (not-true (has_entry book entry) (sym new))

-- another book, whose verdicts have been set
pub live-turned : (old new : Document) (revisions : List Revision) (locks : List Lock) (book later entries : List Entry)
    → IsConsistent old.nodes revisions book old.says → later ≡ union book (admitted revisions locks entries)
    → new.nodes ≡ old.nodes → new.says ≡ says_of later (length revisions)
    → IsConsistent new.nodes revisions later new.says
live-turned old new revisions locks book later entries kept is nodes said = record {
  session = record {
    numbered = rw nodes kept.session.numbered;
    sound = rw nodes kept.session.sound;
    ordered = rw is (book-union book (admitted revisions locks entries) kept.session.ordered);
  };
  decided = said;
}
