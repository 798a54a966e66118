-- What a page shows, where its parts are the same.
use Rattle.std.proofs.Common.{◌≡◌, ◌∙◌, refl, ap, Bool, List, [], ◌∷◌, length, map, ℕ}
use Rattle.std.proofs.lemmas.List.{length-map}
use Rattle.redl_commands_shown.specs.Page.{Known, item_words, known_of, session_said}
use Rattle.redl_index.specs.declared.revision.Revision.{Revision}
use Rattle.redl_journal.specs.declared.entry.Entry.{Entry}
use Rattle.redl_page.specs.Page.{Heading, Shown}
use Rattle.redl_page.specs.declared.item.ItemWords.{ItemWords}
use Rattle.redl_session.specs.Sessions.{SessionState}
use Rattle.redl_tree.specs.Model.Nodes.{Nodes}

abbrev pub shown_with : Nodes → List Revision → List Bool → List ItemWords → List Entry → List ℕ → Heading → Shown
shown_with nodes revisions locked said book digest heading =
    record { nodes = nodes; revisions = revisions; locked = locked; said = said; book = book; digest = digest; heading = heading }

pub same_shown : (nodes other : Nodes) (revisions others : List Revision) (locked flags : List Bool) (said lines : List ItemWords) (book more : List Entry) (digest : List ℕ) (heading : Heading)
    → nodes ≡ other → revisions ≡ others → locked ≡ flags → said ≡ lines → book ≡ more
    → shown_with nodes revisions locked said book digest heading ≡ shown_with other others flags lines more digest heading
same_shown nodes other revisions others locked flags said lines book more digest heading of_nodes of_revisions of_locked of_said of_book = cc

pub session_said-length : (state : SessionState) → length (session_said state) ≡ length state.revisions
unfolding session_said
session_said-length state = length-map state.revisions (item_words (known_of state))

-- knowing the same of each revision, one says the same of them
pub items-same : (known other : Known) → known.clauses ≡ other.clauses → known.lines ≡ other.lines → known.edits ≡ other.edits → known.ids ≡ other.ids
    → ((v : ℕ) → known.place_on v ≡ other.place_on v) → (revisions : List Revision) → map (item_words known) revisions ≡ map (item_words other) revisions
items-same known other clauses lines edits ids places [] = refl
items-same known other clauses lines edits ids places (revision ∷ later) =
    let here : item_words known revision ≡ item_words other revision = rw (clauses, lines, edits, ids, places revision.number) refl in
    ap (λ (item : ItemWords). item ∷ map (item_words known) later) here
    ∙ ap (λ (items : List ItemWords). item_words other revision ∷ items) (items-same known other clauses lines edits ids places later)
