-- `page P` with a title, a rank, journals and locks: a page on which a reviewer sees the revisions of the package and decides in a browser.
use Rattle.std.specs.Prelude.{ℕ, ◌-◌, Bool, List, [], Option, length, map, slice_get, is_some, unwrap_or, Result, Ok, if◌then◌else◌}
use Rattle.redl_clauses.specs.Clauses.{clause_at, clauses_of}
use Rattle.redl_edits.specs.Edits.{package_edits}
use Rattle.redl_excerpts.specs.Properties.{changed_lines}
use Rattle.redl_inputs.specs.Admission.{Admission, opened}
use Rattle.redl_inputs.specs.Readers.{Reader}
use Rattle.redl_inputs.specs.Steps.{◌>>=◌}
use Rattle.redl_commands.specs.Writing.{Writing}
use Rattle.redl_index.specs.declared.revision.Revision.{Revision}
use Rattle.redl_io.specs.Shelf.{Files}
use Rattle.redl_lines.specs.Failures.{Failure}
use Rattle.redl_page.specs.Page.{Heading, Shown, Skin, page_text}
use Rattle.redl_page.specs.declared.item.ItemWords.{ItemWords}
use Rattle.redl_places.specs.Places.{is_document, place_on}
use Rattle.redl_places.specs.Texts.{place_text}
use Rattle.redl_places.specs.declared.place.StoryPlace.{StoryPlace}
use Rattle.redl_remarks.specs.Ids.{remark_ids}
use Rattle.redl_kinds.specs.declared.lock.Lock.{Lock}
use Rattle.redl_session.specs.Bars.{bar_of}
use Rattle.redl_session.specs.Sessions.{SessionState}

-- entries on the revision are refused, since a lock holds it
abbrev pub is_locked : List Lock → Revision → Bool
is_locked locks revision = is_some (bar_of locks revision)

-- where a revision is, unless it is in the document
abbrev pub place_said : StoryPlace → List ℕ
place_said place = if is_document place then [] else place_text place

-- what is known of the revisions of a package: their clauses, their places, the lines on what they change, their edits, and the ids of
-- the comments on them
pub record Known : Type 0 where
  pub clauses : List (Option (List ℕ))
  pub place_on : ℕ → StoryPlace
  pub lines : List (List ℕ)
  pub edits : List ℕ
  pub ids : List (List ℕ)

-- what a page says of a revision
abbrev pub item_words : Known → Revision → ItemWords
item_words known revision = record {
  clause = unwrap_or (clause_at known.clauses (revision.number - 1)) [];
  place = place_said (known.place_on revision.number);
  changed = unwrap_or (slice_get known.lines (revision.number - 1)) [];
  edit = unwrap_or (slice_get known.edits (revision.number - 1)) 0;
  remarks = unwrap_or (slice_get known.ids (revision.number - 1)) [];
}

-- what is known of those of a session
abbrev pub known_of : SessionState → Known
known_of state = record {
  clauses = clauses_of state.nodes (length state.revisions);
  place_on = place_on state.nodes;
  lines = changed_lines state.nodes state.revisions;
  edits = package_edits state.nodes state.revisions;
  ids = remark_ids state.nodes (length state.revisions);
}

-- what a page says of each revision of a session
unfoldable pub session_said : SessionState → List ItemWords
session_said state = map (item_words (known_of state)) state.revisions

-- what the page of a session shows: its package and revisions, which of these are locked, what is said of each of them, the admitted
-- entries, the digest, and what the sender gives
abbrev pub shown_of : SessionState → List Bool → List ℕ → Heading → Shown
shown_of state locked digest heading =
    record {
      nodes = state.nodes;
      revisions = state.revisions;
      locked = locked;
      said = session_said state;
      book = state.book;
      digest = digest;
      heading = heading;
    }

-- the same under these locks
abbrev pub shown_in : Heading → List Lock → Admission → Shown
shown_in heading locks admission =
    shown_of admission.state (map (is_locked locks) admission.state.revisions) admission.document.digest heading

-- the page of a session, with this skin and what the sender gives
abbrev pub page_of : Skin → Heading → List Lock → Admission → Writing
page_of skin heading locks admission = record { bytes = page_text skin (shown_in heading locks admission); remarks = admission.remarks }

-- what is written of the package with this text
abbrev pub paged : Reader → Files → Skin → Heading → List Lock → List (List ℕ) → List ℕ → Result Writing Failure
paged reader files skin heading locks journals whole = do
  admission ← opened reader files locks journals whole
  Ok (page_of skin heading locks admission)
