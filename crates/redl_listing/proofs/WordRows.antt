-- Rows by hand, as lines of the format `words`.
use Rattle.std.proofs.Common.{◌≡◌, false, ℕ, List, [], ◌∷◌, ◌++◌, None, Some, codes, refl}
use Rattle.std.specs.Fmt.{digits}
use Rattle.redl_changed.specs.Changed.{nothing_changed}
use Rattle.redl_tree.specs.declared.kinds.Trace.TheVariants.{Del}
use Rattle.redl_tree.specs.declared.kinds.Prop.TheVariants as prop
use Rattle.redl_kinds.specs.declared.rev_kind.RevKind.TheVariants.{Content, Change}
use Rattle.redl_join.specs.declared.verdict.Verdict.TheVariants.{Accept, Disputed}
use Rattle.redl_journal.specs.declared.entry.Word.TheVariants as word
use Rattle.redl_places.specs.declared.place.StoryPlace.TheVariants.{Document, Footnote}
use Rattle.redl_places.specs.declared.sign.NoteSign.TheVariants.{Count}
use Rattle.redl_said.specs.Phrases.{begun, heard_byte, paused}
use Rattle.redl_listing.specs.declared.row.Row.{Row}
use Rattle.redl_formats.specs.Fields.{newline}
use Rattle.redl_terminal.specs.Masks.{hidden_length}
use Rattle.redl_listing.specs.Words.{dots, in_paragraph, numbered_columns, quoted, words_columns, words_row}

-- a disputed deletion in a footnote, with two comments: both neighbours are cut, and who said what comes last
deletion : Row
deletion = record {
  number = 32;
  kind = Content Del;
  verdict = Disputed;
  author = codes "Bob Hay";
  seconds = None;
  part = codes "/word/document.xml";
  members = 1;
  detail = record {
    words = codes "thirty";
    before = codes "The price is due within ";
    after = codes "fourteen days of delivery. The Buyer pay";
    id = None;
    changed = nothing_changed;
    clause = Some (codes "4.2(a)");
    edit = 31;
    hidden = false;
    place = Footnote (Some (Count 3));
    says = record { reviewer = codes "Ann Gray"; word = word.Accept } ∷ record { reviewer = codes "Bob Hay"; word = word.Reject } ∷ [];
    remarks = record { first = []; count = 2 };
  };
}

row_disputed : words_row deletion
    ≡ codes "   32 del          disputed Bob Hay       4.2(a) " ++ dots ++ codes "due within [-thirty-]fourteen d" ++ dots ++ codes "  (2 comments)  footnote 3  Ann Gray: accept  Bob Hay: reject" ++ newline
unfolding deletion words_row words_columns numbered_columns quoted in_paragraph hidden_length digits heard_byte paused begun
row_disputed = refl

-- an arrow (U+2192) and a space
arrow : List ℕ
arrow = 226 ∷ 134 ∷ 146 ∷ 32 ∷ []

-- an accepted change of a paragraph by an author with a long name, with one comment, and words that are cut
change : Row
change = record {
  number = 7;
  kind = Change prop.Para;
  verdict = Accept;
  author = codes "Dana Fox & Company";
  seconds = None;
  part = codes "/word/document.xml";
  members = 1;
  detail = record { words = codes "The Seller delivers the goods to the store"; before = []; after = []; id = None; changed = record { changes = []; more = Some 0; line = codes "alignment: not set " ++ (arrow ++ codes "justified") }; clause = None; edit = 7; hidden = false; place = Document; says = []; remarks = record { first = []; count = 1 } };
}

row_change : words_row change ≡ codes "    7 para-props   accept   Dana Fox & C" ++ dots ++ codes " {=alignment: not set " ++ arrow ++ codes "justified=}The Seller delivers the goods " ++ dots ++ codes "  (1 comment)" ++ newline
unfolding change arrow words_row words_columns numbered_columns quoted in_paragraph hidden_length digits heard_byte paused begun
row_change = refl
