-- The samples of 0 and of 8, by hand.
use Rattle.std.proofs.Common.{◌≡◌, ◌++◌, List, [], ◌∷◌, refl, map, length}
use Rattle.std.specs.Prelude.{codes}
use Rattle.std.specs.Fmt.{digits}
use Rattle.std.specs.List.{range_with_len}
use Rattle.redl_journal.specs.declared.entry.Entry.{Entry}
use Rattle.redl_join.specs.Books.{union}
use Rattle.redl_join.specs.Verdicts.{verdict_at}
use Rattle.redl_join.specs.declared.verdict.Verdict.{Verdict}
use Rattle.redl_join.specs.declared.verdict.Verdict.TheVariants.{Undecided, Accept, Reject, Disputed}
use Rattle.redl_sample.specs.Blocks.{block_text, template}
use Rattle.redl_sample.specs.Packages.{opening, closing, package_text, revisions}
use Rattle.redl_sample.specs.Journals.{entries_of}
use Rattle.redl_sample.specs.Summaries.{tally_of}

-- ---- packages

row_empty : package_text 0 ≡ opening ++ codes "<w:p/></w:body></w:document></pkg:xmlData></pkg:part></pkg:package>"
unfolding opening closing
row_empty = refl

row_empty_bytes : length (package_text 0) ≡ 425
unfolding opening closing
row_empty_bytes = refl

row_plain : block_text 0 ≡ codes "<w:p><w:r><w:t>plain 0</w:t></w:r></w:p>"
unfolding template digits
row_plain = refl

row_deletion : block_text 10 ≡ codes "<w:p><w:del w:id=\"10\" w:author=\"Bob\"><w:r><w:delText>old 10</w:delText></w:r></w:del></w:p>"
unfolding template digits
row_deletion = refl

row_move : block_text 7
    ≡ codes "<w:p><w:moveFromRangeStart w:id=\"7\" w:author=\"Cy\" w:name=\"m7\"/><w:moveFrom w:id=\"7\" w:author=\"Cy\"><w:r><w:t>move 7</w:t></w:r></w:moveFrom><w:moveFromRangeEnd w:id=\"7\"/></w:p><w:p><w:moveToRangeStart w:id=\"7\" w:author=\"Cy\" w:name=\"m7\"/><w:moveTo w:id=\"7\" w:author=\"Cy\"><w:r><w:t>move 7</w:t></w:r></w:moveTo><w:moveToRangeEnd w:id=\"7\"/></w:p>"
unfolding template digits
row_move = refl

-- ---- revisions

row_no_revisions : revisions 0 ≡ 0
row_no_revisions = refl

-- the samples of 1 to 8
row_revisions : map revisions (range_with_len 1 8) ≡ 0 ∷ 1 ∷ 2 ∷ 3 ∷ 5 ∷ 6 ∷ 8 ∷ 9 ∷ []
row_revisions = refl

row_many_revisions : revisions 20000 ≡ 22500
row_many_revisions = refl

-- ---- verdicts of the sample of 8

-- the entries of Ann, Bob and Cy, admitted in this order
abbrev book_8 : List Entry
book_8 = union (union (union [] (entries_of 0 9)) (entries_of 1 9)) (entries_of 2 9)

row_entries : length book_8 ≡ 18
row_entries = refl

abbrev verdicts_8 : List Verdict
verdicts_8 = map (verdict_at book_8) (range_with_len 1 9)

row_verdicts : verdicts_8 ≡ Disputed ∷ Accept ∷ Reject ∷ Disputed ∷ Undecided ∷ Reject ∷ Disputed ∷ Disputed ∷ Reject ∷ []
row_verdicts = refl

row_tally : tally_of verdicts_8 ≡ record { accepted = 1; rejected = 3; disputed = 4; undecided = 1 }
row_tally = refl
