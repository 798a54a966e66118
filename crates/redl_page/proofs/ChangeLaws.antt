-- The list of changes: what is written of it, and that each revision has an item.
use Prim.Native.String.{String}
use Rattle.std.proofs.Common.{◌≡◌, ℕ, ◌+◌, ◌<◌, ◌≤◌, List, [], ◌∷◌, ◌++◌, length, drop, get_or, Bool, true, false, ◌&&◌, eqb, eq-eqb, refl, sym, ap, ◌∙◌, append_assoc, append-nil, arith, codes, if◌then◌else◌}
use Rattle.std.specs.Prelude.{◌==◌, decimal}
use Rattle.std.specs.List.{flat_map, AllByRecursion}
use Rattle.std.proofs.lemmas.List.{drop_more, drop_all}
use Rattle.std.proofs.lemmas.Bool.{or_left, and_from}
use Rattle.redl_kinds.specs.KindNames.{kind_name}
use Rattle.redl_index.specs.declared.revision.Revision.{Revision}
use Rattle.redl_journal.specs.declared.entry.Entry.{Entry}
use Rattle.redl_journal.specs.declared.entry.Word.{Word}
use Rattle.redl_join.specs.LastWords.{last_words}
use Rattle.redl_join.specs.Verdicts.{verdict_at}
use Rattle.redl_join.specs.declared.verdict.Verdict.{Verdict}
use Rattle.redl_formats.specs.Dates.{date_text}
use Rattle.redl_page.specs.Changes.{opens_item, has_item, change, change_head, change_links, change_state, changes, item_words, rank_words, remarks_attribute, saying, saying_end, saying_start, verdict_before, word_after, word_before, words_in, words_text, locked_before}
use Rattle.redl_page.specs.declared.item.ItemWords.{ItemWords}
use Rattle.redl_html.specs.Escaping.{escaped}
use Rattle.redl_html.specs.Pieces.{HtmlPiece, outside, own, pieces_text}
use Rattle.redl_html.proofs.NumberLaws.{has-left, has-right}
use Rattle.redl_html.proofs.PieceLaws.{pieces_text-append}

-- ---- what is written

pub change-text : (revision : Revision) (verdict : Verdict) (locked : Bool) (said : ItemWords) (words : List Entry) → pieces_text (change revision verdict locked said words)
    ≡ pieces_text (change_head revision)
    ++ (pieces_text (change_links said) ++ (pieces_text (change_state verdict locked) ++ (pieces_text (item_words said) ++ (pieces_text (flat_map saying words) ++ codes "</li>\n"))))
change-text revision verdict locked said words =
    let sayings : List HtmlPiece = flat_map saying words ++ (own "</li>\n" ∷ []) in
    pieces_text-append (change_head revision) (change_links said ++ (change_state verdict locked ++ (item_words said ++ sayings)))
    ∙ ap (λ l. pieces_text (change_head revision) ++ l) (
    pieces_text-append (change_links said) (change_state verdict locked ++ (item_words said ++ sayings))
    ∙ ap (λ l. pieces_text (change_links said) ++ l) (
    pieces_text-append (change_state verdict locked) (item_words said ++ sayings)
    ∙ ap (λ l. pieces_text (change_state verdict locked) ++ l) (
    pieces_text-append (item_words said) sayings
    ∙ ap (λ l. pieces_text (item_words said) ++ l) (pieces_text-append (flat_map saying words) (own "</li>\n" ∷ []))
    )))

pub links-text : (said : ItemWords) → pieces_text (change_links said) ≡ (codes "\" data-edit=\"" ++ (decimal said.edit ++ [])) ++ pieces_text (remarks_attribute said.remarks)
links-text said =
    ap (λ l. codes "\" data-edit=\"" ++ (l ++ pieces_text (remarks_attribute said.remarks))) (sym (append-nil (decimal said.edit)))
    ∙ sym (append_assoc (codes "\" data-edit=\"") (decimal said.edit ++ []) (pieces_text (remarks_attribute said.remarks)))

pub remarks-text : (ids : List ℕ) → (length ids == 0) ≡ false → pieces_text (remarks_attribute ids) ≡ codes "\" data-remarks=\"" ++ escaped ids
remarks-text ids some =
    ap (λ (b : Bool). pieces_text (if b then [] else own "\" data-remarks=\"" ∷ outside ids ∷ [])) some
    ∙ ap (λ l. codes "\" data-remarks=\"" ++ l) (append-nil (escaped ids))

words_in-text : (before : String) (text : List ℕ) → pieces_text (words_in before text) ≡ words_text (codes before) text
words_in-text before text = by (length text == 0)
  where
    by : (none : Bool) → pieces_text (if none then [] else own before ∷ outside text ∷ own "</bdi></p>" ∷ []) ≡ (if none then [] else (codes before ++ escaped text) ++ codes "</bdi></p>")
    by true = refl
    by false = ap (λ (l : List ℕ). codes before ++ (escaped text ++ l)) (append-nil (codes "</bdi></p>")) ∙ sym (append_assoc (codes before) (escaped text) (codes "</bdi></p>"))

pub item_words-text : (said : ItemWords) → pieces_text (item_words said)
    ≡ words_text (codes "<p class=\"clause\"><bdi>") said.clause
    ++ (words_text (codes "<p class=\"place\"><bdi>") said.place ++ words_text (codes "<p class=\"changed\"><bdi>") said.changed)
item_words-text said =
    let clause = words_in "<p class=\"clause\"><bdi>" said.clause in
    let place = words_in "<p class=\"place\"><bdi>" said.place in
    let changed = words_in "<p class=\"changed\"><bdi>" said.changed in
    pieces_text-append clause (place ++ changed)
    ∙ ap (λ (l : List ℕ). l ++ pieces_text (place ++ changed)) (words_in-text "<p class=\"clause\"><bdi>" said.clause)
    ∙ ap (λ (l : List ℕ). words_text (codes "<p class=\"clause\"><bdi>") said.clause ++ l) (pieces_text-append place changed
    ∙ ap (λ (l : List ℕ). l ++ pieces_text changed) (words_in-text "<p class=\"place\"><bdi>" said.place)
    ∙ ap (λ (l : List ℕ). words_text (codes "<p class=\"place\"><bdi>") said.place ++ l) (words_in-text "<p class=\"changed\"><bdi>" said.changed))

head_parts : (a n b k c m d t : List ℕ) → a ++ (n ++ (b ++ (k ++ (c ++ (m ++ (d ++ (t ++ []))))))) ≡ ((a ++ n) ++ (b ++ k)) ++ ((c ++ m) ++ (d ++ t))
head_parts a n b k c m d t = simp (append_assoc, append-nil)

pub head-text : (revision : Revision) → pieces_text (change_head revision)
    ≡ ((codes "<li id=\"revision-" ++ decimal revision.number) ++ (codes "\" data-kind=\"" ++ escaped (kind_name revision.kind)))
    ++ ((codes "\" data-author=\"" ++ escaped revision.author) ++ (codes "\" data-date=\"" ++ escaped (date_text revision.seconds)))
head-text revision =
    head_parts (codes "<li id=\"revision-") (decimal revision.number) (codes "\" data-kind=\"") (escaped (kind_name revision.kind)) (codes "\" data-author=\"")
    (escaped revision.author) (codes "\" data-date=\"") (escaped (date_text revision.seconds))

pub state-text : (verdict : Verdict) (locked : Bool) → pieces_text (change_state verdict locked) ≡ codes (verdict_before verdict) ++ codes (locked_before locked)
state-text verdict locked = ap (λ l. codes (verdict_before verdict) ++ l) (append-nil (codes (locked_before locked)))

pub saying-text : (entry : Entry) → pieces_text (saying entry)
    ≡ (codes (word_before entry.word) ++ (decimal entry.rank ++ (codes "\"><bdi>" ++ []))) ++ (escaped entry.reviewer ++ pieces_text (saying_end entry.word entry.rank))
saying-text entry =
    pieces_text-append (saying_start entry) (saying_end entry.word entry.rank)
    ∙ saying_parts (codes (word_before entry.word)) (decimal entry.rank) (codes "\"><bdi>") (escaped entry.reviewer) (pieces_text (saying_end entry.word entry.rank)) where
      saying_parts : (before rank name reviewer end : List ℕ) → (before ++ (rank ++ (name ++ (reviewer ++ [])))) ++ end ≡ (before ++ (rank ++ (name ++ []))) ++ (reviewer ++ end)
      saying_parts before rank name reviewer end = simp (append_assoc, append-nil)

pub rank_words-text : (rank : ℕ) → (rank == 0) ≡ false → pieces_text (rank_words rank) ≡ codes " with rank " ++ (decimal rank ++ [])
rank_words-text rank e = rw e refl

pub saying_end-text : (word : Word) (rank : ℕ) → pieces_text (saying_end word rank) ≡ codes (word_after word) ++ (pieces_text (rank_words rank) ++ codes "</p>")
saying_end-text word rank = ap (λ l. codes (word_after word) ++ l) (pieces_text-append (rank_words rank) (own "</p>" ∷ []))

pub sayings-more : (entry : Entry) (entries : List Entry) → pieces_text (flat_map saying (entry ∷ entries)) ≡ pieces_text (saying entry) ++ pieces_text (flat_map saying entries)
sayings-more entry entries = pieces_text-append (saying entry) (flat_map saying entries)

-- the revisions from this place on
pub changes-here : (book : List Entry) (revisions : List Revision) (locked : List Bool) (said : List ItemWords) (place : ℕ) (revision : Revision) (lock other : Bool) (words : ItemWords)
    → place < length revisions → place < length locked → place < length said →
    revision ≡ get_or revisions place revision → lock ≡ get_or locked place other → words ≡ get_or said place words →
    pieces_text (changes book (drop place revisions) (drop place locked) (drop place said))
    ≡ pieces_text (change revision (verdict_at book revision.number) lock words (last_words book revision.number))
    ++ pieces_text (changes book (drop (place + 1) revisions) (drop (place + 1) locked) (drop (place + 1) said))
changes-here book revisions locked said place revision lock other words within also too r l w =
    ap (λ rs. pieces_text (changes book rs (drop place locked) (drop place said))) (drop_more revisions place revision within ∙ ap (λ x. x ∷ drop (place + 1) revisions) (sym r))
    ∙ ap (λ ls. pieces_text (changes book (revision ∷ drop (place + 1) revisions) ls (drop place said))) (drop_more locked place other also ∙ ap (λ x. x ∷ drop (place + 1) locked) (sym l))
    ∙ ap (λ ws. pieces_text (changes book (revision ∷ drop (place + 1) revisions) (lock ∷ drop (place + 1) locked) ws)) (drop_more said place words too ∙ ap (λ x. x ∷ drop (place + 1) said) (sym w))
    ∙ pieces_text-append (change revision (verdict_at book revision.number) lock words (last_words book revision.number)) (changes book (drop (place + 1) revisions) (drop (place + 1) locked) (drop (place + 1) said))

pub changes-end : (book : List Entry) (revisions : List Revision) (locked : List Bool) (said : List ItemWords) (place : ℕ) → length revisions ≤ place
    → pieces_text (changes book (drop place revisions) (drop place locked) (drop place said)) ≡ []
changes-end book revisions locked said place past = ap (λ rs. pieces_text (changes book rs (drop place locked) (drop place said))) (drop_all place revisions past)

-- ---- items

change-has : (revision : Revision) (verdict : Verdict) (locked : Bool) (said : ItemWords) (words : List Entry) → has_item revision.number (change revision verdict locked said words) ≡ true
change-has revision verdict locked said words =
    or_left (opens_item (own "<li id=\"revision-") && eqb revision.number revision.number) _ (and_from (opens_item (own "<li id=\"revision-")) (eqb revision.number revision.number) refl (eq-eqb revision.number revision.number refl))

all-map : (P Q : Revision → Type 0) → ((x : Revision) → P x → Q x) → (xs : List Revision) → AllByRecursion P xs → AllByRecursion Q xs
all-map P Q f [] h = tt
all-map P Q f (x ∷ xs) h = (f x h.0, all-map P Q f xs h.1)

-- each revision has an item
pub changes-have : (book : List Entry) (revisions : List Revision) (locked : List Bool) (said : List ItemWords) → length locked ≡ length revisions → length said ≡ length revisions →
    AllByRecursion (λ revision. has_item revision.number (changes book revisions locked said) ≡ true) revisions
changes-have book [] locked said e f = tt
changes-have book (revision ∷ later) [] said e f = absurd (omega (arith, e))
changes-have book (revision ∷ later) (lock ∷ locked) [] e f = absurd (omega (arith, f))
changes-have book (revision ∷ later) (lock ∷ locked) (words ∷ said) e f =
    let own_item = change revision (verdict_at book revision.number) lock words (last_words book revision.number) in (
      has-left opens_item revision.number own_item (changes book later locked said) (change-has revision (verdict_at book revision.number) lock words (last_words book revision.number)),
      all-map (λ r. has_item r.number (changes book later locked said) ≡ true) (λ r. has_item r.number (own_item ++ changes book later locked said) ≡ true)
          (λ r h. has-right opens_item r.number own_item (changes book later locked said) h) later (changes-have book later locked said (omega (arith, e)) (omega (arith, f))),
    )
