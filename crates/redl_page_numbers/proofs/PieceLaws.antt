-- What is written of the lists.
use Prim.Native.String.{String}
use Rattle.std.proofs.Common.{◌≡◌, ◌∙◌, ◌+◌, ◌<◌, ◌≤◌, ℕ, List, [], ◌∷◌, ◌++◌, Option, Some, None, true, false, refl, ap, sym, drop, length, get_or, codes, append_assoc, append-nil, if◌then◌else◌}
use Rattle.std.specs.Prelude.{◌==◌, decimal}
use Rattle.std.specs.List.{flat_map}
use Rattle.std.proofs.lemmas.List.{drop_more, drop_all}
use Rattle.redl_numerals.specs.declared.number.Number.{Number}
use Rattle.redl_numerals.specs.declared.number.Number.TheVariants.{Plus, Minus}
use Rattle.redl_html.specs.Escaping.{escaped}
use Rattle.redl_html.specs.Pieces.{HtmlPiece, own, outside, pieces_text}
use Rattle.redl_html.proofs.PieceLaws.{pieces_text-append}
use Rattle.redl_page_numbers.specs.Package.{PageNumbers}
use Rattle.redl_page_numbers.specs.Pieces.{attribute, attribute_if_any, format_pieces, level_end, level_head, level_list, level_numbers, level_pieces, lists_of, row_end, row_head, row_pieces, signed, signed_text, sort_list, story_list, story_start, text_if_any}
use Rattle.redl_page_numbers.specs.declared.row.LevelRow.{LevelRow}
use Rattle.redl_page_numbers.specs.declared.row.Row.{Row}

-- ---- in turn

pub in_turn : {A : Type 0} (pieces : A → List HtmlPiece) (xs : List A) (i : ℕ) (x : A) → i < length xs → x ≡ get_or xs i x
    → pieces_text (flat_map pieces (drop i xs)) ≡ pieces_text (pieces x) ++ pieces_text (flat_map pieces (drop (i + 1) xs))
in_turn pieces xs i x within here =
    ap (λ ys. pieces_text (flat_map pieces ys)) (drop_more xs i x within ∙ ap (λ y. y ∷ drop (i + 1) xs) (sym here))
    ∙ pieces_text-append (pieces x) (flat_map pieces (drop (i + 1) xs))

pub at_end : {A : Type 0} (pieces : A → List HtmlPiece) (xs : List A) (i : ℕ) → length xs ≤ i → pieces_text (flat_map pieces (drop i xs)) ≡ []
at_end pieces xs i past = ap (λ ys. pieces_text (flat_map pieces ys)) (drop_all i xs past)

-- ---- paragraphs

pub list-text : (name : List ℕ) (rows : List Row) → (length rows == 0) ≡ false
    → pieces_text (story_list name rows) ≡ pieces_text (story_start name) ++ (pieces_text (flat_map row_pieces rows) ++ codes "</ol>\n")
list-text name rows some =
    ap (λ none. pieces_text (if none then [] else story_start name ++ (flat_map row_pieces rows ++ (own "</ol>\n" ∷ [])))) some
    ∙ pieces_text-append (story_start name) (flat_map row_pieces rows ++ (own "</ol>\n" ∷ []))
    ∙ ap (λ l. pieces_text (story_start name) ++ l) (pieces_text-append (flat_map row_pieces rows) (own "</ol>\n" ∷ []))

pub row-text : (row : Row) → pieces_text (row_pieces row) ≡ pieces_text (row_head row) ++ (escaped row.text ++ codes "</li>\n")
row-text row = pieces_text-append (row_head row) (outside row.text ∷ own "</li>\n" ∷ [])

head_parts : (a p b n c l e : List ℕ) → a ++ (p ++ (b ++ (n ++ (c ++ (l ++ (e ++ [])))))) ≡ (a ++ p) ++ ((b ++ n) ++ ((c ++ l) ++ e))
head_parts a p b n c l e = simp (append_assoc, append-nil)

pub head-text : (row : Row) → pieces_text (row_head row)
    ≡ (codes "<li data-paragraph=\"" ++ decimal row.paragraph) ++ ((codes "\" data-num=\"" ++ decimal row.num)
    ++ ((codes "\" data-level=\"" ++ decimal row.level) ++ codes (row_end row.ends_section)))
head-text row =
    head_parts (codes "<li data-paragraph=\"") (decimal row.paragraph) (codes "\" data-num=\"") (decimal row.num) (codes "\" data-level=\"") (decimal row.level)
    (codes (row_end row.ends_section))

-- ---- levels

pub levels-text : (rows : List LevelRow) → (length rows == 0) ≡ false
    → pieces_text (level_list rows) ≡ codes "<ol class=\"levels\" hidden>\n" ++ (pieces_text (flat_map level_pieces rows) ++ codes "</ol>\n")
levels-text rows some =
    ap (λ none. pieces_text (if none then [] else own "<ol class=\"levels\" hidden>\n" ∷ (flat_map level_pieces rows ++ (own "</ol>\n" ∷ [])))) some
    ∙ ap (λ l. codes "<ol class=\"levels\" hidden>\n" ++ l) (pieces_text-append (flat_map level_pieces rows) (own "</ol>\n" ∷ []))

pub level-text : (row : LevelRow) → pieces_text (level_pieces row)
    ≡ pieces_text (level_head row) ++ (pieces_text (level_numbers row) ++ (pieces_text (format_pieces row.format) ++ pieces_text (level_end row)))
level-text row =
    pieces_text-append (level_head row) (level_numbers row ++ (format_pieces row.format ++ level_end row))
    ∙ ap (λ l. pieces_text (level_head row) ++ l) (pieces_text-append (level_numbers row) (format_pieces row.format ++ level_end row)
    ∙ ap (λ l. pieces_text (level_numbers row) ++ l) (pieces_text-append (format_pieces row.format) (level_end row)))

level_head_parts : (a n b m c l : List ℕ) → a ++ (n ++ (b ++ (m ++ (c ++ (l ++ []))))) ≡ (a ++ n) ++ ((b ++ m) ++ (c ++ l))
level_head_parts a n b m c l = simp (append_assoc, append-nil)

pub level_head-text : (row : LevelRow) → pieces_text (level_head row)
    ≡ (codes "<li data-num=\"" ++ decimal row.num) ++ ((codes "\" data-list=\"" ++ decimal row.list) ++ (codes "\" data-level=\"" ++ decimal row.level))
level_head-text row =
    level_head_parts (codes "<li data-num=\"") (decimal row.num) (codes "\" data-list=\"") (decimal row.list) (codes "\" data-level=\"") (decimal row.level)

signed-is : (number : Number) → pieces_text (signed number) ≡ signed_text number
signed-is (Plus n) = append-nil (decimal n)
signed-is (Minus n) = ap (λ l. codes "-" ++ l) (append-nil (decimal n))

attribute-is : (before : String) (number : Number) → pieces_text (attribute before number) ≡ codes before ++ signed_text number
attribute-is before number = ap (λ l. codes before ++ l) (signed-is number)

if_any-is : (before : String) (number : Option Number) → pieces_text (attribute_if_any before number) ≡ text_if_any (codes before) number
if_any-is before None = refl
if_any-is before (Some number) = attribute-is before number

pub numbers-text : (row : LevelRow) → pieces_text (level_numbers row)
    ≡ (codes "\" data-start=\"" ++ signed_text row.start) ++ (text_if_any (codes "\" data-again=\"") row.again ++ text_if_any (codes "\" data-restart=\"") row.restart)
numbers-text row =
    let start = attribute "\" data-start=\"" row.start in
    let again = attribute_if_any "\" data-again=\"" row.again in
    let restart = attribute_if_any "\" data-restart=\"" row.restart in
    pieces_text-append start (again ++ restart)
    ∙ ap (λ l. l ++ pieces_text (again ++ restart)) (attribute-is "\" data-start=\"" row.start)
    ∙ ap (λ l. (codes "\" data-start=\"" ++ signed_text row.start) ++ l) (pieces_text-append again restart
    ∙ ap (λ l. l ++ pieces_text restart) (if_any-is "\" data-again=\"" row.again)
    ∙ ap (λ l. text_if_any (codes "\" data-again=\"") row.again ++ l) (if_any-is "\" data-restart=\"" row.restart))

-- ---- all of it

pub lists-text : (numbers : PageNumbers) → pieces_text (lists_of numbers)
    ≡ pieces_text (flat_map (sort_list true) numbers.stories) ++ (pieces_text (flat_map (sort_list false) numbers.stories) ++ pieces_text (level_list numbers.levels))
lists-text numbers =
    pieces_text-append (flat_map (sort_list true) numbers.stories) (flat_map (sort_list false) numbers.stories ++ level_list numbers.levels)
    ∙ ap (λ l. pieces_text (flat_map (sort_list true) numbers.stories) ++ l) (pieces_text-append (flat_map (sort_list false) numbers.stories) (level_list numbers.levels))
