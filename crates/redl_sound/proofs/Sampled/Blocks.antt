-- The nodes of the blocks of the sample, and their text.
use Rattle.std.proofs.Common.{◌≡◌, ◌+◌, ◌%◌, ◌==◌, ℕ, zero, suc, Bool, true, false, cond, List, [], ◌∷◌, ◌++◌, codes, decimal, eqb, if◌then◌else◌, refl, sym, ap, ◌∙◌, append_assoc}
use Rattle.std.specs.List.{flat_map, range_with_len}
use Rattle.redl_sample.specs.Blocks.{block_text, filled, form_at, template}
use Rattle.redl_sound.proofs.Sampled.Shapes.{Field, Shape, end, words, empty, full, nodes_of, shape_then, text-of}
use Rattle.redl_tree.specs.Model.Nodes.{Nodes}
use Rattle.redl_tree.proofs.Model.Texts.{text_then}

-- ---- the shapes

-- the number as an identifier, and an author
abbrev pub id : Field
id = (codes "id", ([], true))

abbrev pub by : List ℕ → List Field
by author = id ∷ (codes "author", (author, false)) ∷ []

-- the name of a move
abbrev pub named : List Field
named = id ∷ (codes "author", (codes "Cy", false)) ∷ (codes "name", (codes "m", true)) ∷ []

-- a paragraph, a run, and a run's text
abbrev paragraph : Shape → Shape → Shape
paragraph kids rest = full (codes "p") [] kids rest

abbrev run : List ℕ → Shape
run before = full (codes "r") [] (full (codes "t") [] (words before end) end) end

abbrev deleted_run : List ℕ → Shape
deleted_run before = full (codes "r") [] (full (codes "delText") [] (words before end) end) end

abbrev cell : Shape → Shape
cell rest = full (codes "tc") [] (empty (codes "p") [] end) rest

-- the eight forms of blocks
pub data Form : Type 0 where
  Plain : Form
  Insertion : Form
  Deletion : Form
  Mark : Form
  Both : Form
  Properties : Form
  Table : Form
  Move : Form

-- the shape of each form
abbrev pub shape_of : Form → Shape
shape_of Plain = paragraph (run (codes "plain ")) end
shape_of Insertion = paragraph (full (codes "ins") (by (codes "Ann")) (run (codes "new ")) end) end
shape_of Deletion = paragraph (full (codes "del") (by (codes "Bob")) (deleted_run (codes "old ")) end) end
shape_of Mark =
    paragraph (full (codes "pPr") [] (full (codes "rPr") [] (empty (codes "del") (by (codes "Ann")) end) end) (run (codes "join "))) end
shape_of Both =
    paragraph (full (codes "ins") (by (codes "Bob")) (full (codes "del") (by (codes "Ann")) (deleted_run (codes "both ")) end) end) end
shape_of Properties =
    paragraph (full (codes "r") [] (full (codes "rPr") []
    (empty (codes "b") [] (full (codes "rPrChange") (by (codes "Cy")) (full (codes "rPr") [] (empty (codes "i") [] end) end) end))
    (full (codes "t") [] (words (codes "bold ") end) end)) end) end
shape_of Table =
    full (codes "tbl") []
    (full (codes "tr") [] (full (codes "trPr") [] (empty (codes "ins") (by (codes "Ann")) end) (cell end))
    (full (codes "tr") [] (full (codes "tc") [] (full (codes "tcPr") [] (empty (codes "cellDel") (by (codes "Bob")) end) (empty (codes "p") [] end)) (cell end)) end)) end
shape_of Move =
    paragraph (empty (codes "moveFromRangeStart") named (full (codes "moveFrom") (by (codes "Cy")) (run (codes "move "))
    (empty (codes "moveFromRangeEnd") (id ∷ []) end)))
    (paragraph (empty (codes "moveToRangeStart") named (full (codes "moveTo") (by (codes "Cy")) (run (codes "move "))
    (empty (codes "moveToRangeEnd") (id ∷ []) end))) end)

-- ---- their text

-- a template with digits, and then this text
abbrev pub filled_then : List ℕ → List ℕ → List ℕ → List ℕ
filled_then digits [] y = y
filled_then digits (b ∷ bs) y = cond (eqb b 35) (digits ++ filled_then digits bs y) (b ∷ filled_then digits bs y)

filled-then : (digits template : List ℕ) (y : List ℕ) → filled digits template ++ y ≡ filled_then digits template y
filled-then digits [] y = refl
filled-then digits (b ∷ bs) y = by_byte (eqb b 35) (filled-then digits bs y)
  where
    by_byte : (same : Bool) → filled digits bs ++ y ≡ filled_then digits bs y
        → (cond same digits (b ∷ []) ++ filled digits bs) ++ y ≡ cond same (digits ++ filled_then digits bs y) (b ∷ filled_then digits bs y)
    by_byte true ih = append_assoc digits (filled digits bs) y ∙ ap (λ z. digits ++ z) ih
    by_byte false ih = ap (λ z. b ∷ z) ih

-- the form of the block with this number
abbrev pub form_of : ℕ → Form
form_of number =
    if number % 8 == 0 then Plain
    else if number % 8 == 1 then Insertion
    else if number % 8 == 2 then Deletion
    else if number % 8 == 3 then Mark
    else if number % 8 == 4 then Both
    else if number % 8 == 5 then Properties
    else if number % 8 == 6 then Table
    else Move

pub template_is : (number : ℕ) (digits y : List ℕ) → filled_then digits (template (form_at number)) y ≡ shape_then digits (shape_of (form_of number)) y
unfolding template
template_is number digits y = is_plain (number % 8 == 0) refl
  where
    is_table : (b : Bool) → (number % 8 == 0) ≡ false → (number % 8 == 1) ≡ false → (number % 8 == 2) ≡ false → (number % 8 == 3) ≡ false
        → (number % 8 == 4) ≡ false → (number % 8 == 5) ≡ false → (number % 8 == 6) ≡ b
        → filled_then digits (template (form_at number)) y ≡ shape_then digits (shape_of (form_of number)) y
    is_table true e f g h i j k = rw (e, f, g, h, i, j, k) refl
    is_table false e f g h i j k = rw (e, f, g, h, i, j, k) refl

    is_properties : (b : Bool) → (number % 8 == 0) ≡ false → (number % 8 == 1) ≡ false → (number % 8 == 2) ≡ false → (number % 8 == 3) ≡ false
        → (number % 8 == 4) ≡ false → (number % 8 == 5) ≡ b
        → filled_then digits (template (form_at number)) y ≡ shape_then digits (shape_of (form_of number)) y
    is_properties true e f g h i j = rw (e, f, g, h, i, j) refl
    is_properties false e f g h i j = is_table (number % 8 == 6) e f g h i j refl

    is_both : (b : Bool) → (number % 8 == 0) ≡ false → (number % 8 == 1) ≡ false → (number % 8 == 2) ≡ false → (number % 8 == 3) ≡ false → (number % 8 == 4) ≡ b
        → filled_then digits (template (form_at number)) y ≡ shape_then digits (shape_of (form_of number)) y
    is_both true e f g h i = rw (e, f, g, h, i) refl
    is_both false e f g h i = is_properties (number % 8 == 5) e f g h i refl

    is_mark : (b : Bool) → (number % 8 == 0) ≡ false → (number % 8 == 1) ≡ false → (number % 8 == 2) ≡ false → (number % 8 == 3) ≡ b
        → filled_then digits (template (form_at number)) y ≡ shape_then digits (shape_of (form_of number)) y
    is_mark true e f g h = rw (e, f, g, h) refl
    is_mark false e f g h = is_both (number % 8 == 4) e f g h refl

    is_deletion : (b : Bool) → (number % 8 == 0) ≡ false → (number % 8 == 1) ≡ false → (number % 8 == 2) ≡ b
        → filled_then digits (template (form_at number)) y ≡ shape_then digits (shape_of (form_of number)) y
    is_deletion true e f g = rw (e, f, g) refl
    is_deletion false e f g = is_mark (number % 8 == 3) e f g refl

    is_insertion : (b : Bool) → (number % 8 == 0) ≡ false → (number % 8 == 1) ≡ b
        → filled_then digits (template (form_at number)) y ≡ shape_then digits (shape_of (form_of number)) y
    is_insertion true e f = rw (e, f) refl
    is_insertion false e f = is_deletion (number % 8 == 2) e f refl

    is_plain : (b : Bool) → (number % 8 == 0) ≡ b → filled_then digits (template (form_at number)) y ≡ shape_then digits (shape_of (form_of number)) y
    is_plain true e = rw e refl
    is_plain false e = is_insertion (number % 8 == 1) e refl

-- ---- the blocks

-- the nodes of so many blocks from this number on, and then others
abbrev pub blocks_nodes : ℕ → ℕ → Nodes → Nodes
blocks_nodes from zero rest = rest
blocks_nodes from (suc count) rest = nodes_of (decimal from) (shape_of (form_of from)) (blocks_nodes (from + 1) count rest)

pub blocks_text_is : (from count : ℕ) (rest : Nodes) (y : List ℕ) → text_then (blocks_nodes from count rest) y ≡ flat_map block_text (range_with_len from count) ++ text_then rest y
blocks_text_is from zero rest y = refl
blocks_text_is from (suc count) rest y =
    let after = flat_map block_text (range_with_len (from + 1) count) in
    text-of (decimal from) (shape_of (form_of from)) (blocks_nodes (from + 1) count rest) y
    ∙ ap (shape_then (decimal from) (shape_of (form_of from))) (blocks_text_is (from + 1) count rest y)
    ∙ sym (template_is from (decimal from) (after ++ text_then rest y))
    ∙ sym (filled-then (decimal from) (template (form_at from)) (after ++ text_then rest y))
    ∙ sym (append_assoc (block_text from) after (text_then rest y))
