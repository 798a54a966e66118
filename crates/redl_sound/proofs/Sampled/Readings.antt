-- The text of a sample is read as these nodes, which are within the limits.
use lib.Utf8.{encode}
use Rattle.std.proofs.Common.{◌≡◌, ◌+◌, ◌*◌, ◌≤◌, ◌<◌, ◌^◌, ℕ, zero, suc, Bool, true, false, ◌&&◌, ◌||◌, ◌==◌, nat_le, cond, eqb, List, [], ◌∷◌, ◌++◌, codes, decimal, refl, sym, ap, ◌∙◌, append_assoc, append-nil, arith}
use Rattle.std.proofs.lemmas.Bool.{eqb-true, leb-true, le-leb, and_parts, and_from}
use Rattle.std.proofs.lemmas.Fmt.{digits_decimal}
use Rattle.std.proofs.lemmas.Str.{encode_ascii}
use Rattle.std.proofs.lemmas.Str.Parse.{numerals_by_value, tells_all_ascii_digits}
use Rattle.std.specs.List.{flat_map, list_all, range_with_len}
use Rattle.std.specs.Str.{all_ascii_digits, encode_utf8_all}
use Rattle.std.proofs.Math.Bool.{or-true}
use Rattle.redl_reading.proofs.Runs.{passes-append}
use Rattle.redl_grammar.specs.Characters.{IsText, is_character, is_name_start, is_name_character}
use Rattle.redl_grammar.specs.Names.{are_distinct, may_follow, may_start}
use Rattle.redl_sample.specs.Blocks.{block_text, filled, filled_byte, form_at, template}
use Rattle.redl_sample.specs.Packages.{blocks_text, closing, opening, package_text}
use Rattle.redl_sound.proofs.Sampled.Blocks.{Form, Plain, Insertion, Deletion, Mark, Both, Properties, Table, Move, shape_of, form_of, template_is, filled_then, blocks_nodes, blocks_text_is}
use Rattle.redl_sound.proofs.Sampled.Legal.{body_scope, digits_safe, is_fine, legal_shape}
use Rattle.redl_sound.proofs.Sampled.Outside.{declaration, declared, legal_root, root}
use Rattle.redl_sound.proofs.Sampled.Shapes.{end, empty, nodes_of, shape_then}
use Rattle.redl_tree.specs.Model.Count.{count}
use Rattle.redl_tree.specs.Model.Nodes.{Nodes, no_nodes, bytes}
use Rattle.redl_tree.specs.Model.Text.{text}
use Rattle.redl_tree.proofs.Model.Texts.{text-then}
use Rattle.redl_xml.specs.Readings.{AreLegal, IsReading}
use Rattle.redl_xml.specs.Shapes.{begins_with_bytes, depth_of}

-- ---- the nodes

-- the last paragraph
abbrev pub last : Nodes
last = nodes_of [] (empty (codes "p") [] end) no_nodes

abbrev pub body : ℕ → Nodes
body number = blocks_nodes 0 number last

abbrev pub sample_nodes : ℕ → Nodes
sample_nodes number = bytes declaration (root (body number))

-- ---- their text

pub text_is : (number : ℕ) → text (sample_nodes number) ≡ package_text number
unfolding opening closing
text_is number =
    sym (append-nil (text (sample_nodes number))) ∙ text-then (sample_nodes number) []
    ∙ ap (λ (z : List ℕ). opening ++ z) (blocks_text_is 0 number last (codes "</w:body></w:document></pkg:xmlData></pkg:part></pkg:package>"))
    ∙ sym (append_assoc opening (blocks_text number) closing)

-- ---- its characters

abbrev is_printable : ℕ → Bool
is_printable c = nat_le 32 c && nat_le c 126

printable : (c : ℕ) → is_printable c ≡ true → (32 ≤ c) × (c ≤ 126)
printable c h =
    let both = and_parts (nat_le 32 c) (nat_le c 126) h in
    (leb-true 32 c both.0, leb-true c 126 both.1)

character : (c : ℕ) → is_printable c ≡ true → is_character c ≡ true
unfolding is_character
character c h =
    let low : nat_le 32 c ≡ true = (and_parts (nat_le 32 c) (nat_le c 126) h).0 in
    let high : nat_le c 0xD7FF ≡ true = le-leb c 0xD7FF (omega (arith, (printable c h).1)) in
    let any : (c == 0x9 || c == 0xA || c == 0xD || true) ≡ true = or-true (c == 0x9 || c == 0xA || c == 0xD) in
    rw (low, high, any) refl

pub text_of_printable : (bs : List ℕ) → list_all is_printable bs ≡ true → IsText bs
text_of_printable bs h = record { characters = bs; each = each bs h; whole = whole bs h }
  where
    each : (cs : List ℕ) → list_all is_printable cs ≡ true → list_all is_character cs ≡ true
    each [] k = refl
    each (c ∷ cs) k =
        let both = and_parts (is_printable c) (list_all is_printable cs) k in
        and_from (is_character c) (list_all is_character cs) (character c both.0) (each cs both.1)

    whole : (cs : List ℕ) → list_all is_printable cs ≡ true → cs ≡ encode_utf8_all cs
    whole [] k = refl
    whole (c ∷ cs) k =
        let both = and_parts (is_printable c) (list_all is_printable cs) k in
        let low = printable c both.0 in
        ap (λ (z : List ℕ). c ∷ z) (whole cs both.1) ∙ ap (λ (z : List ℕ). z ++ encode_utf8_all cs) (sym (encode_ascii c (omega (arith, low.1))))

-- the digits of a number
pub digits_of_number : (n : ℕ) → n < 2 ^ 64 → all_ascii_digits (decimal n) ≡ true
digits_of_number n small = digits_decimal (numerals_by_value (λ ds. all_ascii_digits ds ≡ true) tells_all_ascii_digits) n small

digits_printable : (digits : List ℕ) → all_ascii_digits digits ≡ true → list_all is_printable digits ≡ true
digits_printable [] h = refl
digits_printable (c ∷ cs) h =
    let parts = tells_all_ascii_digits.parts c cs h in
    and_from (is_printable c) (list_all is_printable cs)
    (and_from (nat_le 32 c) (nat_le c 126) (le-leb 32 c (omega (arith, parts.0))) (le-leb c 126 (omega (arith, parts.0)))) (digits_printable cs parts.1)

-- a template is what it is filled to by the sign for a number itself
unfilled : (bs : List ℕ) → filled_then (35 ∷ []) bs [] ≡ bs
unfilled [] = refl
unfilled (b ∷ bs) = by (eqb b 35) refl (unfilled bs)
  where
    by : (same : Bool) → eqb b 35 ≡ same → filled_then (35 ∷ []) bs [] ≡ bs
        → cond same ((35 ∷ []) ++ filled_then (35 ∷ []) bs []) (b ∷ filled_then (35 ∷ []) bs []) ≡ b ∷ bs
    by true e ih = ap (λ (z : List ℕ). 35 ∷ z) ih ∙ ap (λ (c : ℕ). c ∷ bs) (sym (eqb-true b 35 e))
    by false e ih = ap (λ (z : List ℕ). b ∷ z) ih

shape_printable : (form : Form) → list_all is_printable (shape_then (35 ∷ []) (shape_of form) []) ≡ true
shape_printable Plain = refl
shape_printable Insertion = refl
shape_printable Deletion = refl
shape_printable Mark = refl
shape_printable Both = refl
shape_printable Properties = refl
shape_printable Table = refl
shape_printable Move = refl

template_printable : (number : ℕ) → list_all is_printable (template (form_at number)) ≡ true
template_printable number =
    ap (list_all is_printable) (sym (unfilled (template (form_at number))) ∙ template_is number (35 ∷ []) []) ∙ shape_printable (form_of number)

filled_printable : (digits bs : List ℕ) → list_all is_printable digits ≡ true → list_all is_printable bs ≡ true → list_all is_printable (filled digits bs) ≡ true
filled_printable digits [] d h = refl
filled_printable digits (b ∷ bs) d h =
    let both = and_parts (is_printable b) (list_all is_printable bs) h in
    passes-append is_printable (filled_byte digits b) (filled digits bs) (by (eqb b 35)) (filled_printable digits bs d both.1)
  where
    by : (same : Bool) → list_all is_printable (cond same digits (b ∷ [])) ≡ true
    by true = d
    by false = and_from (is_printable b) true (and_parts (is_printable b) (list_all is_printable bs) h).0 refl

blocks_printable : (from size : ℕ) → from + size < 2 ^ 64 → list_all is_printable (flat_map block_text (range_with_len from size)) ≡ true
blocks_printable from zero small = refl
blocks_printable from (suc size) small =
    passes-append is_printable (block_text from) (flat_map block_text (range_with_len (from + 1) size))
    (filled_printable (decimal from) (template (form_at from)) (digits_printable (decimal from) (digits_of_number from (omega (arith, small)))) (template_printable from))
    (blocks_printable (from + 1) size (omega (arith, small)))

pub characters_are : (number : ℕ) → number ≤ 20000 → IsText (package_text number)
unfolding opening closing
characters_are number few =
    text_of_printable (package_text number)
    (passes-append is_printable (opening ++ blocks_text number) closing
    (passes-append is_printable opening (blocks_text number) refl (blocks_printable 0 number (omega (arith, few)))) refl)

-- ---- legal nodes

form_is_fine : (form : Form) → is_fine true (shape_of form) ≡ true
unfolding may_start may_follow is_name_start is_name_character encode are_distinct
form_is_fine Plain = refl
form_is_fine Insertion = refl
form_is_fine Deletion = refl
form_is_fine Mark = refl
form_is_fine Both = refl
form_is_fine Properties = refl
form_is_fine Table = refl
form_is_fine Move = refl

legal_blocks : (from size : ℕ) → from + size < 2 ^ 64 → (rest : Nodes) → AreLegal body_scope rest → begins_with_bytes rest ≡ false
    → AreLegal body_scope (blocks_nodes from size rest) × (begins_with_bytes (blocks_nodes from size rest) ≡ false)
legal_blocks from zero small rest legal begins = (legal, begins)
legal_blocks from (suc size) small rest legal begins =
    let digits = decimal from in
    let more = legal_blocks (from + 1) size (omega (arith, small)) rest legal begins in
    let here = legal_shape digits (digits_safe digits (digits_of_number from (omega (arith, small)))) (shape_of (form_of from)) true (form_is_fine (form_of from))
    (blocks_nodes (from + 1) size rest) more.0 more.1 in
    (here.0, here.1 refl)

last_is_legal : AreLegal body_scope last
unfolding may_start may_follow is_name_start is_name_character encode are_distinct
last_is_legal = (legal_shape [] refl (empty (codes "p") [] end) true refl no_nodes tt refl).0

pub reading_is : (number : ℕ) → number ≤ 20000 → IsReading (package_text number) (sample_nodes number)
reading_is number few = record {
  text = text_is number;
  characters = characters_are number few;
  document = record {
    before = bytes declaration no_nodes;
    root = _;
    kids = _;
    after = no_nodes;
    whole = refl;
    is_before = declared;
    is_root = legal_root (body number) (legal_blocks 0 number (omega (arith, few)) last last_is_legal refl).0;
    is_after = tt;
  };
}

-- ---- the limits

form_depth : (form : Form) (digits : List ℕ) (rest : Nodes) (most : ℕ) → 9 ≤ most → depth_of rest ≤ most → depth_of (nodes_of digits (shape_of form) rest) ≤ most
form_depth Plain digits rest most room h = omega (arith, room, h)
form_depth Insertion digits rest most room h = omega (arith, room, h)
form_depth Deletion digits rest most room h = omega (arith, room, h)
form_depth Mark digits rest most room h = omega (arith, room, h)
form_depth Both digits rest most room h = omega (arith, room, h)
form_depth Properties digits rest most room h = omega (arith, room, h)
form_depth Table digits rest most room h = omega (arith, room, h)
form_depth Move digits rest most room h = omega (arith, room, h)

form_count : (form : Form) (digits : List ℕ) (rest : Nodes) → count (nodes_of digits (shape_of form) rest) ≤ 40 + count rest
form_count Plain digits rest = omega arith
form_count Insertion digits rest = omega arith
form_count Deletion digits rest = omega arith
form_count Mark digits rest = omega arith
form_count Both digits rest = omega arith
form_count Properties digits rest = omega arith
form_count Table digits rest = omega arith
form_count Move digits rest = omega arith

blocks_depth : (from size : ℕ) (rest : Nodes) (most : ℕ) → 9 ≤ most → depth_of rest ≤ most → depth_of (blocks_nodes from size rest) ≤ most
blocks_depth from zero rest most room h = h
blocks_depth from (suc size) rest most room h =
    form_depth (form_of from) (decimal from) (blocks_nodes (from + 1) size rest) most room (blocks_depth (from + 1) size rest most room h)

blocks_count : (from size : ℕ) (rest : Nodes) → count (blocks_nodes from size rest) ≤ 40 * size + count rest
blocks_count from zero rest = omega arith
blocks_count from (suc size) rest =
    omega (arith, form_count (form_of from) (decimal from) (blocks_nodes (from + 1) size rest), blocks_count (from + 1) size rest)

pub shallow : (number : ℕ) → depth_of (sample_nodes number) ≤ 512
shallow number = omega (arith, blocks_depth 0 number last 9 (omega arith) (omega arith))

pub few_nodes : (number : ℕ) → number ≤ 20000 → count (sample_nodes number) ≤ 2097152
few_nodes number few = omega (arith, few, blocks_count 0 number last)
