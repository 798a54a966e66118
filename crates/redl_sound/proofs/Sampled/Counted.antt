-- A sample has as many revisions as its formula says.
use Rattle.std.proofs.Common.{◌≡◌, ℕ, zero, suc, ◌+◌, ◌<◌, ◌≤◌, ◌^◌, true, List, [], ◌∷◌, ◌++◌, Option, Some, None, codes, decimal, if◌then◌else◌, refl, sym, ap, ◌∙◌, append-nil, arith}
use Rattle.std.proofs.lemmas.Bool.{ne_eqb, and_from}
use Rattle.std.proofs.lemmas.List.Elements.{filter_map-append}
use Rattle.std.proofs.lemmas.Str.Parse.{tells_all_ascii_digits}
use Rattle.std.specs.List.{filter_map, flat_map, list_all, range_with_len}
use Rattle.std.specs.Option.{option_map}
use Rattle.std.specs.Prelude.{find}
use Rattle.std.specs.Str.{all_ascii_digits}
use Rattle.redl_markup.proofs.Decoding.{decoded_literal}
use Rattle.redl_grammar.specs.Characters.{is_name_start, is_name_character}
use Rattle.redl_markup.specs.Decoding.{decoded_value, is_literal}
use Rattle.redl_grammar.specs.Names.{Name, are_distinct, may_follow, may_start}
use lib.Utf8.{encode}
use Rattle.redl_sample.specs.Packages.{revisions}
use Rattle.redl_sound.proofs.Sampled.Blocks.{Form, Plain, Insertion, Deletion, Mark, Both, Properties, Table, Move, id, named, shape_of, form_of, blocks_nodes}
use Rattle.redl_sound.proofs.Sampled.Legal.{digits_safe, is_tag, legal_tag}
use Rattle.redl_sound.proofs.Sampled.Moved.{block_of, outside, HasFields, block_marks, block_own, block_moved, with_move, revisions_in, start_at}
use Rattle.redl_sound.proofs.Sampled.Outside.{body_tag, document_tag}
use Rattle.redl_sound.proofs.Sampled.Own.{past, past_later, all_own, own_revisions, with_more, seen-⊕, numbering-⊕, own_numbering, by_role}
use Rattle.redl_sound.proofs.Sampled.Placed.{start, start_next, move_before, part_marks, all_moves, move-alone, moves_are}
use Rattle.redl_sound.proofs.Sampled.Readings.{body, digits_of_number, last, sample_nodes}
use Rattle.redl_sound.proofs.Sampled.Shapes.{Shape, end, words, empty, full, nodes_of, tail_of, tag_with}
use Rattle.redl_sound.proofs.Sampled.Turns.{before, before_is}
use Rattle.redl_stamp.specs.Attribute.{attribute_value, has_local_name}
use Rattle.redl_tree.specs.Model.Nodes.{Nodes, no_nodes, bytes, element, ◌⊕◌, Empty, End}
use Rattle.redl_tree.specs.Model.Seen.{Spot, spot, seen, seen_from, root_spots}
use Rattle.redl_tree.specs.Revisions.Markers.{marker_of, moves_among}
use Rattle.redl_tree.specs.Revisions.Moves.{Pair, pairs}
use Rattle.redl_tree.specs.Revisions.Numbers.{Membership, Numbering, number_of_move, counted, start_with, revision_of, numbering_after, package_revisions_by}

-- ---- what attributes say

literal_digit : (c : ℕ) → 48 ≤ c → is_literal c ≡ true
literal_digit c low = rw (ne_eqb c 38 (λ e. omega (arith, e, low)), ne_eqb c 9 (λ e. omega (arith, e, low)), ne_eqb c 10 (λ e. omega (arith, e, low)), ne_eqb c 13 (λ e. omega (arith, e, low))) refl

literal_digits : (digits : List ℕ) → all_ascii_digits digits ≡ true → list_all is_literal digits ≡ true
literal_digits [] h = refl
literal_digits (c ∷ cs) h =
    let parts = tells_all_ascii_digits.parts c cs h in
    and_from (is_literal c) (list_all is_literal cs) (literal_digit c (omega (arith, parts.0))) (literal_digits cs parts.1)

start_is_tag : is_tag (codes "moveTo") named ≡ true
unfolding may_start may_follow is_name_start is_name_character encode are_distinct
start_is_tag = refl

end_is_tag : is_tag (codes "moveTo") (id ∷ []) ≡ true
unfolding may_start may_follow is_name_start is_name_character encode are_distinct
end_is_tag = refl

-- the value of an attribute in a list of attributes
abbrev value_in : List ℕ → List (Name × List ℕ) → Option (List ℕ)
value_in local list = option_map decoded_value (option_map (λ attribute. attribute.1) (find (has_local_name local) list))

fields_of : (number : ℕ) → number < 2 ^ 64 → HasFields attribute_value (decimal number)
fields_of number small =
    let digits = decimal number in
    let are = digits_of_number number small in
    let literal = literal_digits digits are in
    let safe = digits_safe digits are in
    let begins = (legal_tag digits (codes "moveTo") named safe start_is_tag).listed in
    let ends = (legal_tag digits (codes "moveTo") (id ∷ []) safe end_is_tag).listed in
    record {
      start_id = ap (value_in (codes "id")) begins ∙ ap Some (decoded_literal digits literal);
      start_name = ap (value_in (codes "name")) begins ∙ ap Some (decoded_literal (109 ∷ digits) (and_from (is_literal 109) (list_all is_literal digits) refl literal));
      end_id = ap (value_in (codes "id")) ends ∙ ap Some (decoded_literal digits literal);
      end_name = ap (value_in (codes "name")) ends;
    }

-- ---- block by block

block-⊕ : (digits : List ℕ) (shape : Shape) (rest : Nodes) → nodes_of digits shape rest ≡ nodes_of digits shape no_nodes ⊕ rest
block-⊕ digits end rest = refl
block-⊕ digits (words before_ shape) rest = ap (bytes (before_ ++ digits)) (block-⊕ digits shape rest)
block-⊕ digits (empty local fields shape) rest = ap (element (tag_with local (tail_of digits fields) Empty) no_nodes) (block-⊕ digits shape rest)
block-⊕ digits (full local fields kids shape) rest = ap (element (tag_with local (tail_of digits fields) (End [])) (nodes_of digits kids no_nodes)) (block-⊕ digits shape rest)

module _ (size : ℕ) (few : size ≤ 20000) where
  abbrev whole : Nodes
  whole = body size

  abbrev around : List Spot
  around = outside 1 whole 0 (element body_tag whole no_nodes)

  marks_in : (from count : ℕ) → from + count ≤ size
      → filter_map (marker_of attribute_value) (seen_from around (start from) (blocks_nodes from count last)) ≡ flat_map part_marks (range_with_len from count)
  marks_in from zero within = refl
  marks_in from (suc count) within =
      let block = block_of (form_of from) (decimal from) in
      let more = blocks_nodes (from + 1) count last in
      let here = seen_from around (start from) block in
      ap (λ nodes. filter_map (marker_of attribute_value) (seen_from around (start from) nodes)) (block-⊕ (decimal from) (shape_of (form_of from)) more)
      ∙ ap (filter_map (marker_of attribute_value)) (seen-⊕ around (start from) block more)
      ∙ filter_map-append (marker_of attribute_value) here (seen_from around (past (start from) block) more)
      ∙ ap (λ marks. marks ++ filter_map (marker_of attribute_value) (seen_from around (past (start from) block) more))
      (block_marks attribute_value (form_of from) (decimal from) (fields_of from (omega (arith, few, within))) 1 0 (start from) whole (element body_tag whole no_nodes))
      ∙ ap (λ at. part_marks from ++ filter_map (marker_of attribute_value) (seen_from around at more)) (sym (start_next from))
      ∙ ap (λ marks. part_marks from ++ marks) (marks_in (from + 1) count (omega (arith, within)))

  -- the moves of the story
  story_moves : moves_among attribute_value (seen document_tag (element body_tag whole no_nodes)) ≡ all_moves size
  story_moves =
      ap (λ marks. pairs marks)
      (ap (filter_map (marker_of attribute_value)) (append-nil (seen_from around 2 whole)) ∙ marks_in 0 size (omega arith))
      ∙ moves_are size few 0 size (omega arith)

  -- no move that begins from here on has a number
  abbrev AreNew : ℕ → Numbering → Type 0
  AreNew from so_far = (at : ℕ) → start from ≤ at → number_of_move so_far.moves at ≡ None

  new_later : (k : ℕ) (so_far : Numbering) → form_of k ≡ Move → AreNew k so_far → AreNew (k + 1) (with_move (start_at (start k)) so_far)
  new_later k so_far is new at low =
      let later_ = move_before k (k + 1) (omega arith) is in
      ap (λ b. if b then Some so_far.next else number_of_move so_far.moves at) (ne_eqb (start_at (start k)) at (λ e. omega (arith, later_, low, e)))
      ∙ new at (omega (arith, later_, low))

  -- what a block does to the state
  record AfterBlock (k : ℕ) (so_far : Numbering) : Type 0 where
    after : Numbering
    is : numbering_after attribute_value (all_moves size) around (start k) so_far (block_of (form_of k) (decimal k)) ≡ after
    counted_ : after.next ≡ so_far.next + revisions_in (form_of k)
    new : AreNew (k + 1) after

  after_own : (k : ℕ) (so_far : Numbering) (form : Form) → form_of k ≡ form
      → (all_own (body_tag ∷ document_tag ∷ []) (block_of form (decimal k)) ≡ true) × (own_revisions (body_tag ∷ document_tag ∷ []) (block_of form (decimal k)) ≡ revisions_in form)
      → AreNew k so_far → AfterBlock k so_far
  after_own k so_far form is own new =
      let steps : start k ≤ start (k + 1) = omega (arith, start_next k, past_later (start k) (block_of (form_of k) (decimal k))) in
      record {
        after = with_more (revisions_in form) so_far;
        is = ap (λ f. numbering_after attribute_value (all_moves size) around (start k) so_far (block_of f (decimal k))) is
            ∙ own_numbering attribute_value (all_moves size) around (start k) so_far (block_of form (decimal k)) own.0
            ∙ ap (λ n. with_more n so_far) own.1;
        counted_ = ap (λ f. so_far.next + revisions_in f) (sym is);
        new = λ at low. new at (omega (arith, steps, low));
      }

  after_block : (k : ℕ) (so_far : Numbering) → k < size → AreNew k so_far → AfterBlock k so_far
  after_block k so_far within new = by (form_of k) refl
    where
      by : (form : Form) → form_of k ≡ form → AfterBlock k so_far
      by Plain is = after_own k so_far Plain is (block_own Plain (decimal k) refl) new
      by Insertion is = after_own k so_far Insertion is (block_own Insertion (decimal k) refl) new
      by Deletion is = after_own k so_far Deletion is (block_own Deletion (decimal k) refl) new
      by Mark is = after_own k so_far Mark is (block_own Mark (decimal k) refl) new
      by Both is = after_own k so_far Both is (block_own Both (decimal k) refl) new
      by Properties is = after_own k so_far Properties is (block_own Properties (decimal k) refl) new
      by Table is = after_own k so_far Table is (block_own Table (decimal k) refl) new
      by Move is = record {
        after = with_move (start_at (start k)) so_far;
        is = ap (λ f. numbering_after attribute_value (all_moves size) around (start k) so_far (block_of f (decimal k))) is
            ∙ block_moved attribute_value (all_moves size) (decimal k) 1 0 whole (element body_tag whole no_nodes)
            (fields_of k (omega (arith, few, within))) (start k) (move-alone size k within is) so_far (new (start_at (start k)) (omega arith));
        counted_ = ap (λ f. so_far.next + revisions_in f) (sym is);
        new = new_later k so_far is new;
      }

  count_in : (from count : ℕ) (so_far : Numbering) → from + count ≤ size → AreNew from so_far → so_far.next ≡ before from
      → (numbering_after attribute_value (all_moves size) around (start from) so_far (blocks_nodes from count last)).next ≡ before (from + count)
  count_in from zero so_far within new next_is =
      let sum : from ≡ from + 0 = omega arith in
      let none : so_far.next + 0 ≡ before (from + 0) = omega (arith, next_is, ap before sum) in
      ap (λ (s : Numbering). s.next) (own_numbering attribute_value (all_moves size) around (start from) so_far last refl)
      ∙ none
  count_in from (suc count) so_far within new next_is =
      let block = block_of (form_of from) (decimal from) in
      let more = blocks_nodes (from + 1) count last in
      let moves = all_moves size in
      let step = after_block from so_far (omega (arith, within)) new in
      let next_sum : from + 1 ≡ suc from = omega arith in
      let next_before : before (from + 1) ≡ before from + revisions_in (form_of from) = ap before next_sum in
      let sum : from + 1 + count ≡ from + suc count = omega arith in
      let same : before (from + 1 + count) ≡ before (from + suc count) = ap before sum in
      ap (λ nodes. (numbering_after attribute_value moves around (start from) so_far nodes).next) (block-⊕ (decimal from) (shape_of (form_of from)) more)
      ∙ ap (λ (s : Numbering). s.next) (numbering-⊕ attribute_value moves around (start from) so_far block more)
      ∙ ap (λ (s : Numbering). (numbering_after attribute_value moves around (past (start from) block) s more).next) step.is
      ∙ ap (λ at. (numbering_after attribute_value moves around at step.after more).next) (sym (start_next from))
      ∙ count_in (from + 1) count step.after (omega (arith, within)) step.new (omega (arith, step.counted_, next_is, next_before))
      ∙ same

  -- the body itself is in no revision
  body_apart : (moves : List Pair) → counted (revision_of attribute_value moves (record { own = spot 1 body_tag whole; ancestors = spot 0 document_tag (element body_tag whole no_nodes) ∷ [] })) (start_with 0) ≡ start_with 0
  body_apart moves =
      ap (λ (m : Membership). counted m (start_with 0))
      (by_role attribute_value moves (record { own = spot 1 body_tag whole; ancestors = spot 0 document_tag (element body_tag whole no_nodes) ∷ [] }) refl)

  in_document : (moves : List Pair) → moves ≡ all_moves size
      → (numbering_after attribute_value moves (root_spots document_tag (element body_tag whole no_nodes)) 1 (start_with 0) (element body_tag whole no_nodes)).next ≡ revisions size
  in_document moves are =
      let sum : 0 + size ≡ size = omega arith in
      ap (λ (s : Numbering). (numbering_after attribute_value moves around 2 s whole).next) (body_apart moves)
      ∙ ap (λ m. (numbering_after attribute_value m around 2 (start_with 0) whole).next) are
      ∙ count_in 0 size (start_with 0) (omega arith) (λ at low. refl) refl
      ∙ ap before sum
      ∙ before_is size

  pub revisions_are : package_revisions_by attribute_value (sample_nodes size) ≡ revisions size
  revisions_are = in_document (moves_among attribute_value (seen document_tag (element body_tag whole no_nodes))) story_moves
