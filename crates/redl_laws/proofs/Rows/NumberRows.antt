-- Worked rows: numbers of revisions, and rules.
use Rattle.std.proofs.Common.{◌≡◌, refl, Some, None}
use Rattle.redl_laws.proofs.Rows.Documents.{revision_numbers, broken_rule}
use Rattle.redl_laws.proofs.Rows.Bodies.{row_10, loose_move, two_targets, two_moves, row_2, row_24, bad_1, bad_2, bad_3, bad_4, bad_5, bad_6, bad_7, bad_8, bad_9, row_3, row_4, row_5, row_6, row_7, row_7_kept, row_8, row_9, run_change, section_change, row_change, three_paragraphs, nested_paragraphs, row_in_control, inserted_cell}

pub row_10_revisions : revision_numbers row_10 ≡ 1
row_10_revisions = refl

pub loose_move_revisions : revision_numbers loose_move ≡ 3
loose_move_revisions = refl

pub two_targets_revisions : revision_numbers two_targets ≡ 2
two_targets_revisions = refl

pub two_moves_revisions : revision_numbers two_moves ≡ 4
two_moves_revisions = refl

pub row_2_revisions : revision_numbers row_2 ≡ 1
row_2_revisions = refl

pub row_24_revisions : revision_numbers row_24 ≡ 2
row_24_revisions = refl

pub bad_1_broken : broken_rule bad_1 ≡ Some 1
bad_1_broken = refl

pub bad_2_broken : broken_rule bad_2 ≡ Some 2
bad_2_broken = refl

pub bad_3_broken : broken_rule bad_3 ≡ Some 3
bad_3_broken = refl

pub bad_4_broken : broken_rule bad_4 ≡ Some 4
bad_4_broken = refl

pub bad_5_broken : broken_rule bad_5 ≡ Some 5
bad_5_broken = refl

pub bad_6_broken : broken_rule bad_6 ≡ Some 6
bad_6_broken = refl

pub bad_7_broken : broken_rule bad_7 ≡ Some 7
bad_7_broken = refl

pub bad_8_broken : broken_rule bad_8 ≡ Some 8
bad_8_broken = refl

pub bad_9_broken : broken_rule bad_9 ≡ Some 9
bad_9_broken = refl

pub row_2_sound : broken_rule row_2 ≡ None
row_2_sound = refl

pub row_3_sound : broken_rule row_3 ≡ None
row_3_sound = refl

pub row_4_sound : broken_rule row_4 ≡ None
row_4_sound = refl

pub row_5_sound : broken_rule row_5 ≡ None
row_5_sound = refl

pub row_6_sound : broken_rule row_6 ≡ None
row_6_sound = refl

pub row_7_sound : broken_rule row_7 ≡ None
row_7_sound = refl

pub row_7_kept_sound : broken_rule row_7_kept ≡ None
row_7_kept_sound = refl

pub row_8_sound : broken_rule row_8 ≡ None
row_8_sound = refl

pub row_9_sound : broken_rule row_9 ≡ None
row_9_sound = refl

pub row_10_sound : broken_rule row_10 ≡ None
row_10_sound = refl

pub row_24_sound : broken_rule row_24 ≡ None
row_24_sound = refl

pub run_change_sound : broken_rule run_change ≡ None
run_change_sound = refl

pub section_change_sound : broken_rule section_change ≡ None
section_change_sound = refl

pub row_change_sound : broken_rule row_change ≡ None
row_change_sound = refl

pub three_paragraphs_sound : broken_rule three_paragraphs ≡ None
three_paragraphs_sound = refl

pub nested_paragraphs_sound : broken_rule nested_paragraphs ≡ None
nested_paragraphs_sound = refl

pub row_in_control_sound : broken_rule row_in_control ≡ None
row_in_control_sound = refl

pub inserted_cell_sound : broken_rule inserted_cell ≡ None
inserted_cell_sound = refl

pub loose_move_sound : broken_rule loose_move ≡ None
loose_move_sound = refl

pub two_targets_sound : broken_rule two_targets ≡ None
two_targets_sound = refl

pub two_moves_sound : broken_rule two_moves ≡ None
two_moves_sound = refl
