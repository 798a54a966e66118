-- What a pass writes is sound again, in the worked rows.
use Rattle.std.proofs.Common.{◌≡◌, refl, None}
use Rattle.redl_laws.proofs.Rows.Documents.{broken_after}
use Rattle.redl_laws.proofs.Rows.Bodies.{row_2, row_3, row_4, row_5, row_6, row_7, row_7_kept, row_8, row_9, row_10, row_24, run_change, section_change, row_change, three_paragraphs, nested_paragraphs, row_in_control, inserted_cell, loose_move, two_targets, two_moves}
use Rattle.redl_tree.specs.declared.kinds.Say.TheVariants.{Accept, Reject}

pub row_2_accept_sound : broken_after Accept row_2 ≡ None
row_2_accept_sound = refl

pub row_2_reject_sound : broken_after Reject row_2 ≡ None
row_2_reject_sound = refl

pub row_3_accept_sound : broken_after Accept row_3 ≡ None
row_3_accept_sound = refl

pub row_3_reject_sound : broken_after Reject row_3 ≡ None
row_3_reject_sound = refl

pub row_4_accept_sound : broken_after Accept row_4 ≡ None
row_4_accept_sound = refl

pub row_4_reject_sound : broken_after Reject row_4 ≡ None
row_4_reject_sound = refl

pub row_5_accept_sound : broken_after Accept row_5 ≡ None
row_5_accept_sound = refl

pub row_5_reject_sound : broken_after Reject row_5 ≡ None
row_5_reject_sound = refl

pub row_6_accept_sound : broken_after Accept row_6 ≡ None
row_6_accept_sound = refl

pub row_6_reject_sound : broken_after Reject row_6 ≡ None
row_6_reject_sound = refl

pub row_7_accept_sound : broken_after Accept row_7 ≡ None
row_7_accept_sound = refl

pub row_7_reject_sound : broken_after Reject row_7 ≡ None
row_7_reject_sound = refl

pub row_7_kept_accept_sound : broken_after Accept row_7_kept ≡ None
row_7_kept_accept_sound = refl

pub row_7_kept_reject_sound : broken_after Reject row_7_kept ≡ None
row_7_kept_reject_sound = refl

pub row_8_accept_sound : broken_after Accept row_8 ≡ None
row_8_accept_sound = refl

pub row_8_reject_sound : broken_after Reject row_8 ≡ None
row_8_reject_sound = refl

pub row_9_accept_sound : broken_after Accept row_9 ≡ None
row_9_accept_sound = refl

pub row_9_reject_sound : broken_after Reject row_9 ≡ None
row_9_reject_sound = refl

pub row_10_accept_sound : broken_after Accept row_10 ≡ None
row_10_accept_sound = refl

pub row_10_reject_sound : broken_after Reject row_10 ≡ None
row_10_reject_sound = refl

pub row_24_accept_sound : broken_after Accept row_24 ≡ None
row_24_accept_sound = refl

pub row_24_reject_sound : broken_after Reject row_24 ≡ None
row_24_reject_sound = refl

pub run_change_accept_sound : broken_after Accept run_change ≡ None
run_change_accept_sound = refl

pub run_change_reject_sound : broken_after Reject run_change ≡ None
run_change_reject_sound = refl

pub section_change_accept_sound : broken_after Accept section_change ≡ None
section_change_accept_sound = refl

pub section_change_reject_sound : broken_after Reject section_change ≡ None
section_change_reject_sound = refl

pub row_change_accept_sound : broken_after Accept row_change ≡ None
row_change_accept_sound = refl

pub row_change_reject_sound : broken_after Reject row_change ≡ None
row_change_reject_sound = refl

pub three_paragraphs_accept_sound : broken_after Accept three_paragraphs ≡ None
three_paragraphs_accept_sound = refl

pub three_paragraphs_reject_sound : broken_after Reject three_paragraphs ≡ None
three_paragraphs_reject_sound = refl

pub nested_paragraphs_accept_sound : broken_after Accept nested_paragraphs ≡ None
nested_paragraphs_accept_sound = refl

pub nested_paragraphs_reject_sound : broken_after Reject nested_paragraphs ≡ None
nested_paragraphs_reject_sound = refl

pub row_in_control_accept_sound : broken_after Accept row_in_control ≡ None
row_in_control_accept_sound = refl

pub row_in_control_reject_sound : broken_after Reject row_in_control ≡ None
row_in_control_reject_sound = refl

pub inserted_cell_accept_sound : broken_after Accept inserted_cell ≡ None
inserted_cell_accept_sound = refl

pub inserted_cell_reject_sound : broken_after Reject inserted_cell ≡ None
inserted_cell_reject_sound = refl

pub loose_move_accept_sound : broken_after Accept loose_move ≡ None
loose_move_accept_sound = refl

pub loose_move_reject_sound : broken_after Reject loose_move ≡ None
loose_move_reject_sound = refl

pub two_targets_accept_sound : broken_after Accept two_targets ≡ None
two_targets_accept_sound = refl

pub two_targets_reject_sound : broken_after Reject two_targets ≡ None
two_targets_reject_sound = refl

pub two_moves_accept_sound : broken_after Accept two_moves ≡ None
two_moves_accept_sound = refl

pub two_moves_reject_sound : broken_after Reject two_moves ≡ None
two_moves_reject_sound = refl
