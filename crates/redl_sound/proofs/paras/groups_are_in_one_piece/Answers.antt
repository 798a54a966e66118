use Rattle.redl_sound.proofs.Grouped.OnePiece.{several-are-one, one-is-alone, begins-group}
use Rattle.redl_sound.proofs.paras.groups_are_in_one_piece.Goals as goal
use Rattle.std.proofs.Common.{refl}

pub returns : goal.returns
returns c = record {
  thin = λ followed nodes rest. refl;
  thick = λ followed nodes rest. refl;
  alone = λ followed tag cut kids rest ends. one-is-alone tag cut kids rest followed ends;
  several = λ followed first first_kids between tag cut kids rest before ends. several-are-one tag cut kids rest followed ends first first_kids between before;
  begins = begins-group;
}
