-- Parents after some pairs.
use Rattle.std.proofs.Common.{◌≡◌, ◌<◌, ◌≤◌, ◌+◌, ℕ, List, [], length, fold, get_or, take, refl, sym, subst, ◌∙◌}
use Rattle.std.proofs.lemmas.List.{take_all}
use Rattle.std.proofs.lemmas.List.Sums.{fold_more}
use Rattle.std.specs.List.{range_with_len}
use Rattle.redl_classes.specs.Inside.Parents.{IsForest, IsLabelled}
use Rattle.redl_classes.specs.Least.{joined, least_numbers_of}
use Rattle.redl_classes.specs.declared.pair.Pair.{Pair}
use Rattle.redl_classes.proofs.ParentLaws.{forest-alone, labelled-alone}

-- so many numbers have the labels that these pairs give
pub record Joins (count : ℕ) (done : List Pair) (parents : List ℕ) : Type 0 where
  pub forest : IsForest parents
  pub size : length parents ≡ count
  pub labelled : IsLabelled parents (fold joined (range_with_len 0 count) done)

pub Joins-alone : (parents : List ℕ) → parents ≡ range_with_len 0 (length parents) → Joins (length parents) [] parents
Joins-alone parents same = record {
  forest = subst IsForest (sym same) (forest-alone (length parents));
  size = refl;
  labelled = subst (λ made. IsLabelled made (range_with_len 0 (length parents))) (sym same) (labelled-alone (length parents));
}

-- after one pair more, which parents were joined by
pub Joins-more : (count : ℕ) (pairs : List Pair) (place : ℕ) (none : Pair) (parents made : List ℕ) → Joins count (take place pairs) parents
    → place < length pairs → IsForest made → length made ≡ length parents
    → ((labels : List ℕ) → IsLabelled parents labels → IsLabelled made (joined labels (get_or pairs place none))) → Joins count (take (place + 1) pairs) made
Joins-more count pairs place none parents made known bound forest size labelled = record {
  forest = forest;
  size = size ∙ known.size;
  labelled = subst (IsLabelled made) (sym (fold_more joined (range_with_len 0 count) pairs place none bound))
      (labelled (fold joined (range_with_len 0 count) (take place pairs)) known.labelled);
}

pub Joins-all : (count : ℕ) (pairs : List Pair) (place : ℕ) (parents : List ℕ) → Joins count (take place pairs) parents → length pairs ≤ place
    → IsLabelled parents (least_numbers_of count pairs)
Joins-all count pairs place parents known past =
    subst (λ all. IsLabelled parents (fold joined (range_with_len 0 count) all)) (take_all place pairs past) known.labelled
