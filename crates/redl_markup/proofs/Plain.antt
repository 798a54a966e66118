-- Text without `<`, `&` and `]` is a run, so before a tag it is a whole stretch in an element.
use Rattle.std.proofs.Common.{◌≡◌, ◌≢◌, ℕ, Bool, true, false, eqb, List, [], ◌∷◌, ◌++◌, Some, refl, sym, ap, ◌∙◌}
use Rattle.std.specs.Prelude.{◌||◌, ◌&&◌, not, codes}
use Rattle.std.specs.List.{list_all}
use Rattle.std.proofs.lemmas.Bool.{and_parts, and_from}
use Rattle.std.proofs.lemmas.List.{append-nil}
use Rattle.redl_reading.specs.Lists.{front, after, begins, lacks, is_filled, is_other, is_none_of}
use Rattle.redl_reading.proofs.Runs.{front-after, front_passes}
use Rattle.redl_grammar.specs.declared.section.Section.TheVariants.{InElement}
use Rattle.redl_grammar.specs.References.{is_there, reference_at, has_references}
use Rattle.redl_grammar.specs.Stretches.{no_head, IsRun, IsStretch, ends_stretch}
use Rattle.redl_grammar.specs.Pieces.{stretch}
use Rattle.redl_grammar.specs.ScanStretches.{stretch_at}
use Rattle.redl_grammar.proofs.Attributes.{is_filled-some}
use Rattle.redl_grammar.proofs.Stretches.{stretch_again}

abbrev plain : ℕ → Bool
plain = is_none_of 60 38 93

no_tag : (a : List ℕ) → list_all plain a ≡ true → list_all (is_other 60) a ≡ true
no_tag [] all = refl
no_tag (b ∷ bs) all =
    let both = and_parts (plain b) (list_all plain bs) all in
    and_from (is_other 60 b) (list_all (is_other 60) bs) (here (eqb b 60) (eqb b 38) (eqb b 93) both.0) (no_tag bs both.1) where
      here : (x y z : Bool) → not (x || y || z) ≡ true → not x ≡ true
      here false y z h = refl
      here true y z h = h

no_reference : (a : List ℕ) → list_all plain a ≡ true → has_references a ≡ true
no_reference [] all = refl
no_reference (b ∷ bs) all =
    let both = and_parts (plain b) (list_all plain bs) all in
    and_from (not (eqb b 38) || is_there (reference_at bs)) (has_references bs) (here (eqb b 60) (eqb b 38) (eqb b 93) (is_there (reference_at bs)) both.0) (no_reference bs both.1) where
      here : (x y z t : Bool) → not (x || y || z) ≡ true → (not y || t) ≡ true
      here x false z t h = refl
      here false true z t h = absurd cc
      here true true z t h = absurd cc

no_close : (a : List ℕ) → list_all plain a ≡ true → lacks (codes "]]>") a ≡ true
no_close [] all = refl
no_close (b ∷ bs) all =
    let both = and_parts (plain b) (list_all plain bs) all in
    and_from (not (begins (codes "]]>") (b ∷ bs))) (lacks (codes "]]>") bs) (here (eqb b 60) (eqb b 38) (eqb b 93) (begins (93 ∷ 62 ∷ []) bs) both.0) (no_close bs both.1) where
      here : (x y z t : Bool) → not (x || y || z) ≡ true → not (z && t) ≡ true
      here x y false t h = refl
      here false false true t h = absurd cc
      here false true true t h = absurd cc
      here true y true t h = absurd cc

pub plain_is_stretch : (bs text rest : List ℕ) → text ≡ front plain bs → rest ≡ after plain bs → is_filled text ≡ true → ends_stretch rest ≡ true → stretch_at InElement bs ≡ Some (stretch text, rest)
plain_is_stretch bs text rest e f some ends =
    let filled : text ≢ [] = is_filled-some text some in
    let all : list_all plain text ≡ true = ap (list_all plain) e ∙ front_passes plain bs in
    let whole : bs ≡ text ++ rest = sym (front-after plain bs) ∙ ap (λ (z : List ℕ). z ++ after plain bs) (sym e) ∙ ap (λ (z : List ℕ). text ++ z) (sym f) in
    let run : IsRun InElement text = record { no_tag = no_tag text all; allowed = and_from (has_references text) (lacks (codes "]]>") text) (no_reference text all) (no_close text all) } in
    let is : IsStretch InElement text = record { head = no_head; first = text; more = []; is_head = refl; first_run = run; each = tt; whole = sym (append-nil text); filled = filled } in
    ap (stretch_at InElement) whole ∙ stretch_again InElement text rest is ends
