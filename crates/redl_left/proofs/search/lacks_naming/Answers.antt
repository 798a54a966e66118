-- A text without the first two bytes of a word lacks the word.
use Rattle.std.proofs.Common.{◌∙◌, [], ◌∷◌, sym}
use Rattle.std.specs.Prelude.{codes}
use Rattle.std.proofs.lemmas.Bool.{and_parts, and_from}
use Rattle.redl_reading.specs.Lists.{lacks}
use Rattle.redl_pairs.proofs.WordLaws.{lacks-longer}
use Rattle.redl_left.proofs.search.lacks_naming.Goals as goal

pub returns-then-lacks_pairs : goal.returns-then-lacks_pairs
returns-then-lacks_pairs c =
    let t = c.args.text.now in
    let none = and_parts (lacks (97 ∷ 117 ∷ []) t) (lacks (82 ∷ 101 ∷ []) t) (sym c.lacks_pairs.ensures ∙ c.if-lacks_pairs.true) in
    sym (and_from (lacks (codes "author") t) (lacks (codes "Reference") t)
    (lacks-longer 97 (117 ∷ []) (codes "thor") t none.0) (lacks-longer 82 (101 ∷ []) (codes "ference") t none.1))
