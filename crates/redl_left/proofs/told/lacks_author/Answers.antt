-- A text without two bytes of a word lacks the word.
use Rattle.std.proofs.Common.{◌∙◌, ◌∷◌, [], sym, codes}
use Rattle.std.proofs.lemmas.Bool.{and_parts}
use Rattle.redl_pairs.proofs.WordLaws.{lacks-longer}
use Rattle.redl_reading.specs.Lists.{lacks}
use Rattle.redl_left.proofs.AttributeLaws.{lacks-behind}
use Rattle.redl_left.proofs.told.lacks_author.Goals as goal

pub returns : goal.returns
returns c = λ none.
    let t = c.args.tail.now in
    let pair = and_parts (lacks (116 ∷ 104 ∷ []) t) (lacks (116 ∷ 104 ∷ []) t) (sym c.lacks_pairs.ensures ∙ none) in
    lacks-behind 97 117 (codes "thor") t (lacks-behind 117 116 (codes "hor") t (lacks-longer 116 (104 ∷ []) (codes "or") t pair.0))
