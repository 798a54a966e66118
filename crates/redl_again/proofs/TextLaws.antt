-- How long the text of an element is, by its tags and its kids.
use Rattle.std.proofs.Common.{◌≡◌, ◌∙◌, refl, sym, ap, ℕ, ◌+◌, List, [], ◌∷◌, ◌++◌, length, length-append, arith}
use Rattle.redl_tree.specs.Model.Nodes.{Empty, End}
use Rattle.redl_tree.specs.Model.Starts.{Start}
use Rattle.redl_tree.specs.Model.Text.{element_text, name_text, prefix_text}
use Rattle.redl_tree.specs.Model.View.{tagged}

pub length-name : (prefix local : List ℕ) → length (name_text prefix local) ≡ length (prefix_text prefix) + length local
length-name prefix local = length-append (prefix_text prefix) local

-- of one that is closed in its start tag
pub length-empty : (tag : Start) (kids : List ℕ) → length (element_text (tagged tag Empty) kids) ≡ length (name_text tag.prefix tag.local) + length tag.tail + 3
length-empty tag kids =
    let name = name_text tag.prefix tag.local in
    omega (arith, length-append (60 ∷ (name ++ tag.tail)) (47 ∷ 62 ∷ []), length-append name tag.tail)

-- of one with an end tag
pub length-ended : (tag : Start) (white kids : List ℕ) → length (element_text (tagged tag (End white)) kids)
    ≡ length kids + length (name_text tag.prefix tag.local) + length (name_text tag.prefix tag.local) + length tag.tail + length white + 5
length-ended tag white kids =
    let name = name_text tag.prefix tag.local in
    let end_tag = 60 ∷ 47 ∷ (name ++ (white ++ (62 ∷ []))) in
    omega (
      arith,
      length-append (60 ∷ (name ++ tag.tail)) (62 ∷ (kids ++ end_tag)),
      length-append name tag.tail,
      length-append kids end_tag,
      length-append name (white ++ (62 ∷ [])),
      length-append white (62 ∷ []),
    )
