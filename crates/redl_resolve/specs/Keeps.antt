-- What a pass keeps of any package: the text that survives, and the nine rules of structure (our own rules, so that what a
-- decision leaves is a document again; ECMA-376 Part 1, 17.4 and 17.13.5). `given` is a package whose elements have the
-- kinds and numbers that its index gives them, and `result` is what the pass makes of it. Attributes are read by a crate
-- above, so both hold for every reader of attributes.
use Rattle.std.specs.Prelude.{◌≡◌, ℕ, List, Bool, true, map}
use Rattle.redl_tree.specs.Revisions.Markers.{Value}
use Rattle.redl_tree.specs.Model.Nodes.{Nodes}
use Rattle.redl_tree.specs.Revisions.Numbers.{IsIndexed}
use Rattle.redl_tree.specs.Decisions.Packages.{stories}
use Rattle.redl_tree.specs.Rules.Sound.{tests, holds, is_sound, test_1, test_2, test_3, test_4, test_5, test_6, test_7, test_8, test_9}
use Rattle.redl_tree.specs.Decisions.Survivors.{text_pieces, survivors}
use Rattle.redl_tree.specs.Model.View.{Element}
use Rattle.redl_tree.specs.declared.kinds.Say.{Say}

-- the text pieces of the stories are those of the original that survive, byte for byte and in their order
abbrev pub KeepsText : List Say → Nodes → Nodes → Type 0
KeepsText says given result =
    (value : Value) → IsIndexed value given → map text_pieces (stories result) ≡ map (survivors says) (stories given)

-- stories follow all rules of structure
pub record FollowRules (has_id declares : List ℕ → Bool) (parts : List Element) : Type 0 where
  -- rule 1: a cell ends in a paragraph
  pub rule_1 : holds test_1 parts ≡ true
  -- rule 2: a row has a cell
  pub rule_2 : holds test_2 parts ≡ true
  -- rule 3: content revisions hold run content
  pub rule_3 : holds test_3 parts ≡ true
  -- rule 4: properties have one change, in the last place
  pub rule_4 : holds test_4 parts ≡ true
  -- rule 5: a paragraph's mark, a row and a cell are marked once in each way
  pub rule_5 : holds test_5 parts ≡ true
  -- rule 6: properties come once, and in their place
  pub rule_6 : holds test_6 parts ≡ true
  -- rule 7: markers of moves are empty
  pub rule_7 : holds (test_7 has_id) parts ≡ true
  -- rule 8: a change holds former properties alone
  pub rule_8 : holds test_8 parts ≡ true
  -- rule 9: what may move or vanish declares no namespace
  pub rule_9 : holds (test_9 declares) parts ≡ true

-- where the package is sound, the stories of the result follow all rules of structure again
abbrev pub KeepsRules : Nodes → Nodes → Type 0
KeepsRules given result =
    (value : Value) → (has_id declares : List ℕ → Bool) → IsIndexed value given → is_sound (tests has_id declares) given ≡ true
    → FollowRules has_id declares (stories result)
