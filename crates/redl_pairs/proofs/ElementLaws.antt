-- A word that is nowhere in the text of nodes is in no name and in no tail of theirs.
use Rattle.std.proofs.Common.{◌≡◌, refl, ap, ℕ, List, [], ◌∷◌, ◌++◌, Bool, true, codes}
use Rattle.redl_reading.specs.Lists.{lacks}
use Rattle.redl_tree.specs.Model.Laid.{ClosesBy}
use Rattle.redl_tree.specs.Model.Nodes.{Tag, Nodes, no_nodes, bytes, element, Close, Empty, End}
use Rattle.redl_tree.specs.Model.Text.{text, element_text, end_text, name_text, prefix_text, rest_text, start_text}
use Rattle.redl_pairs.proofs.WordLaws.{lacks-front, lacks-rest}

-- nodes that begin with an element
pub record Lacking (w : ℕ) (ws : List ℕ) (tag : Tag) (kids rest : Nodes) : Type 0 where
  pub local : lacks (w ∷ ws) tag.local ≡ true
  pub tail : lacks (w ∷ ws) tag.tail ≡ true
  pub below : lacks (w ∷ ws) (text kids) ≡ true
  pub later : lacks (w ∷ ws) (text rest) ≡ true

module _ (w : ℕ) (ws : List ℕ) where
  abbrev Lacks : List ℕ → Type 0
  Lacks t = lacks (w ∷ ws) t ≡ true

  front : (x y : List ℕ) → Lacks (x ++ y) → Lacks x
  front x y h = lacks-front w ws x y h

  behind : (x y : List ℕ) → Lacks (x ++ y) → Lacks y
  behind x y h = lacks-rest w ws x y h

  kids_lack : (tag : Tag) (close : Close) (kids : Nodes) → ClosesBy close kids → Lacks (start_text tag ++ rest_text tag close (text kids)) → Lacks (text kids)
  kids_lack tag Empty kids closed h = ap (λ (x : Nodes). lacks (w ∷ ws) (text x)) closed
  kids_lack tag (End space) kids closed h =
      let rest = text kids ++ end_text tag space in
      front (text kids) (end_text tag space) (behind (62 ∷ []) rest (behind (start_text tag) ((62 ∷ []) ++ rest) h))

  -- where the text of an element lacks the word, its tag, its kids and what comes after it lack it
  pub lacking : (tag : Tag) (kids rest : Nodes) → ClosesBy tag.close kids → Lacks (text (element tag kids rest)) → Lacking w ws tag kids rest
  lacking tag kids rest closed h =
      let own = front (element_text tag (text kids)) (text rest) h in
      let name = name_text tag.prefix tag.local in
      let start = behind (60 ∷ []) (name ++ tag.tail) (front (start_text tag) (rest_text tag tag.close (text kids)) own) in
      record {
        local = behind (prefix_text tag.prefix) tag.local (front name tag.tail start);
        tail = behind name tag.tail start;
        below = kids_lack tag tag.close kids closed own;
        later = behind (element_text tag (text kids)) (text rest) h;
      }
