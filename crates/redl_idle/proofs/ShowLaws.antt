-- The loop that shows the nodes with which a text begins, one after the other.
use Rattle.std.proofs.Common.{◌≡◌, ℕ, true, false, List, [], ◌++◌, Some, Result, Ok, Err, refl, sym, ap, subst, ◌∙◌}
use Rattle.std.specs.Prelude.{IsErrAnd}
use Rattle.redl_grammar.specs.declared.section.Section.TheVariants.{InElement}
use Rattle.redl_grammar.specs.Pieces.{Piece}
use Rattle.redl_grammar.specs.ScanPieces.{piece_at}
use Rattle.redl_tree.specs.Model.Nodes.{Nodes}
use Rattle.redl_idle.specs.Shows.{ShowRule, shows, element_shows}
use Rattle.redl_idle.specs.Takes.{Taking, Takes}
use Rattle.redl_idle.specs.Ahead.{Begins, IsNode, node_shows, after_node, behind, is_end_tag}
use Rattle.redl_idle.proofs.AheadLaws.{EndsHere, first, at_end}
use Rattle.redl_idle.proofs.TakeLaws.{TakesSoFar, so_far_begins, so_far_goes_on, so_far_stops, so_far_ends}

module _ {K E Below : Type 0} (taking : Taking K E) (rule : ShowRule Below) (below : Below) where
  -- the nodes with which this text begins are those that are left to be shown
  pub record IsLeft (old new : K) (t left : List ℕ) (begin : Begins t) : Type 0 where
    pub begins : Begins left
    pub same : begins.ending ≡ begin.ending
    pub puts : TakesSoFar taking old new (shows rule below begin.nodes) (shows rule below begins.nodes)

  pub all_left : (taker : K) (t : List ℕ) (begin : Begins t) → IsLeft taker taker t t begin
  all_left taker t begin = record { begins = begin; same = refl; puts = so_far_begins taking taker (shows rule below begin.nodes) }

  -- ---- one node more, of which this is the first piece

  pub node_here : (old new : K) (t left : List ℕ) (begin : Begins t) → IsLeft old new t left begin → (piece : Piece) (rest : List ℕ)
      → piece_at InElement left ≡ Some (piece, rest) → is_end_tag piece ≡ false → IsNode piece rest
  node_here old new t left begin l piece rest read goes = ((first rule below left l.begins (piece, rest) read).goes_on goes).node

  pub one_more : {T : Type 0} (old mid new : K) (t left : List ℕ) (begin : Begins t) → IsLeft old mid t left begin → (piece : Piece) (rest : List ℕ)
      → piece_at InElement left ≡ Some (piece, rest) → is_end_tag piece ≡ false → (after : List ℕ) (x : T)
      → ((node : IsNode piece rest) → Takes taking mid new (node_shows rule below piece rest node) (Ok x))
      → ((node : IsNode piece rest) → after ≡ after_node piece rest node) → IsLeft old new t after begin
  one_more old mid new t left begin l piece rest read goes after x puts is =
      let f = (first rule below left l.begins (piece, rest) read).goes_on goes in
      let P : List ℕ → Type 0 = λ s. IsLeft old new t s begin in
      subst P (sym (is f.node)) (record {
        begins = f.later;
        same = f.same ∙ l.same;
        puts = so_far_goes_on taking (node_shows rule below piece rest f.node) (shows rule below f.later.nodes) f.splits l.puts (puts f.node);
      })

  pub node_stops : {T U : Type 0} (old mid new : K) (t left : List ℕ) (begin : Begins t) → IsLeft old mid t left begin → (piece : Piece) (rest : List ℕ)
      → piece_at InElement left ≡ Some (piece, rest) → is_end_tag piece ≡ false → (failed : E) (r : Result U E) → IsErrAnd r (λ f. f ≡ failed)
      → ((node : IsNode piece rest) → Takes {T = T} taking mid new (node_shows rule below piece rest node) (Err failed))
      → Takes taking old new (shows rule below begin.nodes) r
  node_stops old mid new t left begin l piece rest read goes failed r err puts =
      let f = (first rule below left l.begins (piece, rest) read).goes_on goes in
      so_far_stops taking (node_shows rule below piece rest f.node) (shows rule below f.later.nodes) f.splits err l.puts (puts f.node)

  -- ---- no node more

  -- all was shown, and this follows the end
  pub record AllShown {T : Type 0} (old new : K) (t rest : List ℕ) (begin : Begins t) (x : T) : Type 0 where
    pub puts : Takes taking old new (shows rule below begin.nodes) (Ok x)
    pub left : rest ≡ behind begin.ending

  shown_by : {T : Type 0} (old new : K) (t left rest : List ℕ) (begin : Begins t) (x : T) (l : IsLeft old new t left begin)
      → EndsHere l.begins.nodes l.begins.ending rest → AllShown old new t rest begin x
  shown_by old new t left rest begin x l e = record {
    puts = so_far_ends taking (ap (shows rule below) e.none) l.puts;
    left = e.left ∙ ap behind l.same;
  }

  pub shown_to_tag : {T : Type 0} (old new : K) (t left : List ℕ) (begin : Begins t) → IsLeft old new t left begin → (piece : Piece) (rest : List ℕ)
      → piece_at InElement left ≡ Some (piece, rest) → is_end_tag piece ≡ true → (x : T) → AllShown old new t rest begin x
  shown_to_tag old new t left begin l piece rest read ends x =
      shown_by old new t left rest begin x l ((first rule below left l.begins (piece, rest) read).ends ends)

  pub shown_to_end : {T : Type 0} (old new : K) (t left : List ℕ) (begin : Begins t) → IsLeft old new t left begin → left ≡ [] → (x : T) → AllShown old new t left begin x
  shown_to_end old new t left begin l e x = shown_by old new t left left begin x l (at_end left l.begins e)

  -- ---- one element

  -- the same with what the code hands down
  pub element-inside : (local tail : List ℕ) (kids : Nodes) (inside : Below) → inside ≡ rule.inside below local tail kids
      → element_shows rule below local tail kids ≡ rule.start below local tail kids ++ (shows rule inside kids ++ rule.end inside)
  element-inside local tail kids inside e = ap (λ (i : Below). rule.start below local tail kids ++ (shows rule i kids ++ rule.end i)) (sym e)

  -- the same by the name and the tail of its tag
  pub by_tag : {T : Type 0} (old new : K) (local own tail rest : List ℕ) (kids : Nodes) (r : Result T E) → local ≡ own → tail ≡ rest
      → Takes taking old new (element_shows rule below local tail kids) r → Takes taking old new (element_shows rule below own rest kids) r
  by_tag old new local own tail rest kids r l t puts =
      subst (λ n. Takes taking old new (element_shows rule below n rest kids) r) l
      (subst (λ s. Takes taking old new (element_shows rule below local s kids) r) t puts)
