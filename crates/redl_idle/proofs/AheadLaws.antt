-- What the first piece of a text tells of the nodes with which it begins.
use Rattle.std.proofs.Common.{◌≡◌, ◌≢◌, ◌≤◌, inl, ℕ, Bool, true, false, List, [], ◌∷◌, ◌++◌, length, Option, Some, None, refl, sym, ap, subst, ◌∙◌, arith, append-nil, length-append, codes, true≢false, if◌then◌else◌}
use Rattle.std.proofs.lemmas.Bool.{and_parts, eqb-true}
use Rattle.std.proofs.lemmas.Option.{same_Some}
use Rattle.redl_grammar.specs.declared.section.Section.TheVariants.{InElement}
use Rattle.redl_grammar.specs.References.{is_there}
use lib.Utf8.{encode}
use Rattle.redl_grammar.specs.Characters.{is_name_start}
use Rattle.redl_grammar.specs.Names.{name_text, may_start, are_distinct}
use Rattle.redl_grammar.specs.Pieces.{Piece, start_tag, empty_tag, end_tag, stretch, piece_then}
use Rattle.redl_grammar.specs.ScanPieces.{piece_at}
use Rattle.redl_grammar.specs.Stretches.{ends_stretch}
use Rattle.redl_grammar.proofs.Pieces.{piece_again, piece_shorter, end_ends_stretch}
use Rattle.redl_tree.specs.Model.Nodes.{Tag, Nodes, no_nodes, bytes, element, Close, Empty, End}
use Rattle.redl_tree.specs.Model.Elements.{elements}
use Rattle.redl_tree.specs.Model.Folds.{nodes_at, nodes_in}
use Rattle.redl_tree.specs.Model.IdleTexts.{is_idle_text, idle_nodes}
use Rattle.redl_tree.specs.Model.Laid.{name_of, ClosesBy, IsLaidTag, AreLaid}
use Rattle.redl_tree.specs.Model.Text.{text}
use Rattle.redl_tree.specs.Roles.Idle.{is_idle}
use Rattle.redl_tree.specs.Roles.Names.{of_w}
use Rattle.redl_tree.specs.declared.kinds.Space.TheVariants.{W}
use Rattle.redl_tree.proofs.Reading.FoldLaws.{laid_end_stretch, nodes_are_laid}
use Rattle.redl_tree.proofs.Model.TreeTexts.{tree_then, tree-then}
use Rattle.std.specs.Prelude.{◌&&◌, ◌==◌, not, IsSome}
use Rattle.redl_reading.specs.Steps.{Gives}
use Rattle.redl_idle.specs.Shows.{ShowRule, shows, element_shows}
use Rattle.redl_idle.specs.Ahead.{Ending, text_end, tag_end, ending_text, behind, IsEnding, Begins, IsNode, node_shows, after_node, is_end_tag}

-- ---- the first piece

abbrev close_first : Tag → Close → Nodes → Nodes → Ending → Piece × List ℕ
close_first tag Empty kids more ending = (empty_tag (name_of tag) tag.tail, tree_then more (ending_text ending))
close_first tag (End white) kids more ending =
    (start_tag (name_of tag) tag.tail, tree_then kids (piece_then (end_tag (name_of tag) white) (tree_then more (ending_text ending))))

abbrev first_piece : Nodes → Ending → Option (Piece × List ℕ)
first_piece no_nodes text_end = None
first_piece no_nodes (tag_end name white rest) = Some (end_tag name white, rest)
first_piece (bytes b more) ending = Some (stretch b, tree_then more (ending_text ending))
first_piece (element tag kids more) ending = Some (close_first tag tag.close kids more ending)

no_piece : (o : Option (Piece × List ℕ)) → piece_at InElement [] ≡ o → o ≡ None
no_piece None e = refl
no_piece (Some x) e = let h = piece_shorter InElement [] x e in absurd (omega (arith, h))

ends : (ending : Ending) → ends_stretch (ending_text ending) ≡ true
ends text_end = refl
ends (tag_end name white rest) = end_ends_stretch (name_text name ++ (white ++ (62 ∷ rest)))

close_read : (tag : Tag) (kids more : Nodes) (ending : Ending) (close : Close) → tag.close ≡ close → IsLaidTag W tag → ClosesBy close kids
    → piece_at InElement (tree_then (element (record tag { close = close }) kids more) (ending_text ending)) ≡ Some (close_first tag close kids more ending)
close_read tag kids more ending Empty e h fits =
    piece_again InElement (empty_tag (name_of tag) tag.tail) (tree_then more (ending_text ending)) (h.name, h.tail) tt
close_read tag kids more ending (End white) e h fits =
    piece_again InElement (start_tag (name_of tag) tag.tail) (tree_then kids (piece_then (end_tag (name_of tag) white) (tree_then more (ending_text ending)))) (h.name, h.tail) tt

first_read : (nodes : Nodes) (ending : Ending) → AreLaid W nodes → IsEnding ending → piece_at InElement (tree_then nodes (ending_text ending)) ≡ first_piece nodes ending
first_read no_nodes text_end h legal = no_piece (piece_at InElement []) refl
first_read no_nodes (tag_end name white rest) h legal = piece_again InElement (end_tag name white) rest legal tt
first_read (bytes b more) ending h legal =
    piece_again InElement (stretch b) (tree_then more (ending_text ending)) h.0 (laid_end_stretch W more (ending_text ending) h.2 h.1 (λ e. ends ending))
first_read (element tag kids more) ending h legal = close_read tag kids more ending tag.close refl h.0 h.1

begin_read : (t : List ℕ) (b : Begins t) → piece_at InElement t ≡ first_piece b.nodes b.ending
begin_read t b = ap (piece_at InElement) (b.whole ∙ tree-then b.nodes (ending_text b.ending)) ∙ first_read b.nodes b.ending b.laid b.legal

-- ---- what it tells

-- it begins a node, after which the others come
pub record GoesOn {Below : Type 0} (rule : ShowRule Below) (below : Below) (nodes : Nodes) (ending : Ending) (piece : Piece) (rest : List ℕ) : Type 0 where
  pub node : IsNode piece rest
  pub later : Begins (after_node piece rest node)
  pub same : later.ending ≡ ending
  pub splits : shows rule below nodes ≡ node_shows rule below piece rest node ++ shows rule below later.nodes

-- there are no more
pub record EndsHere (nodes : Nodes) (ending : Ending) (rest : List ℕ) : Type 0 where
  pub none : nodes ≡ no_nodes
  pub left : rest ≡ behind ending

pub record First {Below : Type 0} (rule : ShowRule Below) (below : Below) (nodes : Nodes) (ending : Ending) (piece : Piece) (rest : List ℕ) : Type 0 where
  pub ends : is_end_tag piece ≡ true → EndsHere nodes ending rest
  pub goes_on : is_end_tag piece ≡ false → GoesOn rule below nodes ending piece rest

abbrev begins_of : (more : Nodes) (ending : Ending) → AreLaid W more → IsEnding ending → Begins (tree_then more (ending_text ending))
begins_of more ending h legal = record {
  nodes = more;
  ending = ending;
  whole = sym (tree-then more (ending_text ending));
  laid = h;
  legal = legal;
}

module _ {Below : Type 0} (rule : ShowRule Below) (below : Below) where
  close_goes_on : (tag : Tag) (kids more : Nodes) (ending : Ending) (close : Close) → IsLaidTag W tag → ClosesBy close kids → AreLaid W kids → AreLaid W more → IsEnding ending
      → First rule below (element tag kids more) ending (close_first tag close kids more ending).0 (close_first tag close kids more ending).1
  close_goes_on tag kids more ending Empty h none k m legal = record {
    ends = λ e. absurd cc;
    goes_on = λ e. record {
      node = tt;
      later = begins_of more ending m legal;
      same = refl;
      splits = ap (λ (x : Nodes). element_shows rule below tag.local tag.tail x ++ shows rule below more) none;
    };
  }
  close_goes_on tag kids more ending (End white) h fits k m legal =
      let rest = tree_then more (ending_text ending) in
      record {
        ends = λ e. absurd cc;
        goes_on = λ e. record {
          node = begins_of kids (tag_end (name_of tag) white rest) k (h.name, fits);
          later = begins_of more ending m legal;
          same = refl;
          splits = refl;
        };
      }

  first_of : (nodes : Nodes) (ending : Ending) → AreLaid W nodes → IsEnding ending → (x : Piece × List ℕ) → first_piece nodes ending ≡ Some x
      → First rule below nodes ending x.0 x.1
  first_of no_nodes text_end h legal x e = absurd cc
  first_of no_nodes (tag_end name white rest) h legal x e =
      let P : Piece × List ℕ → Type 0 = λ y. First rule below no_nodes (tag_end name white rest) y.0 y.1 in
      subst P (same_Some (end_tag name white, rest) x e) (record { ends = λ e. record { none = refl; left = refl }; goes_on = λ e. absurd cc })
  first_of (bytes b more) ending h legal x e =
      let P : Piece × List ℕ → Type 0 = λ y. First rule below (bytes b more) ending y.0 y.1 in
      subst P (same_Some (stretch b, tree_then more (ending_text ending)) x e) (record {
        ends = λ e. absurd cc;
        goes_on = λ e. record { node = tt; later = begins_of more ending h.2 legal; same = refl; splits = refl };
      })
  first_of (element tag kids more) ending h legal x e =
      let P : Piece × List ℕ → Type 0 = λ y. First rule below (element tag kids more) ending y.0 y.1 in
      subst P (same_Some (close_first tag tag.close kids more ending) x e) (close_goes_on tag kids more ending tag.close h.0 h.1 h.2 h.3 legal)

  -- the first piece of a text is the end tag after the nodes, or begins the first node
  pub first : (t : List ℕ) (b : Begins t) (x : Piece × List ℕ) → piece_at InElement t ≡ Some x → First rule below b.nodes b.ending x.0 x.1
  first t b x e = first_of b.nodes b.ending b.laid b.legal x (sym (begin_read t b) ∙ e)

nodes_there : (nodes : Nodes) (ending : Ending) → (tree_then nodes (ending_text ending) ≢ []) → is_there (first_piece nodes ending) ≡ true
nodes_there no_nodes text_end some = absurd (some refl)
nodes_there no_nodes (tag_end name white rest) some = refl
nodes_there (bytes b more) ending some = refl
nodes_there (element tag kids more) ending some = refl

-- there is one, unless the text is empty
pub first_there : (t : List ℕ) → Begins t → t ≢ [] → is_there (piece_at InElement t) ≡ true
first_there t b some =
    ap is_there (begin_read t b) ∙ nodes_there b.nodes b.ending (λ e. some (b.whole ∙ tree-then b.nodes (ending_text b.ending) ∙ e))

-- an empty text has no nodes, and ends with them
none_left : (nodes : Nodes) (ending : Ending) → first_piece nodes ending ≡ None → EndsHere nodes ending []
none_left no_nodes text_end e = record { none = refl; left = refl }
none_left no_nodes (tag_end name white rest) e = absurd cc
none_left (bytes b more) ending e = absurd cc
none_left (element tag kids more) ending e = absurd cc

pub at_end : (t : List ℕ) (b : Begins t) → t ≡ [] → EndsHere b.nodes b.ending t
at_end t b e =
    let P : List ℕ → Type 0 = λ s. EndsHere b.nodes b.ending s in
    subst P (sym e) (none_left b.nodes b.ending (sym (begin_read t b) ∙ ap (piece_at InElement) e ∙ no_piece (piece_at InElement []) refl))

-- ---- texts get shorter

behind_short : (ending : Ending) → length (behind ending) ≤ length (ending_text ending)
behind_short text_end = omega arith
behind_short (tag_end name white rest) =
    omega (arith, length-append (name_text name) (white ++ (62 ∷ rest)), length-append white (62 ∷ rest))

pub begins_short : (t : List ℕ) (b : Begins t) → length (behind b.ending) ≤ length t
begins_short t b = omega (arith, ap length b.whole, length-append (text b.nodes) (ending_text b.ending), behind_short b.ending)

pub after_short : (piece : Piece) (rest : List ℕ) (node : IsNode piece rest) → length (after_node piece rest node) ≤ length rest
after_short (start_tag name tail) rest node = begins_short rest node
after_short (empty_tag name tail) rest node = omega arith
after_short (stretch b) rest node = omega arith
after_short (end_tag name white) rest node = omega arith

-- ---- the text of idle elements

run_laid : AreLaid W (element (of_w (codes "r")) no_nodes no_nodes)
unfolding may_start is_name_start encode are_distinct
run_laid = (
  record {
    name = record {
      prefix = inl refl;
      local = record { first = 114; more = []; start = refl; each = refl; scalars = refl; whole = refl };
    };
    tail = record { attributes = []; space = []; each = tt; is_space = refl; distinct = refl; whole = refl };
    of_space = refl;
    kind = refl;
    rev = refl;
  },
  refl,
  tt,
  tt,
)

-- the nodes of an idle text are laid out as their text says
pub idle_laid : (t : List ℕ) → AreLaid W (idle_nodes t)
unfolding idle_nodes
idle_laid t = by (is_idle_text t) refl where
  by : (b : Bool) → is_idle_text t ≡ b → AreLaid W (if b then nodes_in W t else element (of_w (codes "r")) no_nodes no_nodes)
  by true e = nodes_are_laid W t (and_parts (is_there (nodes_at W t)) (is_idle (nodes_in W t) && not (elements (nodes_in W t) == 0)) e).0
  by false e = run_laid

abbrev pub idle_begins : (t own : List ℕ) → text (idle_nodes t) ≡ own → Begins own
idle_begins t own e = record {
  nodes = idle_nodes t;
  ending = text_end;
  whole = sym (append-nil (text (idle_nodes t)) ∙ e);
  laid = idle_laid t;
  legal = tt;
}

-- ---- what the calls tell

pub there_gives : {X Y : Type 0} (view : X → Y) (o : Option X) (read : Option Y) → Gives view o read → is_there read ≡ true → IsSome {T = X} o
there_gives view None read g h = absurd (true≢false (sym h ∙ ap is_there g))
there_gives view (Some x) read g h = refl

pub gives_this : {X Y : Type 0} (view : X → Y) (o : Option X) (read : Option Y) (x : X) → Gives view o read → o ≡ Some x → read ≡ Some (view x)
gives_this view None read x g e = absurd cc
gives_this view (Some y) read x g e = g ∙ ap (λ z. Some (view z)) (same_Some y x e)

-- the empty text has no nodes
abbrev pub none_ahead : Begins []
none_ahead = record { nodes = no_nodes; ending = text_end; whole = refl; laid = tt; legal = tt }

-- whether there are bytes
pub some_bytes : (b : Bool) (xs : List ℕ) → b ≡ (length xs == 0) → b ≡ false → xs ≢ []
some_bytes b xs h e none = true≢false (sym (ap (λ (l : List ℕ). length l == 0) none) ∙ sym h ∙ e)

pub no_bytes : (b : Bool) (xs : List ℕ) → b ≡ (length xs == 0) → b ≡ true → xs ≡ []
no_bytes b [] h e = refl
no_bytes b (x ∷ xs) h e = let none = eqb-true (length (x ∷ xs)) 0 (sym h ∙ e) in absurd (omega (arith, none))
