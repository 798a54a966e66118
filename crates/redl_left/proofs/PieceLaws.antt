-- A kept text is pieces, and what they are found to be is what its nodes are found to be.
use Rattle.std.proofs.Common.{◌≡◌, ◌≢◌, ◌∙◌, refl, sym, ap, subst, ℕ, List, [], ◌∷◌, ◌++◌, ◌<◌, length, append_assoc, append-nil, Bool, true, false, true≢false, not, ◌==◌, arith, Option, None, Some}
use Rattle.std.proofs.lemmas.Bool.{and_parts, eqb-true}
use Rattle.std.proofs.lemmas.Option.{same_Some}
use Rattle.std.specs.Prelude.{IsSome}
use Rattle.redl_grammar.specs.declared.section.Section.TheVariants.{InElement}
use Rattle.redl_grammar.specs.Names.{Name, name_text}
use Rattle.redl_grammar.specs.Pieces.{Piece, start_tag, empty_tag, end_tag, stretch, piece_then, IsPiece, Stands}
use Rattle.redl_grammar.specs.References.{is_there}
use Rattle.redl_grammar.specs.ScanPieces.{piece_at}
use Rattle.redl_grammar.specs.Stretches.{Head, IsStretch, Item, comment, instruction, cdata, begins_item, ends_stretch, head_then, item_then, items_then}
use Rattle.redl_grammar.proofs.Items.{item_begins}
use Rattle.redl_grammar.proofs.Pieces.{end_ends_stretch, one_piece, piece_shorter, piece_takes, stands_is_read}
use Rattle.redl_reading.specs.Lists.{after, before, front, is_other}
use Rattle.redl_grammar.proofs.Stretches.{whole_then}
use Rattle.redl_reading.specs.Steps.{Gives}
use Rattle.redl_reading.proofs.Runs.{after_again, front-after, front_again, stops}
use Rattle.redl_reading.proofs.Words.{before-append}
use Rattle.redl_tree.specs.Model.IdleTexts.{is_idle_text, idle_nodes}
use Rattle.redl_tree.specs.Model.Laid.{AreLaid, ClosesBy, IsLaidTag, name_of}
use Rattle.redl_tree.specs.Model.Nodes.{Tag, Nodes, no_nodes, bytes, element, Close, Empty, End}
use Rattle.redl_tree.specs.Model.Text.{text}
use Rattle.redl_tree.specs.Roles.Idle.{is_idle_in}
use Rattle.redl_tree.specs.Roles.Names.{is}
use Rattle.redl_tree.specs.declared.kinds.Space.TheVariants.{W}
use Rattle.redl_tree.proofs.Idle.Items.{laid_nodes, nodes_are_idle}
use Rattle.redl_tree.proofs.Idle.Tags.{idle_parts}
use Rattle.redl_tree.proofs.Model.TreeTexts.{close_then, tree_then, tree-then}
use Rattle.redl_tree.proofs.Reading.FoldLaws.{always_laid, laid_end_stretch}
use Rattle.redl_left.specs.Finds.{Find, Table, finds, found, found_idle, found_text}
use Rattle.redl_left.specs.Lines.{noted_all}
use Rattle.redl_left.specs.Pieces.{ArePieces, HasPieces, IsKnown, IsTagText, Took, Ahead, pieces_finds, pieces_text, piece_finds}
use Rattle.redl_left.specs.Search.{table_of}
use Rattle.redl_left.specs.declared.line.Line.{Line}
use Rattle.redl_left.specs.declared.search.Search.{Search}
use Rattle.redl_left.proofs.FindLaws.{found_so, part_idle}
use Rattle.redl_left.proofs.NotedLaws.{noted-append}

-- ---- the pieces of nodes

-- an element's pieces, where its kids put theirs before what follows them
abbrev closed_pieces : Tag → Close → (List Piece → List Piece) → List Piece → List Piece
closed_pieces tag Empty kids more = empty_tag (name_of tag) tag.tail ∷ more
closed_pieces tag (End white) kids more = start_tag (name_of tag) tag.tail ∷ kids (end_tag (name_of tag) white ∷ more)

-- the pieces of nodes, and then these
abbrev pub pieces_then : Nodes → List Piece → List Piece
pieces_then no_nodes more = more
pieces_then (bytes b rest) more = stretch b ∷ pieces_then rest more
pieces_then (element tag kids rest) more = closed_pieces tag tag.close (pieces_then kids) (pieces_then rest more)

-- ---- their text

closed-text : (tag : Tag) (close : Close) (kids : Nodes) (more : List Piece) (y : List ℕ)
    → ((m : List Piece) → pieces_text (pieces_then kids m) ≡ tree_then kids (pieces_text m)) → pieces_text more ≡ y
    → pieces_text (closed_pieces tag close (pieces_then kids) more) ≡ 60 ∷ (name_text (name_of tag) ++ (tag.tail ++ close_then tag close (tree_then kids) y))
closed-text tag Empty kids more y inner e = ap (λ (w : List ℕ). 60 ∷ (name_text (name_of tag) ++ (tag.tail ++ (47 ∷ 62 ∷ w)))) e
closed-text tag (End white) kids more y inner e =
    ap (λ (w : List ℕ). 60 ∷ (name_text (name_of tag) ++ (tag.tail ++ (62 ∷ w))))
    (inner (end_tag (name_of tag) white ∷ more)
    ∙ ap (λ (w : List ℕ). tree_then kids (60 ∷ 47 ∷ (name_text (name_of tag) ++ (white ++ (62 ∷ w))))) e)

pub pieces_text-then : (x : Nodes) (more : List Piece) → pieces_text (pieces_then x more) ≡ tree_then x (pieces_text more)
pieces_text-then no_nodes more = refl
pieces_text-then (bytes b rest) more = ap (λ (w : List ℕ). b ++ w) (pieces_text-then rest more)
pieces_text-then (element tag kids rest) more =
    closed-text tag tag.close kids (pieces_then rest more) (tree_then rest (pieces_text more)) (pieces_text-then kids) (pieces_text-then rest more)

-- ---- their form

closed_legal : (tag : Tag) (close : Close) (kids : Nodes) (more : List Piece) → IsLaidTag W tag → ClosesBy close kids
    → ((m : List Piece) → ends_stretch (pieces_text m) ≡ true → ArePieces m → ArePieces (pieces_then kids m)) → ArePieces more
    → ArePieces (closed_pieces tag close (pieces_then kids) more)
closed_legal tag Empty kids more h none inner legal = ((h.name, h.tail), tt, legal)
closed_legal tag (End white) kids more h fits inner legal =
    let ended = end_tag (name_of tag) white ∷ more in
    let ends = end_ends_stretch (name_text (name_of tag) ++ (white ++ (62 ∷ pieces_text more))) in
    ((h.name, h.tail), tt, inner ended ends ((h.name, fits), tt, legal))

pub are_pieces : (x : Nodes) (more : List Piece) → AreLaid W x → ends_stretch (pieces_text more) ≡ true → ArePieces more → ArePieces (pieces_then x more)
are_pieces no_nodes more h ends legal = legal
are_pieces (bytes b rest) more h ends legal =
    let follows = ap ends_stretch (pieces_text-then rest more) ∙ laid_end_stretch W rest (pieces_text more) h.2 h.1 (λ e. ends) in
    (h.0, follows, are_pieces rest more h.2 ends legal)
are_pieces (element tag kids rest) more h ends legal =
    closed_legal tag tag.close kids (pieces_then rest more) h.0 h.1 (λ m. are_pieces kids m h.2) (are_pieces rest more h.3 ends legal)

-- ---- what they are found to be

module _ (search : Search) (part : List ℕ) where
  abbrev asked : Table
  asked = table_of search

  closed_finds : (tag : Tag) (close : Close) (kids : Nodes) (more : List Piece) → ClosesBy close kids
      → ((m : List Piece) → pieces_finds asked part (pieces_then kids m) ≡ finds asked part tag.local kids ++ pieces_finds asked part m)
      → pieces_finds asked part (closed_pieces tag close (pieces_then kids) more)
      ≡ (found_idle asked part tag.local tag.tail ++ finds asked part tag.local kids) ++ pieces_finds asked part more
  closed_finds tag Empty kids more none inner =
      let own = found_idle asked part tag.local tag.tail in
      ap (λ (f : List Find). f ++ pieces_finds asked part more)
      (sym (append-nil own) ∙ ap (λ (x : Nodes). own ++ finds asked part tag.local x) (sym none))
  closed_finds tag (End white) kids more fits inner =
      let own = found_idle asked part tag.local tag.tail in
      ap (λ (f : List Find). own ++ f) (inner (end_tag (name_of tag) white ∷ more))
      ∙ sym (append_assoc own (finds asked part tag.local kids) (pieces_finds asked part more))

  finds-pieces : (in_run : Bool) (parent : List ℕ) (x : Nodes) (more : List Piece) → is_idle_in in_run x ≡ true → AreLaid W x
      → pieces_finds asked part (pieces_then x more) ≡ finds asked part parent x ++ pieces_finds asked part more
  finds-pieces in_run parent no_nodes more idle h = refl
  finds-pieces in_run parent (bytes b rest) more idle h =
      ap (λ (f : List Find). found_text asked part b ++ f) (finds-pieces in_run parent rest more idle h.2)
      ∙ sym (append_assoc (found_text asked part b) (finds asked part parent rest) (pieces_finds asked part more))
  finds-pieces in_run parent (element tag kids rest) more idle h =
      let p = idle_parts in_run tag kids rest idle in
      let below = finds asked part tag.local kids in
      let own = found_idle asked part tag.local tag.tail ++ below in
      let later = finds asked part parent rest in
      closed_finds tag tag.close kids (pieces_then rest more) h.1 (λ m. finds-pieces (is "r" tag) tag.local kids m p.below h.2)
      ∙ ap (λ (f : List Find). own ++ f) (finds-pieces in_run parent rest more p.later h.3)
      ∙ sym (append_assoc own later (pieces_finds asked part more))
      ∙ ap (λ (f : List Find). ((f ++ below) ++ later) ++ pieces_finds asked part more) (sym (found_so search part parent in_run tag kids p.own))
      ∙ ap (λ (q : List ℕ). ((found asked q parent tag kids ++ finds asked q tag.local kids) ++ later) ++ pieces_finds asked part more) (sym (part_idle search part parent in_run tag kids p.own))

-- ---- a kept text

pub laid_text : (t : List ℕ) → is_idle_text t ≡ true → AreLaid W (idle_nodes t)
laid_text t is = subst (AreLaid W) (laid_nodes t is) (always_laid W t)

abbrev pub kept_pieces : (t own : List ℕ) → is_idle_text t ≡ true → text (idle_nodes t) ≡ own → HasPieces own
kept_pieces t own is e = record {
  pieces = pieces_then (idle_nodes t) [];
  whole = sym e ∙ sym (append-nil (text (idle_nodes t))) ∙ tree-then (idle_nodes t) [] ∙ sym (pieces_text-then (idle_nodes t) []);
  legal = are_pieces (idle_nodes t) [] (laid_text t is) refl tt;
}

pub kept_finds : (search : Search) (part parent t : List ℕ) → is_idle_text t ≡ true
    → pieces_finds (table_of search) part (pieces_then (idle_nodes t) []) ≡ finds (table_of search) part parent (idle_nodes t)
kept_finds search part parent t is =
    finds-pieces search part false parent (idle_nodes t) [] (nodes_are_idle t) (laid_text t is) ∙ append-nil (finds (table_of search) part parent (idle_nodes t))

-- ---- one piece

pub filled : (t : List ℕ) → (length t == 0) ≡ false → t ≢ []
filled t h none = true≢false (sym (ap (λ (s : List ℕ). length s == 0) none) ∙ h)

pub empty : (t : List ℕ) → (length t == 0) ≡ true → t ≡ []
empty [] h = refl
empty (b ∷ bs) h = absurd (omega (arith, eqb-true (length (b ∷ bs)) 0 h))

abbrev NoMore : List Piece → List Piece → Piece → List ℕ → Type 0
NoMore pieces more piece rest = (pieces ≡ piece ∷ more) × (rest ≡ pieces_text more)

-- what stands at the front of a text is the first of its pieces
pub first_piece : (t : List ℕ) (h : HasPieces t) (piece : Piece) (rest : List ℕ) → Stands InElement t piece rest → (more : List Piece) × NoMore h.pieces more piece rest
first_piece t h piece rest stands = by h.pieces h.whole h.legal
  where
    by : (pieces : List Piece) → t ≡ pieces_text pieces → ArePieces pieces → (more : List Piece) × NoMore pieces more piece rest
    by [] e legal =
        let short = piece_shorter InElement t (piece, rest) (stands_is_read InElement t piece rest stands) in
        absurd (omega (arith, short, ap length e))
    by (first ∷ more) e legal =
        let own : Stands InElement t first (pieces_text more) = record { whole = e; legal = legal.0; follows = legal.1 } in
        let same = one_piece InElement t first piece (pieces_text more) rest own stands in
        (more, (ap (λ (p : Piece). p ∷ more) same.0, sym same.1))

pub took : (table : Table) (part : List ℕ) (old new : List (List Line)) (t : List ℕ) (h : HasPieces t) (piece : Piece) (rest : List ℕ) → Stands InElement t piece rest
    → new ≡ noted_all old (piece_finds table part piece) → Took table part old new h.pieces rest
took table part old new t h piece rest stands noted =
    let p = first_piece t h piece rest stands in
    record { first = piece; more = p.0; is = p.1.0; left = p.1.1; noted = noted }

-- a text that is not empty begins with one
pub piece_there : (t : List ℕ) → HasPieces t → (t ≢ []) → is_there (piece_at InElement t) ≡ true
piece_there t h some = by h.pieces h.whole h.legal
  where
    by : (pieces : List Piece) → t ≡ pieces_text pieces → ArePieces pieces → is_there (piece_at InElement t) ≡ true
    by [] e legal = absurd (some e)
    by (first ∷ more) e legal =
        ap is_there (stands_is_read InElement t first (pieces_text more) (record { whole = e; legal = legal.0; follows = legal.1 }))

-- what is left after one piece
legal_rest : (pieces : List Piece) (first : Piece) (more : List Piece) → pieces ≡ first ∷ more → ArePieces pieces → ArePieces more
legal_rest pieces first more e legal = (subst ArePieces e legal).2

pub goes_on : (table : Table) (part : List ℕ) (old mid new : List (List Line)) (pieces : List Piece) (left rest : List ℕ) (a : Ahead table part old mid pieces left)
    → Took table part mid new a.begins.pieces rest → Ahead table part old new pieces rest
goes_on table part old mid new pieces left rest a one = record {
  begins = record { pieces = one.more; whole = one.left; legal = legal_rest a.begins.pieces one.first one.more one.is a.begins.legal };
  noted =
      ap (λ (s : List (List Line)). noted_all s (pieces_finds table part one.more)) one.noted
      ∙ sym (noted-append mid (piece_finds table part one.first) (pieces_finds table part one.more))
      ∙ ap (λ (ps : List Piece). noted_all mid (pieces_finds table part ps)) (sym one.is)
      ∙ a.noted;
}

pub took_shorter : (table : Table) (part : List ℕ) (old new : List (List Line)) (t : List ℕ) (h : HasPieces t) (rest : List ℕ) → Took table part old new h.pieces rest → length rest < length t
took_shorter table part old new t h rest one =
    let legal = subst ArePieces one.is h.legal in
    let stands : Stands InElement t one.first (pieces_text one.more) =
    record { whole = h.whole ∙ ap pieces_text one.is; legal = legal.0; follows = legal.1 } in
    let short = piece_shorter InElement t (one.first, pieces_text one.more) (stands_is_read InElement t one.first (pieces_text one.more) stands) in
    omega (arith, short, ap length one.left)

-- no text is no pieces
pub none_ahead : (table : Table) (part : List ℕ) (old new : List (List Line)) (pieces : List Piece) (left : List ℕ) → left ≡ [] → Ahead table part old new pieces left
    → new ≡ noted_all old (pieces_finds table part pieces)
none_ahead table part old new pieces left e a = by a.begins.pieces (sym e ∙ a.begins.whole) a.begins.legal ∙ a.noted
  where
    by : (ps : List Piece) → [] ≡ pieces_text ps → ArePieces ps → new ≡ noted_all new (pieces_finds table part ps)
    by [] none legal = refl
    by (first ∷ more) none legal =
        let short = piece_shorter InElement [] (first, pieces_text more) (stands_is_read InElement [] first (pieces_text more) (record { whole = none; legal = legal.0; follows = legal.1 })) in
        absurd (omega (arith, short))

-- ---- what the reader of pieces says

pub there_gives : {X Y : Type 0} (view : X → Y) (o : Option X) (read : Option Y) → Gives view o read → is_there read ≡ true → IsSome {T = X} o
there_gives view None read g h = absurd (true≢false (sym h ∙ ap is_there g))
there_gives view (Some x) read g h = refl

gives_this : {X Y : Type 0} (view : X → Y) (o : Option X) (read : Option Y) (x : X) → Gives view o read → o ≡ Some x → read ≡ Some (view x)
gives_this view None read x g e = absurd cc
gives_this view (Some y) read x g e = g ∙ ap (λ z. Some (view z)) (same_Some y x e)

pub read_stands : {X : Type 0} (view : X → Piece × List ℕ) (o : Option X) (t : List ℕ) (x : X) → Gives view o (piece_at InElement t) → o ≡ Some x → Stands InElement t (view x).0 (view x).1
read_stands view o t x g e = piece_takes InElement t (view x) (gives_this view o (piece_at InElement t) x g e)

-- ---- the text of a piece

piece-text : (piece : Piece) (rest : List ℕ) → piece_then piece rest ≡ piece_then piece [] ++ rest
piece-text (start_tag name tail) rest =
    ap (λ (w : List ℕ). 60 ∷ w) (ap (λ (w : List ℕ). name_text name ++ w) (sym (append_assoc tail (62 ∷ []) rest)) ∙ sym (append_assoc (name_text name) (tail ++ (62 ∷ [])) rest))
piece-text (empty_tag name tail) rest =
    ap (λ (w : List ℕ). 60 ∷ w) (ap (λ (w : List ℕ). name_text name ++ w) (sym (append_assoc tail (47 ∷ 62 ∷ []) rest)) ∙ sym (append_assoc (name_text name) (tail ++ (47 ∷ 62 ∷ [])) rest))
piece-text (end_tag name space) rest =
    ap (λ (w : List ℕ). 60 ∷ 47 ∷ w) (ap (λ (w : List ℕ). name_text name ++ w) (sym (append_assoc space (62 ∷ []) rest)) ∙ sym (append_assoc (name_text name) (space ++ (62 ∷ [])) rest))
piece-text (stretch b) rest = ap (λ (w : List ℕ). w ++ rest) (sym (append-nil b))

-- what comes before the rest is it
pub before_rest : (t : List ℕ) (piece : Piece) (rest : List ℕ) → t ≡ piece_then piece rest → before t rest ≡ piece_then piece []
before_rest t piece rest e = ap (λ (w : List ℕ). before w rest) (e ∙ piece-text piece rest) ∙ before-append (piece_then piece []) rest

-- a text that begins with the text of a tag begins with the tag
pub tag_stands : (t own rest : List ℕ) (tag : Piece) → IsTagText own tag → t ≡ own ++ rest → Stands InElement t tag rest
tag_stands t own rest tag k e = record {
  whole = e ∙ ap (λ (w : List ℕ). w ++ rest) k.whole ∙ sym (piece-text tag rest);
  legal = k.legal;
  follows = k.follows rest;
}

-- an end tag is no find
pub end_is_known : (table : Table) (t : List ℕ) (piece : Piece) (name : Name) (white : List ℕ) → piece ≡ end_tag name white → t ≡ piece_then piece [] → IsPiece InElement piece
    → IsKnown table t None
end_is_known table t piece name white e =
    let Known : Piece → Type 0 = λ p. t ≡ piece_then p [] → IsPiece InElement p → IsKnown table t None in
    subst Known (sym e) (λ whole legal. record {
      tag = end_tag name white;
      text = record { whole = whole; legal = legal; follows = λ rest. tt };
      finds = λ part. refl;
    })

-- ---- a stretch without comments, instructions and CDATA

stops_here : (rest : List ℕ) → ends_stretch rest ≡ true → stops (is_other 60) rest ≡ true
stops_here [] e = refl
stops_here (b ∷ bs) e = ap (λ (t : Bool). not (not t)) (and_parts (b == 60) (not (begins_item (b ∷ bs))) e).0

item_stops : (i : Item) (rest : List ℕ) → stops (is_other 60) (item_then i rest) ≡ true
item_stops (comment text) rest = refl
item_stops (instruction name text) rest = refl
item_stops (cdata text) rest = refl

-- a run before the next tag, and what follows it
record IsRunBefore (t b rest : List ℕ) : Type 0 where
  run : front (is_other 60) t ≡ b
  later : after (is_other 60) t ≡ rest

run_before : (t b rest : List ℕ) (s : IsStretch InElement b) → t ≡ b ++ rest → ends_stretch rest ≡ true → begins_item (after (is_other 60) t) ≡ false → IsRunBefore t b rest
run_before t b rest s e ends none = by s.more s.whole
  where
    by : (items : List (Item × List ℕ)) → b ≡ head_then s.head (s.first ++ items_then items []) → IsRunBefore t b rest
    by [] whole =
        let is_first : b ≡ s.first = whole ∙ ap (λ (h : Head). head_then h (s.first ++ [])) s.is_head ∙ append-nil s.first in
        let here : t ≡ s.first ++ rest = e ∙ ap (λ (w : List ℕ). w ++ rest) is_first in
        record {
          run = ap (front (is_other 60)) here ∙ front_again (is_other 60) s.first rest s.first_run.no_tag (stops_here rest ends) ∙ sym is_first;
          later = ap (after (is_other 60)) here ∙ after_again (is_other 60) s.first rest s.first_run.no_tag (stops_here rest ends);
        }
    by (i ∷ more) whole =
        let here : t ≡ s.first ++ item_then i.0 (i.1 ++ items_then more rest) =
        e ∙ ap (λ (w : List ℕ). w ++ rest) whole ∙ whole_then s.head s.first (i ∷ more) rest ∙ ap (λ (h : Head). head_then h (s.first ++ items_then (i ∷ more) rest)) s.is_head in
        let item = item_then i.0 (i.1 ++ items_then more rest) in
        let later : after (is_other 60) t ≡ item = ap (after (is_other 60)) here ∙ after_again (is_other 60) s.first item s.first_run.no_tag (item_stops i.0 (i.1 ++ items_then more rest)) in
        absurd (true≢false (sym (item_begins i.0 (i.1 ++ items_then more rest)) ∙ ap begins_item (sym later) ∙ none))

-- the bytes before the next tag are the first piece
pub run_stands : (t : List ℕ) (h : HasPieces t) → (front (is_other 60) t ≢ []) → begins_item (after (is_other 60) t) ≡ false
    → Stands InElement t (stretch (front (is_other 60) t)) (after (is_other 60) t)
run_stands t h some none = by h.pieces h.whole h.legal
  where
    by : (pieces : List Piece) → t ≡ pieces_text pieces → ArePieces pieces → Stands InElement t (stretch (front (is_other 60) t)) (after (is_other 60) t)
    by [] e legal = absurd (some (ap (front (is_other 60)) e))
    by (start_tag name tail ∷ more) e legal = absurd (some (ap (front (is_other 60)) e))
    by (empty_tag name tail ∷ more) e legal = absurd (some (ap (front (is_other 60)) e))
    by (end_tag name white ∷ more) e legal = absurd (some (ap (front (is_other 60)) e))
    by (stretch b ∷ more) e legal =
        let r = run_before t b (pieces_text more) legal.0 e legal.1 none in
        record {
          whole = sym (front-after (is_other 60) t);
          legal = subst (IsStretch InElement) (sym r.run) legal.0;
          follows = ap ends_stretch r.later ∙ legal.1;
        }
