-- The loop that looks for the end of an element, in a text that is read to its end.
use Rattle.std.proofs.Common.{◌≡◌, ◌≢◌, ◌≤◌, ◌<◌, ◌+◌, ◌-◌, ℕ, zero, suc, true, List, [], ◌∷◌, ◌++◌, length, Option, Some, None, refl, sym, ap, subst, ◌∙◌, arith, length-append}
use Rattle.std.proofs.lemmas.Option.{same_Some}
use Rattle.redl_tree.specs.Model.Nodes.{Tag, Nodes, no_nodes, bytes, element, Close, Empty, End}
use Rattle.redl_tree.specs.declared.kinds.Space.{Space}
use Rattle.redl_reading.specs.Lists.{before}
use Rattle.redl_reading.proofs.Words.{before-append}
use Rattle.redl_grammar.specs.declared.section.Section.TheVariants.{InElement}
use Rattle.redl_grammar.specs.References.{is_there}
use Rattle.redl_grammar.specs.Names.{Name, name_text}
use Rattle.redl_grammar.specs.Pieces.{Piece, start_tag, empty_tag, end_tag, stretch, piece_then, IsPiece}
use Rattle.redl_grammar.specs.ScanPieces.{piece_at}
use Rattle.redl_grammar.proofs.Pieces.{piece_takes, piece_again, piece_shorter, end_ends_stretch}
use Rattle.redl_tree.specs.Model.Folds.{nodes_in}
use Rattle.redl_laid.specs.Inside.Fronts.{HasKids, parted, depth_with, last_white}
use Rattle.redl_tree.specs.Model.Laid.{name_of, ClosesBy, IsLaidTag, AreLaid}
use Rattle.redl_tree.proofs.Model.TreeTexts.{tree_then, tree-then}
use Rattle.redl_tree.proofs.Reading.FoldLaws.{laid_end_stretch, nodes_are_laid, text_of_nodes_in}

-- an open element: its kids that are left, its name, and the white space in its end tag
pub record Pending : Type 0 where
  pub kids : Nodes
  pub name : Name
  pub white : List ℕ

-- the end tag of one
abbrev pub ending : Pending → Piece
ending p = end_tag p.name p.white

-- what is left of some, the innermost first, and what follows them
abbrev pub pending_then : List Pending → List ℕ → List ℕ
pending_then [] y = y
pending_then (p ∷ ps) y = tree_then p.kids (piece_then (ending p) (pending_then ps y))

abbrev pub ArePending : Space → List Pending → Type 0
ArePending space [] = Unit {0}
ArePending space (p ∷ ps) = AreLaid space p.kids × IsPiece InElement (ending p) × ArePending space ps

-- the end tag of the outermost one
abbrev pub outermost : List Pending → Option Piece
outermost [] = None
outermost (p ∷ []) = Some (ending p)
outermost (p ∷ q ∷ ps) = outermost (q ∷ ps)

-- ---- one piece more

abbrev left_of : Pending → Nodes → Pending
left_of p more = record { kids = more; name = p.name; white = p.white }

record Goes (space : Space) (y : List ℕ) (now : List Pending) : Type 0 where
  piece : Piece
  later : List Pending
  read : piece_at InElement (pending_then now y) ≡ Some (piece, pending_then later y)
  laid : ArePending space later
  deep : length later ≡ depth_with piece (length now)
  outer : length later ≢ 0 → outermost later ≡ outermost now
  last : length later ≡ 0 → outermost now ≡ Some piece

same_outermost : (p : Pending) (more : Nodes) (ps : List Pending) → outermost (left_of p more ∷ ps) ≡ outermost (p ∷ ps)
same_outermost p more [] = refl
same_outermost p more (q ∷ ps) = refl

goes_end : (space : Space) (y : List ℕ) (p : Pending) (ps : List Pending) → p.kids ≡ no_nodes → ArePending space (p ∷ ps) → Goes space y (p ∷ ps)
goes_end space y p ps none h = record {
  piece = ending p;
  later = ps;
  read = ap (λ (k : Nodes). piece_at InElement (tree_then k (piece_then (ending p) (pending_then ps y)))) none ∙ piece_again InElement (ending p) (pending_then ps y) h.1 tt;
  laid = h.2;
  deep = omega arith;
  outer = λ some. outer ps some;
  last = λ none. last ps none;
} where
  outer : (ps : List Pending) → length ps ≢ 0 → outermost ps ≡ outermost (p ∷ ps)
  outer [] some = absurd (some refl)
  outer (q ∷ ps) some = refl

  last : (ps : List Pending) → length ps ≡ 0 → outermost (p ∷ ps) ≡ Some (ending p)
  last [] none = refl
  last (q ∷ ps) none = absurd (omega (arith, none))

-- where the innermost one goes on, and perhaps another one begins in it
goes_on : (space : Space) (y : List ℕ) (p : Pending) (more : Nodes) (ps : List Pending) (piece : Piece) (begun : List Pending) → piece_at InElement (pending_then (p ∷ ps) y) ≡ Some (piece, pending_then (begun ++ (left_of p more ∷ ps)) y)
    → ArePending space (begun ++ (left_of p more ∷ ps)) → length (begun ++ (left_of p more ∷ ps)) ≡ depth_with piece (length (p ∷ ps)) → outermost (begun ++ (left_of p more ∷ ps)) ≡ outermost (left_of p more ∷ ps) → length (begun ++ (left_of p more ∷ ps)) ≢ 0
    → Goes space y (p ∷ ps)
goes_on space y p more ps piece begun read laid deep outer some = record {
  piece = piece;
  later = begun ++ (left_of p more ∷ ps);
  read = read;
  laid = laid;
  deep = deep;
  outer = λ yes. outer ∙ same_outermost p more ps;
  last = λ none. absurd (some none);
}

goes_element : (space : Space) (y : List ℕ) (p : Pending) (ps : List Pending) (tag : Tag) (kids more : Nodes) (close : Close) → p.kids ≡ element tag kids more → tag.close ≡ close → IsLaidTag space tag → ClosesBy close kids → AreLaid space kids → AreLaid space more → IsPiece InElement (ending p) → ArePending space ps → Goes space y (p ∷ ps)
goes_element space y p ps tag kids more Empty is e h none k m i a =
    goes_on space y p more ps (empty_tag (name_of tag) tag.tail) []
    (ap (λ (x : Nodes). piece_at InElement (tree_then x (piece_then (ending p) (pending_then ps y)))) is
    ∙ ap (λ (c : Close). piece_at InElement (tree_then (element (record tag { close = c }) kids more) (piece_then (ending p) (pending_then ps y)))) e
    ∙ piece_again InElement (empty_tag (name_of tag) tag.tail) (pending_then (left_of p more ∷ ps) y) (h.name, h.tail) tt)
    (m, i, a) refl refl (λ zero. absurd cc)
goes_element space y p ps tag kids more (End white) is e h fits k m i a =
    let own : Pending = record { kids = kids; name = name_of tag; white = white } in
    goes_on space y p more ps (start_tag (name_of tag) tag.tail) (own ∷ [])
    (ap (λ (x : Nodes). piece_at InElement (tree_then x (piece_then (ending p) (pending_then ps y)))) is
    ∙ ap (λ (c : Close). piece_at InElement (tree_then (element (record tag { close = c }) kids more) (piece_then (ending p) (pending_then ps y)))) e
    ∙ piece_again InElement (start_tag (name_of tag) tag.tail) (pending_then (own ∷ left_of p more ∷ ps) y) (h.name, h.tail) tt)
    (k, (h.name, fits), (m, i, a)) (omega arith) refl (λ zero. absurd cc)

goes_by : (space : Space) (y : List ℕ) (p : Pending) (ps : List Pending) (kids : Nodes) → p.kids ≡ kids → AreLaid space kids → IsPiece InElement (ending p) → ArePending space ps → Goes space y (p ∷ ps)
goes_by space y p ps no_nodes is laid i a =
    let P : Nodes → Type 0 = λ k. AreLaid space k in
    goes_end space y p ps is (subst P (sym is) laid, i, a)
goes_by space y p ps (bytes b more) is laid i a =
    let behind = piece_then (ending p) (pending_then ps y) in
    goes_on space y p more ps (stretch b) []
    (ap (λ (x : Nodes). piece_at InElement (tree_then x behind)) is
    ∙ piece_again InElement (stretch b) (tree_then more behind) laid.0 (laid_end_stretch space more behind laid.2 laid.1 (λ yes. end_ends_stretch (name_text p.name ++ (p.white ++ (62 ∷ pending_then ps y))))))
    (laid.2, i, a) refl refl (λ zero. absurd cc)
goes_by space y p ps (element tag kids more) is laid i a = goes_element space y p ps tag kids more tag.close is refl laid.0 laid.1 laid.2 laid.3 i a

goes : (space : Space) (y : List ℕ) (p : Pending) (ps : List Pending) → ArePending space (p ∷ ps) → Goes space y (p ∷ ps)
goes space y p ps h = goes_by space y p ps p.kids refl h.0 h.1 h.2

-- ---- the loop

-- in an element's kids as many elements are open, and this is left
pub record IsInside (space : Space) (bs : List ℕ) (k : HasKids space bs) (depth : ℕ) (left : List ℕ) : Type 0 where
  pub own : Pending
  pub others : List Pending
  pub whole : left ≡ pending_then (own ∷ others) k.rest
  pub laid : ArePending space (own ∷ others)
  pub outer : outermost (own ∷ others) ≡ Some (end_tag k.name k.white)
  pub deep : length others ≡ depth
  pub few : depth + length left ≤ length bs

pub inside_begins : (space : Space) (bs : List ℕ) (k : HasKids space bs) → IsInside space bs k 0 bs
inside_begins space bs k = record {
  own = record { kids = nodes_in space k.inner; name = k.name; white = k.white };
  others = [];
  whole = k.whole ∙ ap (λ (t : List ℕ). t ++ piece_then (end_tag k.name k.white) k.rest) (sym (text_of_nodes_in space k.inner k.inner_reads)) ∙ tree-then (nodes_in space k.inner) (piece_then (end_tag k.name k.white) k.rest);
  laid = (nodes_are_laid space k.inner k.inner_reads, k.legal, tt);
  outer = refl;
  deep = refl;
  few = omega arith;
}

goes_here : (space : Space) (bs : List ℕ) (k : HasKids space bs) (depth : ℕ) (left : List ℕ) (g : IsInside space bs k depth left) → Goes space k.rest (g.own ∷ g.others)
goes_here space bs k depth left g = goes space k.rest g.own g.others g.laid

pub piece_there : (space : Space) (bs : List ℕ) (k : HasKids space bs) (depth : ℕ) (left : List ℕ) → IsInside space bs k depth left → is_there (piece_at InElement left) ≡ true
piece_there space bs k depth left g = ap (λ (t : List ℕ). is_there (piece_at InElement t)) g.whole ∙ ap is_there (goes_here space bs k depth left g).read

-- what is read is what comes next
read_is : (space : Space) (bs : List ℕ) (k : HasKids space bs) (depth : ℕ) (left : List ℕ) (x : Piece × List ℕ) (g : IsInside space bs k depth left) → piece_at InElement left ≡ Some x
    → (let n = goes_here space bs k depth left g in (n.piece, pending_then n.later k.rest) ≡ x)
read_is space bs k depth left x g e =
    let n = goes_here space bs k depth left g in
    same_Some (n.piece, pending_then n.later k.rest) x (sym n.read ∙ ap (piece_at InElement) (sym g.whole) ∙ e)

deeper : (p : Piece) (depth n m : ℕ) → n ≡ depth + 1 → m ≡ depth_with p n → last_white p depth ≡ None → m ≡ depth_with p depth + 1
deeper (start_tag name tail) depth n m e f none = omega (arith, e, f)
deeper (empty_tag name tail) depth n m e f none = omega (arith, e, f)
deeper (stretch b) depth n m e f none = omega (arith, e, f)
deeper (end_tag name white) zero n m e f none = absurd cc
deeper (end_tag name white) (suc depth) n m e f none = omega (arith, e, f)

less : (p : Piece) (depth : ℕ) → depth_with p depth ≤ depth + 1
less (start_tag name tail) depth = omega arith
less (empty_tag name tail) depth = omega arith
less (stretch b) depth = omega arith
less (end_tag name white) depth = omega arith

inside_by : (space : Space) (bs : List ℕ) (k : HasKids space bs) (depth : ℕ) (left : List ℕ) (later : List Pending) → left ≡ pending_then later k.rest → ArePending space later → length later ≡ depth + 1 → (length later ≢ 0 → outermost later ≡ Some (end_tag k.name k.white)) → depth + length left ≤ length bs → IsInside space bs k depth left
inside_by space bs k depth left [] whole laid deep outer few = absurd (omega (arith, deep))
inside_by space bs k depth left (p ∷ ps) whole laid deep outer few = record {
  own = p;
  others = ps;
  whole = whole;
  laid = laid;
  outer = outer (λ zero. absurd cc);
  deep = omega (arith, deep);
  few = few;
}

pub inside_goes : (space : Space) (bs : List ℕ) (k : HasKids space bs) (depth : ℕ) (left : List ℕ) (p : Piece) (behind : List ℕ) → IsInside space bs k depth left → piece_at InElement left ≡ Some (p, behind) → last_white p depth ≡ None → IsInside space bs k (depth_with p depth) behind
inside_goes space bs k depth left p behind g e none =
    let n = goes_here space bs k depth left g in
    let same = read_is space bs k depth left (p, behind) g e in
    let piece : n.piece ≡ p = ap (λ (x : Piece × List ℕ). x.0) same in
    let size : length (g.own ∷ g.others) ≡ depth + 1 = omega (arith, g.deep) in
    inside_by space bs k (depth_with p depth) behind n.later (sym (ap (λ (x : Piece × List ℕ). x.1) same)) n.laid
    (deeper p depth (length (g.own ∷ g.others)) (length n.later) size (n.deep ∙ ap (λ (q : Piece). depth_with q (length (g.own ∷ g.others))) piece) none)
    (λ some. n.outer some ∙ g.outer)
    (omega (arith, g.few, less p depth, piece_shorter InElement left (p, behind) e))

-- where none is open, the next end tag is that of the element itself
pub record Ends {space : Space} {bs : List ℕ} (k : HasKids space bs) (left white behind : List ℕ) : Type 0 where
  pub inner : before bs left ≡ k.inner
  pub space_there : white ≡ k.white
  pub rest : behind ≡ k.rest

white_is : (name : Name) (white : List ℕ) (p : Piece) → end_tag name white ≡ p → (w : List ℕ) → last_white p 0 ≡ Some w → w ≡ white
white_is name white (end_tag n v) e w f = sym (same_Some v w f) ∙ sym (let s : white ≡ v = cc in s)
white_is name white (start_tag n t) e w f = absurd cc
white_is name white (empty_tag n t) e w f = absurd cc
white_is name white (stretch b) e w f = absurd cc

depth_none : (p : Piece) (depth : ℕ) (w : List ℕ) → last_white p depth ≡ Some w → (depth ≡ 0) × ((n : ℕ) → depth_with p n ≡ n - 1)
depth_none (end_tag n v) zero w f = (refl, λ m. refl)
depth_none (end_tag n v) (suc depth) w f = absurd cc
depth_none (start_tag n t) depth w f = absurd cc
depth_none (empty_tag n t) depth w f = absurd cc
depth_none (stretch b) depth w f = absurd cc

nothing_left : (later : List Pending) (y : List ℕ) → length later ≡ 0 → pending_then later y ≡ y
nothing_left [] y none = refl
nothing_left (p ∷ ps) y none = absurd (omega (arith, none))

-- so its parts are these
pub ends_parted : {space : Space} {bs : List ℕ} (k : HasKids space bs) (left white behind : List ℕ) → Ends k left white behind → parted k ≡ Some (before bs left, white, behind)
ends_parted {space} {bs} k left white behind e =
    ap (λ (x : List ℕ). Some (x, k.white, k.rest)) (sym e.inner) ∙ ap (λ (x : List ℕ). Some (before bs left, x, k.rest)) (sym e.space_there) ∙ ap (λ (x : List ℕ). Some (before bs left, white, x)) (sym e.rest)

pub inside_ends : (space : Space) (bs : List ℕ) (k : HasKids space bs) (depth : ℕ) (left : List ℕ) (p : Piece) (white behind : List ℕ) → IsInside space bs k depth left → piece_at InElement left ≡ Some (p, behind) → last_white p depth ≡ Some white → Ends k left white behind
inside_ends space bs k depth left p white behind g e f =
    let n = goes_here space bs k depth left g in
    let same = read_is space bs k depth left (p, behind) g e in
    let piece : n.piece ≡ p = ap (λ (x : Piece × List ℕ). x.0) same in
    let d = depth_none p depth white f in
    let none : length n.later ≡ 0 = omega (arith, n.deep ∙ ap (λ (q : Piece). depth_with q (length (g.own ∷ g.others))) piece ∙ d.1 (length (g.own ∷ g.others)), g.deep, d.0) in
    let own : end_tag k.name k.white ≡ p = same_Some (end_tag k.name k.white) p (sym g.outer ∙ n.last none ∙ ap (λ (q : Piece). Some q) piece) in
    let rest : behind ≡ k.rest = sym (ap (λ (x : Piece × List ℕ). x.1) same) ∙ nothing_left n.later k.rest none in
    let P : ℕ → Type 0 = λ m. last_white p m ≡ Some white in
    record {
      inner = ap (λ (t : List ℕ). before t left) (k.whole ∙ ap (λ (t : List ℕ). k.inner ++ t) (sym (left_is own rest))) ∙ before-append k.inner left;
      space_there = white_is k.name k.white p own white (subst P d.0 f);
      rest = rest;
    } where
      left_is : end_tag k.name k.white ≡ p → behind ≡ k.rest → left ≡ piece_then (end_tag k.name k.white) k.rest
      left_is own rest =
          let s = piece_takes InElement left (p, behind) e in
          s.whole ∙ ap (λ (q : Piece). piece_then q behind) (sym own) ∙ ap (piece_then (end_tag k.name k.white)) rest

-- ---- what comes first, and how long it is

pub empty_fits : (t : List ℕ) (name : Name) (tail rest : List ℕ) → piece_at InElement t ≡ Some (empty_tag name tail, rest) → length (name_text name ++ tail) < length t
empty_fits t name tail rest e =
    let s = piece_takes InElement t (empty_tag name tail, rest) e in
    omega (arith, ap length s.whole, length-append (name_text name) (tail ++ (47 ∷ 62 ∷ rest)), length-append tail (47 ∷ 62 ∷ rest), length-append (name_text name) tail)

pub start_fits : (t : List ℕ) (name : Name) (tail rest : List ℕ) → piece_at InElement t ≡ Some (start_tag name tail, rest) → length (name_text name ++ tail) < length t
start_fits t name tail rest e =
    let s = piece_takes InElement t (start_tag name tail, rest) e in
    omega (arith, ap length s.whole, length-append (name_text name) (tail ++ (62 ∷ rest)), length-append tail (62 ∷ rest), length-append (name_text name) tail)

pub kids_fit : (space : Space) (behind : List ℕ) (k : HasKids space behind) → (length k.inner ≤ length behind) × (length k.rest ≤ length behind)
kids_fit space behind k =
    let whole = ap length k.whole in
    let outer = length-append k.inner (piece_then (end_tag k.name k.white) k.rest) in
    let name = length-append (name_text k.name) (k.white ++ (62 ∷ k.rest)) in
    let white = length-append k.white (62 ∷ k.rest) in
    (omega (arith, whole, outer), omega (arith, whole, outer, name, white))

-- where the kids are that these parts are
pub parts_are : {space : Space} {behind : List ℕ} (k : HasKids space behind) (inner white rest : List ℕ) → parted k ≡ Some (inner, white, rest) → (k.inner ≡ inner) × (k.white ≡ white) × (k.rest ≡ rest)
parts_are k inner white rest e =
    let same = same_Some (k.inner, k.white, k.rest) (inner, white, rest) e in
    (ap (λ (x : List ℕ × List ℕ × List ℕ). x.0) same, ap (λ (x : List ℕ × List ℕ × List ℕ). x.1) same, ap (λ (x : List ℕ × List ℕ × List ℕ). x.2) same)
