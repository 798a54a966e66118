-- The loop that passes over a text of one space: what holds after each piece, and what is known where no element is open.
use Rattle.std.proofs.Common.{◌≡◌, ◌≢◌, ◌≤◌, ◌+◌, ℕ, Bool, true, false, max, List, [], ◌∷◌, ◌++◌, length, reverse, map, suc, Option, Some, None, slice_get, ◌-◌, refl, sym, ap, subst, ◌∙◌, arith}
use Rattle.std.proofs.lemmas.List.{length-map, length-reverse, reverse-append}
use Rattle.redl_markup.specs.Views.{name_view}
use Rattle.std.specs.Prelude.{◌==◌, IfSome, if◌then◌else◌}
use Rattle.std.proofs.lemmas.Bool.{eqb-true}
use Rattle.std.proofs.lemmas.Option.{same_Some, cond_some, none-some}
use Rattle.redl_tree.specs.Model.Nodes.{Tag, Nodes, no_nodes, bytes, element, ◌⊕◌}
use Rattle.redl_tree.specs.Model.Nodes.{Empty, End}
use Rattle.redl_tree.specs.Model.Text.{text}
use Rattle.redl_tree.specs.Model.Count.{count}
use Rattle.redl_tree.specs.Model.Elements.{elements}
use Rattle.redl_tree.specs.declared.kinds.Space.{Space}
use Rattle.redl_grammar.specs.declared.section.Section.TheVariants.{InElement}
use Rattle.redl_grammar.specs.Names.{Name, name_eq, IsName}
use Rattle.redl_markup.specs.declared.name.Name as code
use Rattle.redl_grammar.specs.Pieces.{Piece, start_tag, empty_tag, end_tag, stretch}
use Rattle.redl_grammar.specs.ScanPieces.{piece_at}
use Rattle.redl_grammar.proofs.Pieces.{piece_takes, piece_shorter, piece_again}
use Rattle.redl_xml.specs.Inside.Elements.{one_element}
use Rattle.redl_tree.specs.Model.Folds.{Open, Level, level, shut, put, nodes_at}
use Rattle.redl_tree.specs.Roles.Idle.{AllTags}
use Rattle.redl_xml.specs.Inside.Passing.{HoldsOf, HoldsIn, piece_count, piece_elements, is_run_open, shut_name, put_name, names_view, rest_behind, ClosesLast, IsPassed}
use Rattle.redl_xml.specs.Shapes.{depth_of}
use Rattle.redl_xml.specs.declared.idle.Idle.{Idle}
use Rattle.redl_xml.specs.Inside.Sizes.{deepest_with}
use Rattle.redl_xml.proofs.Complete.{name_same}
use Rattle.redl_xml.proofs.Measures.{count-⊕, depth-⊕}
use Rattle.redl_tree.proofs.Model.TreeTexts.{tree-then}
use Rattle.redl_tree.proofs.Idle.Texts.{tags-⊕}
use Rattle.redl_tree.proofs.Reading.FoldLaws.{level_then, put_text, put_laid, shut_some, AreLaidOpen, IsLaidAt, nodes_again, tree-text}

-- ---- the names of the open elements are all that the code keeps

abbrev pub names_open : List Open → List Name
names_open [] = []
names_open (f ∷ fs) = f.name ∷ names_open fs

length-names : (fs : List Open) → length (names_open fs) ≡ length fs
length-names [] = refl
length-names (f ∷ fs) = ap (λ (n : ℕ). suc n) (length-names fs)

record Puts (space : Space) (p : Piece) (s : Level) (ns : List Name) : Type 0 where
  next : Level
  is : put space p s ≡ Some next
  names : names_open next.open_elements ≡ ns

shut_by_name : (space : Space) (fs : List Open) (kids : Nodes) (name : Name) (white : List ℕ) (ns : List Name) → shut_name (names_open fs) name ≡ Some ns → (s' : Level) × (shut space fs kids name white ≡ Some s') × (names_open s'.open_elements ≡ ns)
shut_by_name space [] kids name white ns e = absurd (none-some ns e)
shut_by_name space (f ∷ fs) kids name white ns e =
    let c = cond_some (name_eq f.name name) (names_open fs) ns e in
    (level fs (f.before ⊕ one_element f.name space f.tail (End white) kids), rw c.0 refl, c.1)

put_by_name : (space : Space) (p : Piece) (s : Level) (ns : List Name) → put_name p (names_open s.open_elements) ≡ Some ns → Puts space p s ns
put_by_name space (start_tag name tail) s ns e = record {
  next = level (record { name = name; tail = tail; before = s.kids } ∷ s.open_elements) no_nodes;
  is = refl;
  names = same_Some (name ∷ names_open s.open_elements) ns e;
}
put_by_name space (empty_tag name tail) s ns e = record {
  next = level s.open_elements (s.kids ⊕ one_element name space tail Empty no_nodes);
  is = refl;
  names = same_Some (names_open s.open_elements) ns e;
}
put_by_name space (stretch b) s ns e = record {
  next = level s.open_elements (s.kids ⊕ bytes b no_nodes);
  is = refl;
  names = same_Some (names_open s.open_elements) ns e;
}
put_by_name space (end_tag name white) s ns e =
    let r = shut_by_name space s.open_elements s.kids name white ns e in
    record { next = r.0; is = r.1; names = r.2 }

-- ---- what holds of each tag, by whether its parent is a run

abbrev run_open : Space → List Open → Bool
run_open space fs = is_run_open space (names_open fs)

abbrev OpenTags : (Bool → Tag → Type 0) → Space → List Open → Type 0
OpenTags T space [] = Unit {0}
OpenTags T space (f ∷ fs) = HoldsOf T (run_open space fs) space f.name f.tail × AllTags T (run_open space fs) f.before × OpenTags T space fs

abbrev LevelTags : (Bool → Tag → Type 0) → Space → Level → Type 0
LevelTags T space s = OpenTags T space s.open_elements × AllTags T (run_open space s.open_elements) s.kids

shut_tags : (T : Bool → Tag → Type 0) (space : Space) (fs : List Open) (kids : Nodes) (name : Name) (white : List ℕ) (s' : Level) → shut space fs kids name white ≡ Some s' → OpenTags T space fs → AllTags T (run_open space fs) kids → LevelTags T space s'
shut_tags T space [] kids name white s' e o k = absurd (none-some s' e)
shut_tags T space (f ∷ fs) kids name white s' e o k =
    let r = shut_some space f fs kids name white s' e in
    let P : Level → Type 0 = λ s. LevelTags T space s in
    subst P r.1 (o.2, tags-⊕ T (run_open space fs) f.before (one_element f.name space f.tail (End white) kids) o.1 (o.0 (End white), k, tt))

put_tags : (T : Bool → Tag → Type 0) (space : Space) (p : Piece) (s s' : Level) → put space p s ≡ Some s' → HoldsIn T (run_open space s.open_elements) space p → LevelTags T space s → LevelTags T space s'
put_tags T space (start_tag name tail) s s' e h l =
    let P : Level → Type 0 = λ s. LevelTags T space s in
    subst P (same_Some (level (record { name = name; tail = tail; before = s.kids } ∷ s.open_elements) no_nodes) s' e) ((h, l.1, l.0), tt)
put_tags T space (empty_tag name tail) s s' e h l =
    let P : Level → Type 0 = λ s. LevelTags T space s in
    subst P (same_Some (level s.open_elements (s.kids ⊕ one_element name space tail Empty no_nodes)) s' e) (l.0, tags-⊕ T (run_open space s.open_elements) s.kids (one_element name space tail Empty no_nodes) l.1 (h Empty, tt, tt))
put_tags T space (stretch b) s s' e h l =
    let P : Level → Type 0 = λ s. LevelTags T space s in
    subst P (same_Some (level s.open_elements (s.kids ⊕ bytes b no_nodes)) s' e) (l.0, tags-⊕ T (run_open space s.open_elements) s.kids (bytes b no_nodes) l.1 tt)
put_tags T space (end_tag name white) s s' e h l = shut_tags T space s.open_elements s.kids name white s' e l.0 l.1

-- ---- how many nodes there are

abbrev open_count : List Open → ℕ
open_count [] = 0
open_count (f ∷ fs) = open_count fs + count f.before + 1

abbrev pub level_count : Level → ℕ
level_count s = open_count s.open_elements + count s.kids

shut_count : (space : Space) (fs : List Open) (kids : Nodes) (name : Name) (white : List ℕ) (s' : Level) → shut space fs kids name white ≡ Some s' → level_count s' ≡ open_count fs + count kids
shut_count space [] kids name white s' e = absurd (none-some s' e)
shut_count space (f ∷ fs) kids name white s' e =
    let r = shut_some space f fs kids name white s' e in
    omega (arith, ap level_count r.1, count-⊕ f.before (one_element f.name space f.tail (End white) kids))

put_count : (space : Space) (p : Piece) (s s' : Level) → put space p s ≡ Some s' → level_count s' ≡ level_count s + piece_count p
put_count space (start_tag name tail) s s' e =
    omega (arith, ap level_count (same_Some (level (record { name = name; tail = tail; before = s.kids } ∷ s.open_elements) no_nodes) s' e))
put_count space (empty_tag name tail) s s' e =
    omega (arith, ap level_count (same_Some (level s.open_elements (s.kids ⊕ one_element name space tail Empty no_nodes)) s' e), count-⊕ s.kids (one_element name space tail Empty no_nodes))
put_count space (stretch b) s s' e =
    omega (arith, ap level_count (same_Some (level s.open_elements (s.kids ⊕ bytes b no_nodes)) s' e), count-⊕ s.kids (bytes b no_nodes))
put_count space (end_tag name white) s s' e = omega (arith, shut_count space s.open_elements s.kids name white s' e)

-- ---- how many elements there are

elements-⊕ : (x y : Nodes) → elements (x ⊕ y) ≡ elements x + elements y
elements-⊕ no_nodes y = omega arith
elements-⊕ (bytes b rest) y = elements-⊕ rest y
elements-⊕ (element tag kids rest) y = omega (arith, elements-⊕ rest y)

abbrev open_elements_count : List Open → ℕ
open_elements_count [] = 0
open_elements_count (f ∷ fs) = open_elements_count fs + elements f.before + 1

abbrev pub level_elements : Level → ℕ
level_elements s = open_elements_count s.open_elements + elements s.kids

shut_elements : (space : Space) (fs : List Open) (kids : Nodes) (name : Name) (white : List ℕ) (s' : Level) → shut space fs kids name white ≡ Some s' → level_elements s' ≡ open_elements_count fs + elements kids
shut_elements space [] kids name white s' e = absurd (none-some s' e)
shut_elements space (f ∷ fs) kids name white s' e =
    let r = shut_some space f fs kids name white s' e in
    omega (arith, ap level_elements r.1, elements-⊕ f.before (one_element f.name space f.tail (End white) kids))

put_elements : (space : Space) (p : Piece) (s s' : Level) → put space p s ≡ Some s' → level_elements s' ≡ level_elements s + piece_elements p
put_elements space (start_tag name tail) s s' e =
    omega (arith, ap level_elements (same_Some (level (record { name = name; tail = tail; before = s.kids } ∷ s.open_elements) no_nodes) s' e))
put_elements space (empty_tag name tail) s s' e =
    omega (arith, ap level_elements (same_Some (level s.open_elements (s.kids ⊕ one_element name space tail Empty no_nodes)) s' e), elements-⊕ s.kids (one_element name space tail Empty no_nodes))
put_elements space (stretch b) s s' e =
    omega (arith, ap level_elements (same_Some (level s.open_elements (s.kids ⊕ bytes b no_nodes)) s' e), elements-⊕ s.kids (bytes b no_nodes))
put_elements space (end_tag name white) s s' e = omega (arith, shut_elements space s.open_elements s.kids name white s' e)

-- ---- how deep they go

abbrev open_depth : List Open → ℕ
open_depth [] = 0
open_depth (f ∷ fs) = max (open_depth fs) (length fs + depth_of f.before)

abbrev pub level_depth : Level → ℕ
level_depth s = max (open_depth s.open_elements) (length s.open_elements + depth_of s.kids)

shut_depth : (space : Space) (fs : List Open) (kids : Nodes) (name : Name) (white : List ℕ) (s' : Level) → shut space fs kids name white ≡ Some s' → level_depth s' ≡ max (open_depth fs) (length fs + depth_of kids)
shut_depth space [] kids name white s' e = absurd (none-some s' e)
shut_depth space (f ∷ fs) kids name white s' e =
    let r = shut_some space f fs kids name white s' e in
    omega (arith, ap level_depth r.1, depth-⊕ f.before (one_element f.name space f.tail (End white) kids))

pub put_depth : (space : Space) (p : Piece) (s s' : Level) → put space p s ≡ Some s' → level_depth s' ≡ deepest_with p (length s.open_elements + 1) (level_depth s)
put_depth space (start_tag name tail) s s' e =
    omega (arith, ap level_depth (same_Some (level (record { name = name; tail = tail; before = s.kids } ∷ s.open_elements) no_nodes) s' e))
put_depth space (empty_tag name tail) s s' e =
    omega (arith, ap level_depth (same_Some (level s.open_elements (s.kids ⊕ one_element name space tail Empty no_nodes)) s' e), depth-⊕ s.kids (one_element name space tail Empty no_nodes))
put_depth space (stretch b) s s' e =
    omega (arith, ap level_depth (same_Some (level s.open_elements (s.kids ⊕ bytes b no_nodes)) s' e), depth-⊕ s.kids (bytes b no_nodes))
put_depth space (end_tag name white) s s' e = omega (arith, shut_depth space s.open_elements s.kids name white s' e)

-- ---- the loop's invariant

-- of these bytes all but the rest was read as some level, of whose open elements the code has the names, and of whose nodes
-- the counts
pub record IsPassing (T : Bool → Tag → Type 0) (space : Space) (bs rest : List ℕ) (names : List Name) (nodes elems deepest : ℕ) : Type 0 where
  pub so_far : Level
  pub whole : level_then so_far rest ≡ bs
  pub laid : IsLaidAt space so_far rest
  pub all_tags : LevelTags T space so_far
  pub open_names : names_open so_far.open_elements ≡ names
  pub counted : level_count so_far ≡ nodes
  pub among : level_elements so_far ≡ elems
  pub deep : level_depth so_far ≡ deepest
  pub few : nodes + length rest ≤ length bs
  pub fewer : elems ≤ nodes

pub passing_begins : (T : Bool → Tag → Type 0) (space : Space) (bs : List ℕ) → IsPassing T space bs bs [] 0 0 0
passing_begins T space bs = record {
  so_far = level [] no_nodes;
  whole = refl;
  laid = record { opens_laid = tt; kids_laid = tt; follows = λ e. absurd cc };
  all_tags = (tt, tt);
  open_names = refl;
  counted = refl;
  among = refl;
  deep = omega arith;
  few = omega arith;
  fewer = omega arith;
}

at_most_one : (p : Piece) → (piece_count p ≤ 1) × (piece_elements p ≤ piece_count p)
at_most_one (start_tag name tail) = (omega arith, omega arith)
at_most_one (empty_tag name tail) = (omega arith, omega arith)
at_most_one (stretch b) = (omega arith, omega arith)
at_most_one (end_tag name white) = (omega arith, omega arith)

pub passing_goes : (T : Bool → Tag → Type 0) (space : Space) (bs rest : List ℕ) (names names' : List Name) (nodes elems deepest : ℕ) (x : Piece × List ℕ) → IsPassing T space bs rest names nodes elems deepest → piece_at InElement rest ≡ Some x → put_name x.0 names ≡ Some names' → HoldsIn T (is_run_open space names) space x.0
    → IsPassing T space bs x.1 names' (nodes + piece_count x.0) (elems + piece_elements x.0) (deepest_with x.0 (length names + 1) deepest)
passing_goes T space bs rest names names' nodes elems deepest x g e p h =
    let s = g.so_far in
    let k = piece_takes InElement rest x e in
    let Q : List Name → Type 0 = λ ns. put_name x.0 ns ≡ Some names' in
    let R : List Name → Type 0 = λ ns. HoldsIn T (is_run_open space ns) space x.0 in
    let n = put_by_name space x.0 s names' (subst Q (sym g.open_names) p) in
    let P : List ℕ → Type 0 = λ cs. IsLaidAt space s cs in
    record {
      so_far = n.next;
      whole = put_text space x.0 s n.next x.1 n.is ∙ ap (level_then s) (sym k.whole) ∙ g.whole;
      laid = put_laid space x.0 s n.next x.1 n.is k.legal k.follows (subst P k.whole g.laid);
      all_tags = put_tags T space x.0 s n.next n.is (subst R (sym g.open_names) h) g.all_tags;
      open_names = n.names;
      deep = put_depth space x.0 s n.next n.is ∙ ap (λ (d : ℕ). deepest_with x.0 (length s.open_elements + 1) d) g.deep ∙ ap (λ (l : ℕ). deepest_with x.0 (l + 1) deepest) (sym (length-names s.open_elements) ∙ ap length g.open_names);
      counted = put_count space x.0 s n.next n.is ∙ ap (λ (c : ℕ). c + piece_count x.0) g.counted;
      among = put_elements space x.0 s n.next n.is ∙ ap (λ (c : ℕ). c + piece_elements x.0) g.among;
      few = omega (arith, g.few, piece_shorter InElement rest x e, (at_most_one x.0).0);
      fewer = omega (arith, g.fewer, (at_most_one x.0).1);
    }

-- the end tag of the innermost open element

abbrev head_or : Name → List Name → Name
head_or name [] = name
head_or name (n ∷ ns) = n

first_name : (space : Space) (fs : List Open) (name : Name) (names : List Name) → names_open fs ≡ name ∷ names → AreLaidOpen space fs → IsName name
first_name space [] name names e laid = absurd cc
first_name space (f ∷ fs) name names e laid = subst IsName (ap (head_or name) e) laid.0.name

pub passing_closes : (T : Bool → Tag → Type 0) (space : Space) (bs rest : List ℕ) (before after : List code.Name) (nodes elems deepest : ℕ) (behind : List ℕ) → IsPassing T space bs rest (names_view before) nodes elems deepest → ClosesLast before after rest behind → IsPassing T space bs behind (names_view after) nodes elems deepest
passing_closes T space bs rest before after nodes elems deepest behind g c =
    let name = c.name in
    let named = first_name space g.so_far.open_elements name (names_view after) (g.open_names ∙ c.names) g.laid.opens_laid in
    let read : piece_at InElement rest ≡ Some (end_tag name [], behind) = ap (piece_at InElement) c.whole ∙ piece_again InElement (end_tag name []) behind (named, refl) tt in
    let shuts : shut_name (names_view before) name ≡ Some (names_view after) = ap (λ (ns : List Name). shut_name ns name) c.names ∙ rw (name_same name) refl in
    let more = passing_goes T space bs rest (names_view before) (names_view after) nodes elems deepest (end_tag name [], behind) g read shuts tt in
    let P : ℕ → Type 0 = λ n. IsPassing T space bs behind (names_view after) n (elems + 0) deepest in
    let Q : ℕ → Type 0 = λ n. IsPassing T space bs behind (names_view after) nodes n deepest in
    subst Q (omega arith) (subst P (omega arith) more)

passed_at : (T : Bool → Tag → Type 0) (space : Space) (bs rest : List ℕ) (nodes elems deepest : ℕ) (fs : List Open) (kids : Nodes) → names_open fs ≡ [] → level_then (level fs kids) rest ≡ bs → IsLaidAt space (level fs kids) rest → LevelTags T space (level fs kids) → level_count (level fs kids) ≡ nodes → level_elements (level fs kids) ≡ elems → level_depth (level fs kids) ≡ deepest → IsPassed T space bs rest nodes elems deepest
passed_at T space bs rest nodes elems deepest (f ∷ fs) kids none w l t c m d = absurd cc
passed_at T space bs rest nodes elems deepest [] kids none w l t c m d = record {
  front = text kids;
  made = kids;
  whole = sym w ∙ sym (tree-then kids rest);
  reads = ap (nodes_at space) (tree-text kids) ∙ nodes_again space kids l.kids_laid;
  all_tags = t.1;
  fits = l.follows;
  counted = omega (arith, c);
  among = omega (arith, m);
  deep = omega (arith, d);
}

pub passing_ends : (T : Bool → Tag → Type 0) (space : Space) (bs rest : List ℕ) (nodes elems deepest : ℕ) → IsPassing T space bs rest [] nodes elems deepest → IsPassed T space bs rest nodes elems deepest
passing_ends T space bs rest nodes elems deepest g = passed_at T space bs rest nodes elems deepest g.so_far.open_elements g.so_far.kids g.open_names g.whole g.laid g.all_tags g.counted g.among g.deep

-- ---- the code's names

-- what is known of a turn's calls
pub record IsTurn (T : Bool → Tag → Type 0) (space : Space) (rest behind : List ℕ) (ns ns' : List code.Name) (p : Piece) : Type 0 where
  pub read : piece_at InElement rest ≡ Some (p, behind)
  pub taken : put_name p (names_view ns) ≡ Some (names_view ns')
  pub holds : HoldsIn T (is_run_open space (names_view ns)) space p

-- the calls of a turn make one
pub passing_turns : (T : Bool → Tag → Type 0) (space : Space) (bs rest behind : List ℕ) (ns ns' : List code.Name) (nodes n elems m deepest deepest' depth : ℕ) (p : Piece) → IsPassing T space bs rest (names_view ns) nodes elems deepest → IsTurn T space rest behind ns ns' p → n ≡ piece_count p → m ≡ piece_elements p
    → depth ≡ length ns → deepest' ≡ deepest_with p (depth + 1) deepest → IsPassing T space bs behind (names_view ns') (nodes + n) (elems + m) deepest'
passing_turns T space bs rest behind ns ns' nodes n elems m deepest deepest' depth p g t c k l d =
    let names = names_view ns in
    let long : length names ≡ length ns = length-map (reverse ns) name_view ∙ length-reverse ns in
    let Q : ℕ → Type 0 = λ k. IsPassing T space bs behind (names_view ns') (nodes + k) (elems + piece_elements p) (deepest_with p (length names + 1) deepest) in
    let S : ℕ → Type 0 = λ k. IsPassing T space bs behind (names_view ns') (nodes + n) (elems + k) (deepest_with p (length names + 1) deepest) in
    let R : ℕ → Type 0 = λ k. IsPassing T space bs behind (names_view ns') (nodes + n) (elems + m) k in
    let same : deepest_with p (length names + 1) deepest ≡ deepest' = ap (λ (k : ℕ). deepest_with p (k + 1) deepest) (long ∙ sym l) ∙ sym d in
    subst R same (subst S (sym k) (subst Q (sym c) (passing_goes T space bs rest names (names_view ns') nodes elems deepest (p, behind) g t.read t.taken t.holds)))

pub passing_over : (T : Bool → Tag → Type 0) (space : Space) (bs rest : List ℕ) (names : List Name) (nodes elems deepest : ℕ) → IsPassing T space bs rest names nodes elems deepest → names ≡ [] → IsPassed T space bs rest nodes elems deepest
passing_over T space bs rest names nodes elems deepest g e =
    let Q : List Name → Type 0 = λ ns. IsPassing T space bs rest ns nodes elems deepest in
    passing_ends T space bs rest nodes elems deepest (subst Q e g)

pub no_names : (ns : List code.Name) → length ns ≡ 0 → names_view ns ≡ []
no_names [] e = refl
no_names (n ∷ ns) e = absurd cc

-- without the last name, the innermost open element is closed
pub last_popped : (old new : List code.Name) (name : code.Name) → old ≡ new ++ name ∷ [] → names_view old ≡ name_view name ∷ names_view new
last_popped old new name e = ap names_view e ∙ ap (map name_view) (reverse-append new (name ∷ []))

-- the innermost open element is the last name

abbrev pub first_of : {A : Type 0} → List A → Option A
first_of [] = None
first_of (x ∷ xs) = Some x

first_append : {A : Type 0} (xs ys : List A) → (length xs ≢ 0) → first_of (xs ++ ys) ≡ first_of xs
first_append [] ys some = absurd (some refl)
first_append (x ∷ xs) ys some = refl

first_reversed : {A : Type 0} (n : A) (ns : List A) → first_of (reverse (n ∷ ns)) ≡ slice_get (n ∷ ns) (length ns)
first_reversed n [] = refl
first_reversed n (m ∷ ms) =
    ap first_of (reverse-append (n ∷ []) (m ∷ ms))
    ∙ first_append (reverse (m ∷ ms)) (reverse (n ∷ [])) (λ e. omega (arith, e, length-reverse (m ∷ ms)))
    ∙ first_reversed m ms

abbrev pub run_of : Space → Option code.Name → Bool
run_of space None = is_run_open space []
run_of space (Some name) = is_run_open space (name_view name ∷ [])

run_view : (space : Space) (ns : List code.Name) → is_run_open space (map name_view ns) ≡ run_of space (first_of ns)
run_view space [] = refl
run_view space (n ∷ ns) = refl

pub run_by_last : (space : Space) (ns : List code.Name) (last : Option code.Name) → last ≡ slice_get ns (length ns - 1) → run_of space last ≡ is_run_open space (names_view ns)
run_by_last space [] last e = ap (run_of space) e
run_by_last space (n ∷ ns) last e =
    let same : length ns ≡ length (n ∷ ns) - 1 = omega arith in
    sym (run_view space (reverse (n ∷ ns)) ∙ ap (run_of space) (first_reversed n ns ∙ ap (slice_get (n ∷ ns)) same ∙ sym e))

-- what holds of this one where there is none, and of the one before
pub last_holds : {A : Type 0} (P : A → Type 0) (n : ℕ) (this : A) (before : Option A) → (n ≡ 0 → P this) → IfSome before P → IfSome (if n == 0 then Some this else before) P
last_holds {A} P n this before here earlier = by (n == 0) refl where
  by : (b : Bool) → (n == 0) ≡ b → IfSome (if b then Some this else before) P
  by true e = here (eqb-true n 0 e)
  by false e = earlier

-- where this one is, the bytes behind it are those behind
pub last_rest : (bs : List ℕ) (n : ℕ) (this : Idle) (before : Option Idle) → n ≡ 0 → rest_behind bs (if n == 0 then Some this else before) ≡ this.rest.now
last_rest bs n this before e = rw e refl
