-- Rule 1 holds again after a pass: a cell that ends with a paragraph does so still.
use Prim.Native.String.{String}
use Rattle.std.proofs.Common.{◌≡◌, List, [], ◌∷◌, Bool, true, false, ◌&&◌, ◌||◌, not, Option, Some, None, is_some, refl, sym, ap, ◌∙◌, subst, true≢false, codes, if◌then◌else◌}
use Rattle.std.proofs.lemmas.Bool.{and_from, or_parts, or_from, false_from_ne_true, and_right, and_left}
use Rattle.redl_tree.specs.Model.Nodes.{Tag, Nodes, no_nodes, bytes, element, ◌⊕◌}
use Rattle.redl_tree.specs.Roles.Names.{is, is_any, is_w, is_m}
use Rattle.redl_tree.specs.Model.Kids.{only, some_element}
use Rattle.redl_tree.specs.Roles.Places.{is_quiet, is_open, is_range_edge, trace_of}
use Rattle.redl_tree.specs.Roles.Lists.{into, place, inside, is_direct, in_blocks, in_rows, in_cells, is_wrapper, is_shell, is_thick}
use Rattle.redl_tree.specs.Roles.Kinds.{is_leave}
use Rattle.redl_tree.specs.Decisions.Fates.{fate, fate_of, say_of, renamed}
use Rattle.redl_tree.specs.Decisions.Tables.{goes, goes_at, para_is_cut}
use Rattle.redl_tree.specs.Decisions.Groups.{GroupPiece, para, thin, thick, paragraph_next, has_thick, joins, joined_tag, joined_kids, given, held_by, grouped_from}
use Rattle.redl_tree.specs.Decisions.Pass.{kept_kids, element_pass, is_block_para, piece, pieces, pass}
use Rattle.redl_tree.specs.Rules.Tests.{Test, open_one}
use Rattle.redl_tree.specs.Rules.CellEnds.{is_so, end_of_one, or_before, end_of_two, end_of}
use Rattle.redl_tree.specs.Rules.Sound.{in_content, test_1}
use Rattle.redl_tree.specs.declared.lists.Reach.{Reach}
use Rattle.redl_tree.specs.declared.lists.Reach.TheVariants.{Direct, Control, Beyond}
use Rattle.redl_tree.specs.declared.lists.Lot.TheVariants.{Blocks}
use Rattle.redl_tree.specs.declared.kinds.Space.TheVariants.{W}
use Rattle.redl_tree.specs.declared.kinds.Say.{Say}
use Rattle.redl_tree.proofs.Decisions.PassLaws.{each, pass-each, next-thick}
use Rattle.redl_tree.proofs.Roles.EndLaws.{two_none}
use Rattle.redl_tree.proofs.Roles.Named.{by_name, by_names, by_trace}
use Rattle.redl_tree.proofs.Roles.Fits.{Fits, OpenKind, plain, content, marker, open_fits, open_∷, true_false}
use Rattle.redl_laws.proofs.Soundness.AlikeTags.{Like, like_thick, like_any, own_renamed, like_into}
use Rattle.redl_laws.proofs.Soundness.Ancestors.{Came, past_content, free3, came_open, implies_from, implies_of, in_blocks-reach, reach_trace, past_self}
use Rattle.redl_laws.proofs.Soundness.Walk.{Holds, Stands, Ground, Kept, made, change_shut, content_fits, some-⊕}
use Rattle.redl_laws.proofs.Soundness.TopLaws.{one_pass, From, content_each, some_one}
use Rattle.redl_laws.proofs.Soundness.Properties.{made_open, open_came, no_p, shut_one}
use Rattle.redl_laws.proofs.Soundness.RowLaws.{plain_stays}

-- Ends

before_assoc : (x y z : Option Bool) → or_before x (or_before y z) ≡ or_before (or_before x y) z
before_assoc x y (Some z) = refl
before_assoc x y None = refl

two_assoc : (reach : Reach) (x y z : Option Bool) → end_of_two reach x (end_of_two reach y z) ≡ end_of_two reach (end_of_two reach x y) z
two_assoc Direct x y z = before_assoc x y z
two_assoc Beyond x y z = before_assoc x y z
two_assoc Control (Some true) y z = refl
two_assoc Control (Some false) (Some true) z = refl
two_assoc Control None (Some true) z = refl
two_assoc Control (Some false) (Some false) z = before_assoc (Some false) (Some false) z
two_assoc Control None (Some false) z = before_assoc None (Some false) z
two_assoc Control (Some false) None z = before_assoc (Some false) None z
two_assoc Control None None z = before_assoc None None z

two_last : (reach : Reach) (x : Option Bool) → end_of_two reach x None ≡ x
two_last Direct x = refl
two_last Beyond x = refl
two_last Control (Some true) = refl
two_last Control (Some false) = refl
two_last Control None = refl

end-⊕ : (reach : Reach) (xs ys : Nodes) → end_of reach (xs ⊕ ys) ≡ end_of_two reach (end_of reach xs) (end_of reach ys)
end-⊕ reach no_nodes ys = sym (two_none reach (end_of reach ys))
end-⊕ reach (bytes b rest) ys = end-⊕ reach rest ys
end-⊕ reach (element t k rest) ys =
    ap (end_of_two reach (end_of_one reach t (end_of (into reach t) k))) (end-⊕ reach rest ys)
    ∙ two_assoc reach (end_of_one reach t (end_of (into reach t) k)) (end_of reach rest) (end_of reach ys)

-- what is no thick element
pub record Thin (t : Tag) : Type 0 where
  pub para : is "p" t ≡ false
  pub wrapper : is_wrapper t ≡ false
  pub thick : is_thick t ≡ false

thin_of : (t : Tag) → is_thick t ≡ false → Thin t
thin_of t e =
    let a = or_parts (is_any ("p" ∷ "tbl" ∷ "sdt" ∷ "customXml" ∷ "altChunk" ∷ []) t) (not (is_w t.space || is_m t.space)) e in
    let b = or_parts (is "p" t) _ a.0 in
    let c = or_parts (is "tbl" t) _ b.1 in
    let d = or_parts (is "sdt" t) _ c.1 in
    let f = or_parts (is "customXml" t) _ d.1 in
    record { para = b.0; wrapper = or_from (is "sdt" t) (is "customXml" t || false) d.0 (or_from (is "customXml" t) false f.0 refl); thick = e }

thin_if : (p w t : Bool) (inner : Option Bool) → p ≡ false → w ≡ false → t ≡ false → (if p then Some true else if w then Some (is_so inner) else if t then Some false else None) ≡ None
thin_if p w t inner a b c = rw (a, b, c) refl

thin_end : (t : Tag) (inner : Option Bool) → Thin t → end_of_one Direct t inner ≡ None
thin_end t inner h = thin_if (is "p" t) (is_wrapper t) (is_thick t) inner h.para h.wrapper h.thick

no_thick_end : (xs : Nodes) → some_element is_thick xs ≡ false → end_of Direct xs ≡ None
no_thick_end no_nodes e = refl
no_thick_end (bytes b rest) e = no_thick_end rest e
no_thick_end (element t k rest) e =
    let both = or_parts (is_thick t) (some_element is_thick rest) e in
    ap (or_before (end_of_one Direct t (end_of (into Direct t) k))) (no_thick_end rest both.1) ∙ ap (λ x. or_before x None) (thin_end t (end_of (into Direct t) k) (thin_of t both.0))

-- Pieces

abbrev piece_end : GroupPiece → Option Bool
piece_end (para tag cut kids) = Some true
piece_end (thin nodes) = None
piece_end (thick nodes) = Some (is_so (end_of Direct nodes))

abbrev last_of : List GroupPiece → Option Bool
last_of [] = None
last_of (p ∷ ps) = or_before (piece_end p) (last_of ps)

abbrev EndOk : GroupPiece → Type 0
EndOk (para tag cut kids) = is "p" tag ≡ true
EndOk (thin nodes) = end_of Direct nodes ≡ None
EndOk (thick nodes) = Unit {0}

abbrev EndsOk : List GroupPiece → Type 0
EndsOk [] = Unit {0}
EndsOk (p ∷ ps) = EndOk p × EndsOk ps

not_so : (o : Option Bool) → is_so o ≡ true → o ≡ Some true
not_so None e = absurd (true≢false (sym e))
not_so (Some true) e = refl
not_so (Some false) e = absurd (true≢false (sym e))

last_none : (ps : List GroupPiece) → last_of ps ≡ None → has_thick ps ≡ false
last_none [] e = refl
last_none (p ∷ ps) e = at p (last_of ps) refl e (last_none ps)
  where
    at : (p : GroupPiece) (later : Option Bool) → last_of ps ≡ later → or_before (piece_end p) later ≡ None → (last_of ps ≡ None → has_thick ps ≡ false) → has_thick (p ∷ ps) ≡ false
    at p (Some y) w e ih = cc
    at (para t c k) None w e ih = cc
    at (thin n) None w e ih = ih w
    at (thick n) None w e ih = cc

p_end : (tag : Tag) (kids : Nodes) → is "p" tag ≡ true → end_of Direct (element tag kids no_nodes) ≡ Some true
p_end tag kids e = rw e refl

joined_p : (held : Option Nodes) (tag : Tag) → is "p" tag ≡ true → is "p" (joined_tag held tag) ≡ true
joined_p None tag e = e
joined_p (Some held) tag e = e

-- a paragraph with nothing thick behind it stays
given_last : (p : GroupPiece) (held : Option Nodes) (ps : List GroupPiece) → EndOk p → last_of ps ≡ None → piece_end p ≡ Some true →
    end_of Direct (given p held (joins p ps) (has_thick ps || false)) ≡ Some true
given_last (para tag cut kids) held ps ok n e = at cut (paragraph_next ps) (has_thick ps) (next-thick ps (last_none ps n)) (last_none ps n)
  where
    at : (c x h : Bool) → x ≡ false → h ≡ false → end_of Direct (given (para tag c kids) held (c && x) (h || false)) ≡ Some true
    at true false false a b = p_end (joined_tag held tag) (joined_kids held kids) (joined_p held tag ok)
    at true true h a b = absurd (true≢false a)
    at true false true a b = absurd (true≢false b)
    at false x h a b = p_end (joined_tag held tag) (joined_kids held kids) (joined_p held tag ok)
given_last (thin nodes) held ps ok n e = cc
given_last (thick nodes) held ps ok n e = not_so (end_of Direct nodes) (let s : is_so (end_of Direct nodes) ≡ true = cc in s)

given_none : (p : GroupPiece) (held : Option Nodes) (joining followed : Bool) → EndOk p → piece_end p ≡ None → end_of Direct (given p held joining followed) ≡ None
given_none (para tag cut kids) held joining followed ok e = cc
given_none (thin nodes) None joining followed ok e = ok
given_none (thin nodes) (Some held) joining followed ok e = refl
given_none (thick nodes) held joining followed ok e = cc

combine_good : (pe later ce cr : Option Bool) → or_before pe later ≡ Some true → (later ≡ None → pe ≡ Some true → ce ≡ Some true) → (later ≡ Some true → cr ≡ Some true) → (later ≡ None → cr ≡ None) →
    or_before ce cr ≡ Some true
combine_good pe (Some y) ce cr e f g h = rw (g e) refl
combine_good pe None ce cr e f g h = rw (f refl e, h refl) refl

combine_none : (pe later ce cr : Option Bool) → or_before pe later ≡ None → (pe ≡ None → ce ≡ None) → (later ≡ None → cr ≡ None) → or_before ce cr ≡ None
combine_none pe (Some y) ce cr e f h = cc
combine_none pe None ce cr e f h = rw (f e, h refl) refl

-- what the result ends with
record Ends (held : Option Nodes) (ps : List GroupPiece) : Type 0 where
  good : last_of ps ≡ Some true → end_of Direct (grouped_from false held ps) ≡ Some true
  none : last_of ps ≡ None → end_of Direct (grouped_from false held ps) ≡ None

ends_of : (held : Option Nodes) (ps : List GroupPiece) → EndsOk ps → Ends held ps
ends_of held [] ok = record { good = λ e. e; none = λ e. refl }
ends_of held (p ∷ ps) ok =
    let later = held_by p held (joins p ps) in
    let here = given p held (joins p ps) (has_thick ps || false) in
    let rest = grouped_from false later ps in
    let ih = ends_of later ps ok.1 in
    record {
      good = λ e. end-⊕ Direct here rest ∙ combine_good (piece_end p) (last_of ps) (end_of Direct here) (end_of Direct rest) e (λ n y. given_last p held ps ok.0 n y) ih.good ih.none;
      none = λ e. end-⊕ Direct here rest ∙ combine_none (piece_end p) (last_of ps) (end_of Direct here) (end_of Direct rest) e (given_none p held (joins p ps) (has_thick ps || false) ok.0) ih.none;
    }

-- Lists among blocks

thick_from : From is_thick is_thick
thick_from a b l e = sym (like_thick a b l) ∙ e

abbrev AtBlocks : Reach → List Tag → Type 0
AtBlocks reach ancestors = (place ancestors ≡ record { lot = Blocks; reach = reach }) × (is_open ancestors ≡ true)

-- a list of blocks ends as it did
record Keeps (xs ys : Nodes) : Type 0 where
  good : end_of Direct xs ≡ Some true → end_of Direct ys ≡ Some true
  none : end_of Direct xs ≡ None → end_of Direct ys ≡ None

-- some content of a control ends well, where one did
abbrev KeepsOne : Nodes → Nodes → Type 0
KeepsOne xs ys = end_of Control xs ≡ Some true → end_of Control ys ≡ Some true

-- what the pieces of a block list end with
record KeepsPieces (xs : Nodes) (ps : List GroupPiece) : Type 0 where
  good : end_of Direct xs ≡ Some true → last_of ps ≡ Some true
  none : end_of Direct xs ≡ None → last_of ps ≡ None
  ok : EndsOk ps

keeps_direct : (says : List Say) (ancestors : List Tag) (nodes : Nodes) → KeepsPieces nodes (pieces says ancestors nodes) → Keeps nodes (pass says ancestors nodes)
keeps_direct says ancestors nodes k =
    let e = ends_of None (pieces says ancestors nodes) k.ok in
    record { good = λ x. e.good (k.good x); none = λ x. e.none (k.none x) }

keeps_control : (says : List Say) (ancestors : List Tag) (nodes : Nodes) → AtBlocks Control ancestors → KeepsOne nodes (each says ancestors nodes) → KeepsOne nodes (pass says ancestors nodes)
keeps_control says ancestors nodes h k x = ap (end_of Control) (pass-each says ancestors nodes (rw h.0 refl)) ∙ k x

-- content revisions among blocks give no thick element
foreign_thick : (ext : Test) → (says : List Say) (ancestors : List Tag) (nodes : Nodes) → in_content ancestors ≡ true → in_blocks (past_content ancestors) ≡ true → is_open ancestors ≡ true → Ground ext ancestors nodes →
    some_element is_thick (each says ancestors nodes) ≡ false
foreign_thick ext says ancestors no_nodes i p o g = refl
foreign_thick ext says ancestors (bytes b rest) i p o g = foreign_thick ext says ancestors rest i p o g
foreign_thick ext says ancestors (element a kids rest) i p o g =
    some-⊕ is_thick (element_pass says ancestors a kids (pass says (a ∷ ancestors) kids)) (each says ancestors rest)
    (some_one is_thick thick_from a (element_pass says ancestors a kids (pass says (a ∷ ancestors) kids))
    (one_pass says is_thick ancestors a kids (pass says (a ∷ ancestors) kids) (λ e.
    let w = content_fits ancestors a g.0.fits e in
    ap (some_element is_thick) (content_each says (a ∷ ancestors) kids w.1)
    ∙ foreign_thick ext says (a ∷ ancestors) kids w.1 (rw w.1 p) (open_∷ a ancestors (by_trace (λ t. is_quiet t ≡ false) a w.1 (refl, (refl, (refl, (refl, tt))))) ∙ o) g.1))
    (false_from_ne_true (is_thick a) (λ t. (free3 ancestors a kids g.0.rules.rule_3).blocks t i p)))
    (foreign_thick ext says ancestors rest i p o g.2)

-- one element of a block list

record PieceKeeps (pe : Option Bool) (p : GroupPiece) : Type 0 where
  good : pe ≡ Some true → piece_end p ≡ Some true
  none : pe ≡ None → piece_end p ≡ None
  ok : EndOk p

piece_keeps : (p w t cut : Bool) (tag : Tag) (passed n : Nodes) (inner : Option Bool) → (p ≡ true → is "p" tag ≡ true) → (w ≡ true → t ≡ true) →
    (w ≡ true → is_so inner ≡ true → is_so (end_of Direct n) ≡ true) → (t ≡ false → end_of Direct n ≡ None) →
    PieceKeeps (if p then Some true else if w then Some (is_so inner) else if t then Some false else None) (if p then para tag cut passed else if t then thick n else thin n)
piece_keeps true w t cut tag passed n inner h k f g = record { good = λ e. refl; none = λ e. e; ok = h refl }
piece_keeps false true true cut tag passed n inner h k f g = record { good = λ e. ap Some (f refl (let s : is_so inner ≡ true = cc in s)); none = λ e. cc; ok = tt }
piece_keeps false true false cut tag passed n inner h k f g = absurd (true≢false (sym (k refl)))
piece_keeps false false true cut tag passed n inner h k f g = record { good = λ e. cc; none = λ e. cc; ok = tt }
piece_keeps false false false cut tag passed n inner h k f g = record { good = λ e. e; none = λ e. refl; ok = g refl }

-- a paragraph among the content is left
p_left : (says : List Say) (a : Tag) → is "p" a ≡ true → OpenKind a → is_leave (fate_of says a) ≡ true
p_left says a e (plain k t) = ap (λ x. is_leave (fate x (say_of says a.rev))) k
p_left says a e (content t k is_t) = absurd (true_false (is_some (trace_of a)) (ap is_some is_t) (by_name (λ t. is_some (trace_of t) ≡ false) "p" a e refl))
p_left says a e (marker k edge) = absurd (true_false (is_range_edge a) edge (by_name (λ t. is_range_edge t ≡ false) "p" a e refl))

-- in a block list the paragraphs are those by name
block_para : (says : List Say) (ancestors : List Tag) (a : Tag) → AtBlocks Direct ancestors → Fits ancestors a → is_block_para says ancestors a ≡ is "p" a
block_para says ancestors a h fit = at (is "p" a) refl (in_blocks ancestors) (rw h.0 refl)
  where
    at : (x : Bool) → is "p" a ≡ x → (y : Bool) → y ≡ true → (x && y && is_leave (fate_of says a)) ≡ x
    at true e y b = rw b (p_left says a e (open_fits ancestors a h.1 fit))
    at false e y b = refl

wrapper_thick : (a : Tag) → is_wrapper a ≡ true → is_thick a ≡ true
wrapper_thick a e = by_names (λ t. is_thick t ≡ true) ("sdt" ∷ "customXml" ∷ []) a e (refl, (refl, tt))

end_one : (reach : Reach) (t : Tag) (kids : Nodes) → end_of reach (element t kids no_nodes) ≡ end_of_one reach t (end_of (into reach t) kids)
end_one reach t kids = two_last reach (end_of_one reach t (end_of (into reach t) kids))

shell_no : (says : List Say) (ancestors : List Tag) (a : Tag) (kids : Nodes) (reach : Reach) → AtBlocks reach ancestors → is "tc" a ≡ false → is "tr" a ≡ false → is "tbl" a ≡ false → goes_at says ancestors a kids ≡ false
shell_no says ancestors a kids reach h p q r =
    and_left (is "tc" a || is "tr" a || is "tbl" a || is_shell ancestors a) (goes says (in_cells ancestors) a kids)
    (or_from _ _ (or_from _ _ (or_from _ _ p q) r) (and_right (is_wrapper a) (in_rows ancestors || in_cells ancestors) (no_grid reach ancestors h.0)))
  where
    no_grid : (reach : Reach) (ancestors : List Tag) → place ancestors ≡ record { lot = Blocks; reach = reach } → (in_rows ancestors || in_cells ancestors) ≡ false
    no_grid Direct ancestors e = rw e refl
    no_grid Control ancestors e = rw e refl
    no_grid Beyond ancestors e = rw e refl

so_wrapper : (p w t : Bool) (inner : Option Bool) → p ≡ false → w ≡ true → (if p then Some true else if w then Some (is_so inner) else if t then Some false else None) ≡ Some (is_so inner)
so_wrapper p w t inner a b = rw (a, b) refl

wrapper_end : (ext : Test) → (says : List Say) (ancestors : List Tag) (a : Tag) (kids passed : Nodes) → AtBlocks Direct ancestors → Fits ancestors a → Ground ext (a ∷ ancestors) kids → is_wrapper a ≡ true →
    is_so (end_of Direct (element_pass says ancestors a kids passed)) ≡ is_so (end_of (into Direct a) passed)
wrapper_end ext says ancestors a kids passed h fit g e =
    let two = λ (P : Tag → Type 0) (x : P (record a { space = W; local = codes "sdt" }))
    (y : P (record a { space = W; local = codes "customXml" })). by_names P ("sdt" ∷ "customXml" ∷ []) a e (x, (y, tt)) in
    let t = renamed says ancestors a in
    let l = (own_renamed says ancestors a).like in
    ap (λ n. is_so (end_of Direct n))
    (plain_stays ext says ancestors a kids passed h.1 fit (two (λ t. is_quiet t ≡ false) refl refl) g (two (λ t. is_some (trace_of t) ≡ false) refl refl) (two (λ t. is_range_edge t ≡ false) refl refl)
    (shell_no says ancestors a kids Direct h (two (λ t. is "tc" t ≡ false) refl refl) (two (λ t. is "tr" t ≡ false) refl refl) (two (λ t. is "tbl" t ≡ false) refl refl)))
    ∙ ap is_so (end_one Direct t passed)
    ∙ ap is_so (so_wrapper (is "p" t) (is_wrapper t) (is_thick t) (end_of (into Direct t) passed)
    (l.name "p" refl ∙ two (λ t. is "p" t ≡ false) refl refl) (like_any ("sdt" ∷ "customXml" ∷ []) a t l refl ∙ e))
    ∙ ap (λ r. is_so (end_of r passed)) (like_into Direct a t l)

-- a thin element gives nothing thick
thin_piece : (ext : Test) → (says : List Say) (ancestors : List Tag) (a : Tag) (kids : Nodes) → AtBlocks Direct ancestors → Fits ancestors a → Ground ext (a ∷ ancestors) kids → is_thick a ≡ false →
    end_of Direct (element_pass says ancestors a kids (pass says (a ∷ ancestors) kids)) ≡ None
thin_piece ext says ancestors a kids h fit g e =
    no_thick_end (element_pass says ancestors a kids (pass says (a ∷ ancestors) kids))
    (some_one is_thick thick_from a (element_pass says ancestors a kids (pass says (a ∷ ancestors) kids))
    (one_pass says is_thick ancestors a kids (pass says (a ∷ ancestors) kids) (λ k.
    let w = content_fits ancestors a fit k in
    ap (some_element is_thick) (content_each says (a ∷ ancestors) kids w.1)
    ∙ foreign_thick ext says (a ∷ ancestors) kids w.1 (past_here ancestors a h w.1) (open_∷ a ancestors (by_trace (λ t. is_quiet t ≡ false) a w.1 (refl, (refl, (refl, (refl, tt))))) ∙ h.1) g)) e)
  where
    not_content : (ancestors : List Tag) → in_blocks ancestors ≡ true → in_content ancestors ≡ true → ⊥
    not_content [] b i = true≢false (sym i)
    not_content (c ∷ ancestors) b i = true≢false (sym b ∙ in_blocks-reach (c ∷ ancestors) ∙ ap is_direct (reach_trace c ancestors i))

    past_here : (ancestors : List Tag) (a : Tag) → AtBlocks Direct ancestors → is_some (trace_of a) ≡ true → in_blocks (past_content (a ∷ ancestors)) ≡ true
    past_here ancestors a h t =
        let b : in_blocks ancestors ≡ true = rw h.0 refl in
        rw (t, past_self ancestors (false_from_ne_true (in_content ancestors) (not_content ancestors b))) b

-- where the kids of a part of a shell stand
inside_blocks : (name : String) (reach inner : Reach) (ancestors : List Tag) (a : Tag) → AtBlocks reach ancestors → is name a ≡ true → is_quiet a ≡ false →
    inside a (record { lot = Blocks; reach = reach }) ≡ record { lot = Blocks; reach = inner } → AtBlocks inner (a ∷ ancestors)
inside_blocks name reach inner ancestors a h e q x = (rw (open_∷ a ancestors q ∙ h.1, h.0) x, open_∷ a ancestors q ∙ h.1)

-- the two sorts of lists
record Facts (says : List Say) (ancestors : List Tag) (nodes : Nodes) : Type 0 where
  of_blocks : AtBlocks Direct ancestors → KeepsPieces nodes (pieces says ancestors nodes)
  of_control : AtBlocks Control ancestors → KeepsOne nodes (each says ancestors nodes)

wrapper_keeps : (says : List Say) (ancestors : List Tag) (a : Tag) (kids : Nodes) → AtBlocks Direct ancestors → is_wrapper a ≡ true → Facts says (a ∷ ancestors) kids →
    is_so (end_of (into Direct a) kids) ≡ true → is_so (end_of (into Direct a) (pass says (a ∷ ancestors) kids)) ≡ true
wrapper_keeps says ancestors a kids h e f = at (is "sdt" a) refl (is "customXml" a) refl
  where
    of_some : (x y : Option Bool) → (x ≡ Some true → y ≡ Some true) → is_so x ≡ true → is_so y ≡ true
    of_some x y k s = ap is_so (k (not_so x s))

    at : (x : Bool) → is "sdt" a ≡ x → (y : Bool) → is "customXml" a ≡ y → is_so (end_of (into Direct a) kids) ≡ true → is_so (end_of (into Direct a) (pass says (a ∷ ancestors) kids)) ≡ true
    at true p y q =
        let r = by_name (λ t. into Direct t ≡ Control) "sdt" a p refl in
        rw r (of_some (end_of Control kids) (end_of Control (pass says (a ∷ ancestors) kids))
        (keeps_control says (a ∷ ancestors) kids (at_sdt p) (f.of_control (at_sdt p))))
      where
        at_sdt : is "sdt" a ≡ true → AtBlocks Control (a ∷ ancestors)
        at_sdt p = inside_blocks "sdt" Direct Control ancestors a h p (by_name (λ t. is_quiet t ≡ false) "sdt" a p refl) (by_name (λ t. inside t (record { lot = Blocks; reach = Direct }) ≡ record { lot = Blocks; reach = Control }) "sdt" a p refl)
    at false p true q =
        let r = by_name (λ t. into Direct t ≡ Direct) "customXml" a q refl in
        rw r (of_some (end_of Direct kids) (end_of Direct (pass says (a ∷ ancestors) kids))
        (keeps_direct says (a ∷ ancestors) kids (f.of_blocks (at_custom q))).good)
      where
        at_custom : is "customXml" a ≡ true → AtBlocks Direct (a ∷ ancestors)
        at_custom q = inside_blocks "customXml" Direct Direct ancestors a h q (by_name (λ t. is_quiet t ≡ false) "customXml" a q refl) (by_name (λ t. inside t (record { lot = Blocks; reach = Direct }) ≡ record { lot = Blocks; reach = Direct }) "customXml" a q refl)
    at false p false q = absurd (true≢false (sym e ∙ or_from (is "sdt" a) (is "customXml" a || false) p (or_from (is "customXml" a) false q refl)))

-- one element of a content Control

end_control : (t : Tag) (inner : Option Bool) → is "sdtContent" t ≡ true → end_of_one Control t inner ≡ inner
end_control t inner e = rw e refl

content_end : (ext : Test) → (says : List Say) (ancestors : List Tag) (a : Tag) (kids passed : Nodes) → AtBlocks Control ancestors → Fits ancestors a → Ground ext (a ∷ ancestors) kids → is "sdtContent" a ≡ true →
    end_of Control (element_pass says ancestors a kids passed) ≡ end_of Direct passed
content_end ext says ancestors a kids passed h fit g e =
    let t = renamed says ancestors a in
    let l = (own_renamed says ancestors a).like in
    let te = l.name "sdtContent" refl ∙ e in
    ap (end_of Control)
    (plain_stays ext says ancestors a kids passed h.1 fit (by_name (λ t. is_quiet t ≡ false) "sdtContent" a e refl) g (by_name (λ t. is_some (trace_of t) ≡ false) "sdtContent" a e refl) (by_name (λ t. is_range_edge t ≡ false) "sdtContent" a e refl)
    (by_name (λ t. goes_at says ancestors t kids ≡ false) "sdtContent" a e refl))
    ∙ end_one Control t passed
    ∙ end_control t (end_of (into Control t) passed) te
    ∙ ap (λ r. end_of r passed) (like_into Control a t l ∙ by_name (λ t. into Control t ≡ Direct) "sdtContent" a e refl)

some_last : (x : Option Bool) → end_of_two Control x (Some true) ≡ Some true
some_last None = refl
some_last (Some true) = refl
some_last (Some false) = refl

combine_some : (pe later ce cr : Option Bool) → end_of_two Control pe later ≡ Some true → (pe ≡ Some true → ce ≡ Some true) → (later ≡ Some true → cr ≡ Some true) → end_of_two Control ce cr ≡ Some true
combine_some (Some true) later ce cr e f g = rw (f refl) refl
combine_some (Some false) (Some y) ce cr e f g = rw (g e) (some_last ce)
combine_some (Some false) None ce cr e f g = cc
combine_some None (Some y) ce cr e f g = rw (g e) (some_last ce)
combine_some None None ce cr e f g = cc

-- a content of a control that ends well does so again
control_keeps : (ext : Test) → (says : List Say) (ancestors : List Tag) (a : Tag) (kids : Nodes) → AtBlocks Control ancestors → Stands ext ancestors a kids → Ground ext (a ∷ ancestors) kids → Facts says (a ∷ ancestors) kids →
    end_of_one Control a (end_of (into Control a) kids) ≡ Some true → end_of Control (element_pass says ancestors a kids (pass says (a ∷ ancestors) kids)) ≡ Some true
control_keeps ext says ancestors a kids h hs g f = at (is "sdtContent" a) refl
  where
    at : (x : Bool) → is "sdtContent" a ≡ x → end_of_one Control a (end_of (into Control a) kids) ≡ Some true → end_of Control (element_pass says ancestors a kids (pass says (a ∷ ancestors) kids)) ≡ Some true
    at true e w =
        let r = by_name (λ t. into Control t ≡ Direct) "sdtContent" a e refl in
        let b = inside_blocks "sdtContent" Control Direct ancestors a h e (by_name (λ t. is_quiet t ≡ false) "sdtContent" a e refl) (by_name (λ t. inside t (record { lot = Blocks; reach = Control }) ≡ record { lot = Blocks; reach = Direct }) "sdtContent" a e refl) in
        let old : end_of_one Control a (end_of (into Control a) kids) ≡ end_of Direct kids = end_control a (end_of (into Control a) kids) e ∙ ap (λ r. end_of r kids) r in
        content_end ext says ancestors a kids (pass says (a ∷ ancestors) kids) h hs.fits g e ∙ (keeps_direct says (a ∷ ancestors) kids (f.of_blocks b)).good (sym old ∙ w)
    at false e w = absurd (let bad : None ≡ Some true = sym (no_control a (end_of (into Control a) kids) e) ∙ w in cc)
      where
        no_control : (a : Tag) (inner : Option Bool) → is "sdtContent" a ≡ false → end_of_one Control a inner ≡ None
        no_control a inner e = rw e refl

facts : (ext : Test) → (says : List Say) (ancestors : List Tag) (nodes : Nodes) → Ground ext ancestors nodes → Facts says ancestors nodes
facts ext says ancestors no_nodes g = record {
  of_blocks = λ h. record { good = λ e. e; none = λ e. e; ok = tt };
  of_control = λ h e. e;
}
facts ext says ancestors (bytes b rest) g =
    let ih = facts ext says ancestors rest g in
    record {
      of_blocks = λ h. let k = ih.of_blocks h in record { good = λ e. ap (or_before None) (k.good e); none = λ e. ap (or_before None) (k.none e); ok = (refl, k.ok) };
      of_control = ih.of_control;
    }
facts ext says ancestors (element a kids rest) g =
    let ih = facts ext says ancestors rest g.2 in
    let below = facts ext says (a ∷ ancestors) kids g.1 in
    record {
      of_blocks = λ h.
          let k = ih.of_blocks h in
          let x = pass says (a ∷ ancestors) kids in
          let n = element_pass says ancestors a kids x in
          let one_of : (Bool → GroupPiece) = λ b. if b then para (renamed says ancestors a) (para_is_cut says kids) (kept_kids says ancestors a kids x) else if is_thick a then thick n else thin n in
          let p : PieceKeeps (end_of_one Direct a (end_of (into Direct a) kids)) (piece says ancestors a kids x) =
          subst (λ b. PieceKeeps (end_of_one Direct a (end_of (into Direct a) kids)) (one_of b)) (sym (block_para says ancestors a h g.0.fits))
          (piece_keeps (is "p" a) (is_wrapper a) (is_thick a) (para_is_cut says kids) (renamed says ancestors a) (kept_kids says ancestors a kids x) n (end_of (into Direct a) kids)
          (λ e. (own_renamed says ancestors a).like.name "p" refl ∙ e) (wrapper_thick a)
          (λ w s. wrapper_end ext says ancestors a kids x h g.0.fits g.1 w ∙ wrapper_keeps says ancestors a kids h w below s)
          (λ t. thin_piece ext says ancestors a kids h g.0.fits g.1 t))
          in
          record {
            good = λ e. combine_good (end_of_one Direct a (end_of (into Direct a) kids)) (end_of Direct rest) (piece_end (piece says ancestors a kids x)) (last_of (pieces says ancestors rest)) e (λ n. p.good) k.good k.none;
            none = λ e. combine_none (end_of_one Direct a (end_of (into Direct a) kids)) (end_of Direct rest) (piece_end (piece says ancestors a kids x)) (last_of (pieces says ancestors rest)) e p.none k.none;
            ok = (p.ok, k.ok);
          };
      of_control = λ h e.
          let x = pass says (a ∷ ancestors) kids in
          end-⊕ Control (element_pass says ancestors a kids x) (each says ancestors rest)
          ∙ combine_some (end_of_one Control a (end_of (into Control a) kids)) (end_of Control rest) (end_of Control (element_pass says ancestors a kids x)) (end_of Control (each says ancestors rest)) e
          (control_keeps ext says ancestors a kids h g.0 g.1 below) (ih.of_control h);
    }

-- RULE 1

stays_1 : (ext : Test) → (says : List Say) (old new : List Tag) (a b : Tag) (kids : Nodes) → Came old new → Like a b → Holds ext old a kids → Ground ext (a ∷ old) kids → open_one "tc" new b ≡ true →
    is_so (end_of Direct (made says old a kids)) ≡ true
stays_1 ext says old new a b kids c l h g o =
    let w = open_came "tc" refl old new a b c l o in
    let quiet = by_name (λ t. is_quiet t ≡ false) "tc" a w.0 refl in
    let s = implies_of _ _ h.rule_1 (and_from (is "tc" a) (is_open old) w.0 w.1) in
    let at : AtBlocks Direct (a ∷ old) =
    (rw (open_∷ a old quiet ∙ w.1) (by_name (λ t. inside t (place old) ≡ record { lot = Blocks; reach = Direct }) "tc" a w.0 refl), open_∷ a old quiet ∙ w.1) in
    ap (λ n. is_so (end_of Direct n)) (made_open ext says old a kids w.1 quiet g)
    ∙ ap is_so ((keeps_direct says (a ∷ old) kids ((facts ext says (a ∷ old) kids g).of_blocks at)).good (not_so (end_of Direct kids) s))

pub kept_1 : (ext : Test) → (says : List Say) → Kept ext says test_1
kept_1 ext says = record {
  stays = λ old new a b kids c pr mk h g s o. implies_from (open_one "tc" new b) (is_so (end_of Direct (made says old a kids))) (stays_1 ext says old new a b kids c o.like h g);
  alone = λ old new a b kids c pr h g e o. implies_from (open_one "tc" new b) (is_so (end_of Direct (pass says (a ∷ old) kids))) (λ w. no_p "tc" new b (o.like.name "p" refl ∙ e) (λ t q. by_name (λ t. is "tc" t ≡ false) "p" t q refl) w);
  joined = λ new a cl kids more e h none.
      implies_from (open_one "tc" new (record a { close = cl })) (is_so (end_of Direct (only (is "pPr") kids ⊕ more)))
      (λ o. no_p "tc" new a e (λ t q. by_name (λ t. is "tc" t ≡ false) "p" t q refl) o);
  former = λ old new a kids c e h g m. implies_from (open_one "tc" new a) (is_so (end_of Direct kids)) (λ o. shut_one "tc" new a (came_open old new c ∙ change_shut old e) o);
}
