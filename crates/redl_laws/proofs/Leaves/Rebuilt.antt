-- What is rebuilt from containers and leaves is the pass.
use Rattle.std.proofs.Common.{◌≡◌, ◌∙◌, refl, sym, ap, subst, List, [], ◌∷◌, ◌++◌, append_assoc, Bool, true, false, true≢false, ◌&&◌, ◌||◌, if◌then◌else◌, Option, Some, None, is_some}
use Rattle.std.specs.Cmp.{second_so}
use Rattle.std.proofs.lemmas.Bool.{and_right, or_parts}
use Rattle.std.proofs.Math.Bool.{or-false}
use Rattle.redl_tree.specs.Model.Nodes.{Tag, Nodes, no_nodes, bytes, element, ◌⊕◌}
use Rattle.redl_tree.specs.Roles.Names.{is}
use Rattle.redl_tree.specs.Model.Kids.{some_element, kids_of_all}
use Rattle.redl_tree.specs.Roles.Places.{is_open, is_range_edge, trace_of}
use Rattle.redl_tree.specs.Roles.Lists.{in_blocks, is_thick}
use Rattle.redl_tree.specs.Roles.Kinds.{is_content, is_mark, is_cut, is_leave}
use Rattle.redl_tree.specs.Decisions.Fates.{fate, fate_of, say_of, renamed}
use Rattle.redl_tree.specs.Decisions.Restored.{after_change}
use Rattle.redl_tree.specs.Decisions.Tables.{goes_at, para_is_cut}
use Rattle.redl_tree.specs.Decisions.Groups.{GroupPiece, para, thin, thick, paragraph_next, has_thick, grouped}
use Rattle.redl_tree.specs.Decisions.Pass.{by_fate, kept_kids, element_pass, is_block_para, piece, pieces, pass}
use Rattle.redl_tree.specs.Leaves.Slots.{has_mark, Sibling, para_sibling, thin_sibling, thick_sibling, open_sibling, Slots, leaf_slot, chain_next, thick_next, chained, chain_after, leaf_of, slot_of, slots_from, sibling, siblings, slots_in}
use Rattle.redl_tree.specs.Leaves.Present.{pass_leaf, stand_ins}
use Rattle.redl_tree.specs.Leaves.Rebuilt.{rebuilt}
use Rattle.redl_tree.specs.declared.kinds.Say.{Say}
use Rattle.redl_tree.specs.declared.kinds.Kind.TheVariants.{Plain}
use Rattle.redl_tree.proofs.Model.Laws.{⊕-no_nodes}
use Rattle.redl_tree.proofs.Decisions.PassLaws.{alone, alone-piece, each, pass-each, pass-outside, ends_cut, grouped-append, pieces-⊕}
use Rattle.redl_tree.proofs.Roles.Named.{by_name}
use Rattle.redl_tree.proofs.Roles.NameLaws.{is_frame, frame-not, frame-apart, frame-quiet}
use Rattle.redl_laws.proofs.Leaves.Following.{grouped-next}
use Rattle.redl_laws.proofs.Leaves.StandIns.{IsPlain, AllPlain, IsAlike, plain-open, plain-renamed, closed-piece}
use Rattle.redl_tree.proofs.Roles.Fits.{Fits, AllFit, OpenKind, plain, content, marker, open_fits, open_none_rejected, open_∷, true_false}

-- a test of which elements are containers, and what its containers are: `IsPath` tells which lists of ancestors are containers
pub record IsOpening (opens : List Tag → Tag → Bool) (IsPath : List Tag → Type 0) : Type 0 where
  pub path : (ancestors : List Tag) (tag : Tag) → IsPath ancestors → opens ancestors tag ≡ true → IsPath (tag ∷ ancestors)
  pub named : (ancestors : List Tag) (tag : Tag) → IsPath ancestors → opens ancestors tag ≡ true → is_frame tag ≡ true
  pub thick : (ancestors : List Tag) (tag : Tag) → IsPath ancestors → opens ancestors tag ≡ true → in_blocks ancestors ≡ true → is_thick tag ≡ true
  pub alike : (ancestors : List Tag) (tag : Tag) → IsPath ancestors → opens ancestors tag ≡ false → IsAlike ancestors tag

-- ---- containers

trace-none : (tag : Tag) → is_frame tag ≡ true → trace_of tag ≡ None
trace-none tag h = rw (frame-not "ins" tag h refl, frame-not "del" tag h refl, frame-not "moveFrom" tag h refl, frame-not "moveTo" tag h refl) refl

-- a container of an indexed story is no revision
pub frame-plain : (ancestors : List Tag) (tag : Tag) → is_open ancestors ≡ true → Fits ancestors tag → is_frame tag ≡ true → tag.kind ≡ Plain
frame-plain ancestors tag o fit h = at (open_fits ancestors tag o fit)
  where
    at : OpenKind tag → tag.kind ≡ Plain
    at (plain k t) = k
    at (content t k e) = absurd (true_false (is_some (trace_of tag)) (ap is_some e) (ap is_some (trace-none tag h)))
    at (marker k e) = absurd (true_false (is_range_edge tag) e (frame-apart ("moveFromRangeStart" ∷ "moveFromRangeEnd" ∷ "moveToRangeStart" ∷ "moveToRangeEnd" ∷ []) tag h refl))

-- what a container gives
pub opened-element : (says : List Say) (ancestors : List Tag) (tag : Tag) (kids passed : Nodes) → AllPlain ancestors → IsPlain tag → AllFit (tag ∷ ancestors) kids →
    element_pass says ancestors tag kids passed ≡ (if goes_at says ancestors tag kids then no_nodes else element tag passed no_nodes)
opened-element says ancestors tag kids passed h p fit =
    ap (λ k. by_fate (fate k (say_of says tag.rev)) (is_content k) passed
    (if goes_at says ancestors tag kids then no_nodes else element (renamed says ancestors tag) (kept_kids says ancestors tag kids passed) no_nodes)) p.1
    ∙ ap (λ t. if goes_at says ancestors tag kids then no_nodes else element t (kept_kids says ancestors tag kids passed) no_nodes) (plain-renamed says ancestors tag h)
    ∙ ap (λ u. if goes_at says ancestors tag kids then no_nodes else element tag (after_change ancestors tag u passed) no_nodes)
    (open_none_rejected says (tag ∷ ancestors) kids (open_∷ tag ancestors (frame-quiet tag p.0) ∙ plain-open ancestors h) fit)

-- ---- siblings and pieces

some-less : (test more : Tag → Bool) (nodes : Nodes) → some_element test nodes ≡ false → some_element (λ tag. test tag && more tag) nodes ≡ false
some-less test more no_nodes h = refl
some-less test more (bytes b rest) h = some-less test more rest h
some-less test more (element tag kids rest) h =
    ap (λ b. (b && more tag) || some_element (λ tag. test tag && more tag) rest) (or_parts (test tag) (some_element test rest) h).0
    ∙ some-less test more rest (or_parts (test tag) (some_element test rest) h).1

-- a paragraph that is cut has a mark member
pub mark-cut : (says : List Say) (kids : Nodes) → has_mark kids ≡ false → para_is_cut says kids ≡ false
mark-cut says kids h = some-less (λ tag. is_mark tag.kind) (λ tag. is_cut (fate_of says tag)) (kids_of_all "rPr" (kids_of_all "pPr" kids)) h

-- what a node among blocks is to its siblings, and the piece that it gives
data Match (says : List Say) (ancestors : List Tag) : Sibling → GroupPiece → Type 0 where
  match_para : (marked : Bool) (nodes : Nodes) (tag : Tag) (cut : Bool) (kids : Nodes) →
      pieces says (stand_ins true) nodes ≡ para tag cut kids ∷ [] → (marked ≡ false → cut ≡ false) → Match says ancestors (para_sibling marked nodes) (para tag cut kids)
  match_thin : (nodes n : Nodes) → pieces says (stand_ins true) nodes ≡ thin n ∷ [] → Match says ancestors (thin_sibling nodes) (thin n)
  match_thick : (nodes n : Nodes) → pieces says (stand_ins true) nodes ≡ thick n ∷ [] → Match says ancestors (thick_sibling nodes) (thick n)
  match_open : (tag : Tag) (kids : Nodes) (inner : Slots) (n : Nodes) →
      (if goes_at says ancestors tag kids then no_nodes else element tag (rebuilt says (tag ∷ ancestors) inner) no_nodes) ≡ n →
      Match says ancestors (open_sibling tag kids inner) (thick n)

data Matches (says : List Say) (ancestors : List Tag) : List Sibling → List GroupPiece → Type 0 where
  none_left : Matches says ancestors [] []
  one_more : {sibling : Sibling} {piece : GroupPiece} {later : List Sibling} {ps : List GroupPiece} → Match says ancestors sibling piece → Matches says ancestors later ps →
      Matches says ancestors (sibling ∷ later) (piece ∷ ps)

match-next : (says : List Say) (ancestors : List Tag) (later : List Sibling) (ps : List GroupPiece) → Matches says ancestors later ps → chain_next later ≡ paragraph_next ps
match-next says ancestors later ps none_left = refl
match-next says ancestors later ps (one_more (match_para marked nodes tag cut kids e l) m) = refl
match-next says ancestors later ps (one_more {later = s} {ps = q} (match_thin nodes n e) m) = match-next says ancestors s q m
match-next says ancestors later ps (one_more (match_thick nodes n e) m) = refl
match-next says ancestors later ps (one_more (match_open tag kids inner n e) m) = refl

match-thick : (says : List Say) (ancestors : List Tag) (later : List Sibling) (ps : List GroupPiece) → Matches says ancestors later ps → thick_next later ≡ has_thick ps
match-thick says ancestors later ps none_left = refl
match-thick says ancestors later ps (one_more (match_para marked nodes tag cut kids e l) m) = refl
match-thick says ancestors later ps (one_more {later = s} {ps = q} (match_thin nodes n e) m) = match-thick says ancestors s q m
match-thick says ancestors later ps (one_more (match_thick nodes n e) m) = refl
match-thick says ancestors later ps (one_more (match_open tag kids inner n e) m) = refl

-- the pieces of a chain that goes on
abbrev chain_pieces : List Say → Option Nodes → List GroupPiece
chain_pieces says None = []
chain_pieces says (Some chain) = pieces says (stand_ins true) chain

chained-pieces : (says : List Say) (chain : Option Nodes) (nodes : Nodes) (p : GroupPiece) → pieces says (stand_ins true) nodes ≡ p ∷ [] →
    pieces says (stand_ins true) (chained chain nodes) ≡ chain_pieces says chain ++ p ∷ []
chained-pieces says None nodes p e = e
chained-pieces says (Some chain) nodes p e =
    pieces-⊕ says (stand_ins true) chain nodes ∙ ap (λ ps. pieces says (stand_ins true) chain ++ ps) e

ends-last : (ps : List GroupPiece) (tag : Tag) (cut : Bool) (kids : Nodes) → ends_cut (ps ++ para tag cut kids ∷ []) ≡ cut
ends-last [] tag cut kids = refl
ends-last (para t c k ∷ ps) tag cut kids =
    ap (λ b. if b then ends_cut (ps ++ para tag cut kids ∷ []) else c) (has_last ps) ∙ ends-last ps tag cut kids
  where
    has_last : (ps : List GroupPiece) → has_thick (ps ++ para tag cut kids ∷ []) ≡ true
    has_last [] = refl
    has_last (para t c k ∷ ps) = refl
    has_last (thin n ∷ ps) = has_last ps
    has_last (thick n ∷ ps) = refl
ends-last (thin n ∷ ps) tag cut kids = ends-last ps tag cut kids
ends-last (thick n ∷ ps) tag cut kids = ends-last ps tag cut kids

-- a paragraph comes next, where a chain goes on
abbrev pub IsAwaited : Option Nodes → List Sibling → Type 0
IsAwaited None later = Unit {0}
IsAwaited (Some chain) later = chain_next later ≡ true

no_join : (marked cut next other : Bool) → (marked && next) ≡ false → (marked ≡ false → cut ≡ false) → next ≡ other → (cut && other) ≡ false
no_join true cut true other e l n = absurd (true≢false e)
no_join true true false other e l n = sym n
no_join true false false other e l n = refl
no_join false cut next other e l n = ap (λ b. b && other) (l refl)

-- a chain that ends, before the rest
chain-ends : (says : List Say) (chain : Option Nodes) (nodes : Nodes) (tag : Tag) (marked cut : Bool) (kids : Nodes) (followed : Bool) (ps : List GroupPiece) (rest : Nodes) →
    pieces says (stand_ins true) nodes ≡ para tag cut kids ∷ [] → (marked ≡ false → cut ≡ false) → (cut && paragraph_next ps) ≡ false → followed ≡ has_thick ps →
    rest ≡ grouped false ps →
    pass_leaf says (leaf_of true (marked && followed) (chained chain nodes)) ⊕ rest ≡ grouped false (chain_pieces says chain ++ (para tag cut kids ∷ ps))
chain-ends says chain nodes tag marked cut kids followed ps rest e l n f r =
    ap (λ qs. grouped (marked && followed) qs ⊕ rest) (chained-pieces says chain nodes (para tag cut kids) e)
    ∙ ap (λ m. m ⊕ rest) (next marked l)
    ∙ ap (λ m. grouped (has_thick ps || false) xs ⊕ m) r
    ∙ sym (grouped-append false xs ps (ap (λ b. b && paragraph_next ps) (ends-last (chain_pieces says chain) tag cut kids) ∙ n))
    ∙ ap (grouped false) (append_assoc (chain_pieces says chain) (para tag cut kids ∷ []) ps)
  where
    xs : List GroupPiece
    xs = chain_pieces says chain ++ para tag cut kids ∷ []

    next : (marked : Bool) → (marked ≡ false → cut ≡ false) → grouped (marked && followed) xs ≡ grouped (has_thick ps || false) xs
    next true l = ap (λ b. grouped b xs) (f ∙ sym (or-false (has_thick ps)))
    next false l = grouped-next false (has_thick ps || false) None xs (ends-last (chain_pieces says chain) tag cut kids ∙ l refl)

slots-rebuilt : (says : List Say) (ancestors : List Tag) (chain : Option Nodes) (later : List Sibling) (ps : List GroupPiece) → Matches says ancestors later ps → IsAwaited chain later →
    rebuilt says ancestors (slots_from true chain later) ≡ grouped false (chain_pieces says chain ++ ps)
slots-rebuilt says ancestors None later ps none_left g = refl
slots-rebuilt says ancestors (Some chain) later ps none_left g = absurd (true≢false (sym g))
slots-rebuilt says ancestors chain later ps (one_more {later = s} {ps = q} (match_para marked nodes tag cut kids e l) m) g =
    at (marked && chain_next s) refl (λ h. slots-rebuilt says ancestors (Some (chained chain nodes)) s q m h) (slots-rebuilt says ancestors None s q m tt)
  where
    at : (on : Bool) → (marked && chain_next s) ≡ on →
        (chain_next s ≡ true → rebuilt says ancestors (slots_from true (Some (chained chain nodes)) s) ≡ grouped false (pieces says (stand_ins true) (chained chain nodes) ++ q)) →
        rebuilt says ancestors (slots_from true None s) ≡ grouped false q →
        rebuilt says ancestors (slot_of true (para_sibling marked nodes) chain on (thick_next s) (slots_from true (chain_after (para_sibling marked nodes) chain on) s))
        ≡ grouped false (chain_pieces says chain ++ (para tag cut kids ∷ q))
    at true w more alone =
        more (second_so marked (chain_next s) w)
        ∙ ap (λ qs. grouped false (qs ++ q)) (chained-pieces says chain nodes (para tag cut kids) e)
        ∙ ap (grouped false) (append_assoc (chain_pieces says chain) (para tag cut kids ∷ []) q)
    at false w more alone =
        chain-ends says chain nodes tag marked cut kids (thick_next s) q (rebuilt says ancestors (slots_from true None s)) e l
        (no_join marked cut (chain_next s) (paragraph_next q) w l (match-next says ancestors s q m)) (match-thick says ancestors s q m) alone
slots-rebuilt says ancestors None later ps (one_more {later = s} {ps = q} (match_thin nodes n e) m) g =
    ap (λ qs. grouped false qs ⊕ rebuilt says ancestors (slots_from true None s)) e
    ∙ ap (λ k. k ⊕ rebuilt says ancestors (slots_from true None s)) (⊕-no_nodes n) ∙ ap (λ k. n ⊕ k) (slots-rebuilt says ancestors None s q m tt)
slots-rebuilt says ancestors (Some chain) later ps (one_more {later = s} {ps = q} (match_thin nodes n e) m) g =
    slots-rebuilt says ancestors (Some (chain ⊕ nodes)) s q m g
    ∙ ap (λ qs. grouped false (qs ++ q)) (chained-pieces says (Some chain) nodes (thin n) e)
    ∙ ap (grouped false) (append_assoc (pieces says (stand_ins true) chain) (thin n ∷ []) q)
slots-rebuilt says ancestors None later ps (one_more {later = s} {ps = q} (match_thick nodes n e) m) g =
    ap (λ qs. grouped false qs ⊕ rebuilt says ancestors (slots_from true None s)) e
    ∙ ap (λ k. k ⊕ rebuilt says ancestors (slots_from true None s)) (⊕-no_nodes n) ∙ ap (λ k. n ⊕ k) (slots-rebuilt says ancestors None s q m tt)
slots-rebuilt says ancestors (Some chain) later ps (one_more (match_thick nodes n e) m) g = absurd (true≢false (sym g))
slots-rebuilt says ancestors None later ps (one_more {later = s} {ps = q} (match_open tag kids inner n e) m) g =
    ap (λ k. k ⊕ rebuilt says ancestors (slots_from true None s)) e ∙ ap (λ k. n ⊕ k) (slots-rebuilt says ancestors None s q m tt)
slots-rebuilt says ancestors (Some chain) later ps (one_more (match_open tag kids inner n e) m) g = absurd (true≢false (sym g))

-- ---- one element

match-if : (says : List Say) (ancestors : List Tag) (p t marked cut : Bool) (node : Nodes) (tag : Tag) (kids n : Nodes) →
    pieces says (stand_ins true) node ≡ (if p then para tag cut kids else if t then thick n else thin n) ∷ [] → (marked ≡ false → cut ≡ false) →
    Match says ancestors (if p then para_sibling marked node else if t then thick_sibling node else thin_sibling node) (if p then para tag cut kids else if t then thick n else thin n)
match-if says ancestors true t marked cut node tag kids n e l = match_para marked node tag cut kids e l
match-if says ancestors false true marked cut node tag kids n e l = match_thick node n e
match-if says ancestors false false marked cut node tag kids n e l = match_thin node n e

p_left : (says : List Say) (a : Tag) → is "p" a ≡ true → OpenKind a → is_leave (fate_of says a) ≡ true
p_left says a e (plain k t) = ap (λ x. is_leave (fate x (say_of says a.rev))) k
p_left says a e (content t k w) = absurd (true_false (is_some (trace_of a)) (ap is_some w) (by_name (λ t. is_some (trace_of t) ≡ false) "p" a e refl))
p_left says a e (marker k edge) = absurd (true_false (is_range_edge a) edge (by_name (λ t. is_range_edge t ≡ false) "p" a e refl))

-- among blocks the paragraphs are those by name
block_para : (says : List Say) (ancestors : List Tag) (a : Tag) → is_open ancestors ≡ true → Fits ancestors a → is_block_para says ancestors a ≡ (is "p" a && in_blocks ancestors)
block_para says ancestors a o fit = at (is "p" a) refl (in_blocks ancestors)
  where
    at : (x : Bool) → is "p" a ≡ x → (y : Bool) → (x && y && is_leave (fate_of says a)) ≡ (x && y)
    at true e true = p_left says a e (open_fits ancestors a o fit)
    at true e false = refl
    at false e y = refl

pieces-one : (says : List Say) (ancestors : List Tag) (tag : Tag) (kids : Nodes) → AllPlain ancestors → IsAlike ancestors tag → in_blocks ancestors ≡ true →
    pieces says (stand_ins true) (element tag kids no_nodes) ≡ piece says ancestors tag kids (pass says (tag ∷ ancestors) kids) ∷ []
pieces-one says ancestors tag kids h k b =
    ap (λ p. p ∷ []) (sym (closed-piece says ancestors tag kids h k ∙ ap (λ c. piece says (stand_ins c) tag kids (pass says (tag ∷ stand_ins c) kids)) b))

closed-match : (says : List Say) (ancestors : List Tag) (tag : Tag) (kids : Nodes) → AllPlain ancestors → IsAlike ancestors tag → in_blocks ancestors ≡ true → Fits ancestors tag →
    Match says ancestors
    (if is "p" tag && in_blocks ancestors then para_sibling (has_mark kids) (element tag kids no_nodes)
    else if is_thick tag then thick_sibling (element tag kids no_nodes) else thin_sibling (element tag kids no_nodes))
    (piece says ancestors tag kids (pass says (tag ∷ ancestors) kids))
closed-match says ancestors tag kids h k b fit =
    let passed = pass says (tag ∷ ancestors) kids in
    let n = element_pass says ancestors tag kids passed in
    let one_of : (Bool → GroupPiece) = λ p. if p then para (renamed says ancestors tag) (para_is_cut says kids) (kept_kids says ancestors tag kids passed) else if is_thick tag then thick n else thin n in
    let same = block_para says ancestors tag (plain-open ancestors h) fit in
    let p = is "p" tag && in_blocks ancestors in
    subst (λ x. Match says ancestors (if p then para_sibling (has_mark kids) (element tag kids no_nodes) else if is_thick tag then thick_sibling (element tag kids no_nodes) else thin_sibling (element tag kids no_nodes)) (one_of x))
    (sym same)
    (match-if says ancestors p (is_thick tag) (has_mark kids) (para_is_cut says kids) (element tag kids no_nodes) (renamed says ancestors tag) (kept_kids says ancestors tag kids passed) n
    (pieces-one says ancestors tag kids h k b ∙ ap (λ x. one_of x ∷ []) same) (mark-cut says kids))

-- among blocks a container is thick
open-piece : (says : List Say) (ancestors : List Tag) (tag : Tag) (kids passed : Nodes) → is_frame tag ≡ true → is_thick tag ≡ true →
    piece says ancestors tag kids passed ≡ thick (element_pass says ancestors tag kids passed)
open-piece says ancestors tag kids passed f t = at (is "p" tag) (frame-not "p" tag f refl) (is_thick tag) t (in_blocks ancestors && is_leave (fate_of says tag))
  where
    at : (x : Bool) → x ≡ false → (y : Bool) → y ≡ true → (z : Bool) →
        (if x && in_blocks ancestors && is_leave (fate_of says tag) then para (renamed says ancestors tag) (para_is_cut says kids) (kept_kids says ancestors tag kids passed)
        else if y then thick (element_pass says ancestors tag kids passed) else thin (element_pass says ancestors tag kids passed)) ≡ thick (element_pass says ancestors tag kids passed)
    at true e y w z = absurd (true≢false e)
    at false e true w z = refl
    at false e false w z = absurd (true≢false (sym w))

-- ---- the induction

record Knows (opens : List Tag → Tag → Bool) (says : List Say) (ancestors : List Tag) (nodes : Nodes) : Type 0 where
  blocks : in_blocks ancestors ≡ true → Matches says ancestors (siblings opens ancestors nodes) (pieces says ancestors nodes)
  others : in_blocks ancestors ≡ false → rebuilt says ancestors (slots_from false None (siblings opens ancestors nodes)) ≡ each says ancestors nodes

from-knows : (opens : List Tag → Tag → Bool) (says : List Say) (ancestors : List Tag) (nodes : Nodes) → Knows opens says ancestors nodes →
    rebuilt says ancestors (slots_in opens ancestors nodes) ≡ pass says ancestors nodes
from-knows opens says ancestors nodes k = at (in_blocks ancestors) refl
  where
    at : (b : Bool) → in_blocks ancestors ≡ b → rebuilt says ancestors (slots_from b None (siblings opens ancestors nodes)) ≡ pass says ancestors nodes
    at true e = slots-rebuilt says ancestors None (siblings opens ancestors nodes) (pieces says ancestors nodes) (k.blocks e) tt
    at false e = k.others e ∙ sym (pass-each says ancestors nodes e)

sibling-open : (opens : List Tag → Tag → Bool) (ancestors : List Tag) (tag : Tag) (kids : Nodes) (inner : Slots) → opens ancestors tag ≡ true → sibling opens ancestors tag kids inner ≡ open_sibling tag kids inner
sibling-open opens ancestors tag kids inner o =
    ap (λ b. if b then open_sibling tag kids inner else if is "p" tag && in_blocks ancestors then para_sibling (has_mark kids) (element tag kids no_nodes)
    else if is_thick tag then thick_sibling (element tag kids no_nodes) else thin_sibling (element tag kids no_nodes)) o

sibling-closed : (opens : List Tag → Tag → Bool) (ancestors : List Tag) (tag : Tag) (kids : Nodes) (inner : Slots) → opens ancestors tag ≡ false →
    sibling opens ancestors tag kids inner
    ≡ (if is "p" tag && in_blocks ancestors then para_sibling (has_mark kids) (element tag kids no_nodes)
    else if is_thick tag then thick_sibling (element tag kids no_nodes) else thin_sibling (element tag kids no_nodes))
sibling-closed opens ancestors tag kids inner o =
    ap (λ b. if b then open_sibling tag kids inner else if is "p" tag && in_blocks ancestors then para_sibling (has_mark kids) (element tag kids no_nodes)
    else if is_thick tag then thick_sibling (element tag kids no_nodes) else thin_sibling (element tag kids no_nodes)) o

-- an element that is no container, outside lists of blocks, is a leaf by itself
lone-frame : (p t marked : Bool) (node : Nodes) (later : List Sibling) → p ≡ false →
    slots_from false None ((if p then para_sibling marked node else if t then thick_sibling node else thin_sibling node) ∷ later)
    ≡ leaf_slot (leaf_of false false node) (slots_from false None later)
lone-frame true t marked node later e = absurd (true≢false e)
lone-frame false true marked node later e = refl
lone-frame false false marked node later e = refl

closed-element : (says : List Say) (ancestors : List Tag) (tag : Tag) (kids : Nodes) → AllPlain ancestors → IsAlike ancestors tag → in_blocks ancestors ≡ false →
    pass_leaf says (leaf_of false false (element tag kids no_nodes)) ≡ element_pass says ancestors tag kids (pass says (tag ∷ ancestors) kids)
closed-element says ancestors tag kids h k b =
    pass-outside says [] tag kids no_nodes refl
    ∙ ⊕-no_nodes (element_pass says [] tag kids (pass says (tag ∷ []) kids))
    ∙ sym (alone-piece says [] tag kids (pass says (tag ∷ []) kids))
    ∙ ap alone (sym (closed-piece says ancestors tag kids h k ∙ ap (λ c. piece says (stand_ins c) tag kids (pass says (tag ∷ stand_ins c) kids)) b))
    ∙ alone-piece says ancestors tag kids (pass says (tag ∷ ancestors) kids)

knows : (opens : List Tag → Tag → Bool) (IsPath : List Tag → Type 0) → IsOpening opens IsPath → (says : List Say) (ancestors : List Tag) (nodes : Nodes) → IsPath ancestors → AllPlain ancestors →
    AllFit ancestors nodes → Knows opens says ancestors nodes
knows opens IsPath opening says ancestors no_nodes path h fit = record { blocks = λ b. none_left; others = λ b. refl }
knows opens IsPath opening says ancestors (bytes b rest) path h fit =
    let k = knows opens IsPath opening says ancestors rest path h fit in
    record {
      blocks = λ e. one_more (match_thin (bytes b no_nodes) (bytes b no_nodes) refl) (k.blocks e);
      others = λ e. ap (bytes b) (k.others e);
    }
knows opens IsPath opening says ancestors (element tag kids rest) path h fit =
    let k = knows opens IsPath opening says ancestors rest path h fit.2 in
    let o = plain-open ancestors h in
    at (opens ancestors tag) refl k (λ w.
    let f = opening.named ancestors tag path w in
    knows opens IsPath opening says (tag ∷ ancestors) kids (opening.path ancestors tag path w) ((f, frame-plain ancestors tag o fit.0 f), h) fit.1)
  where
    inner : Slots
    inner = slots_in opens (tag ∷ ancestors) kids

    at : (x : Bool) → opens ancestors tag ≡ x → Knows opens says ancestors rest → (opens ancestors tag ≡ true → Knows opens says (tag ∷ ancestors) kids) → Knows opens says ancestors (element tag kids rest)
    at true w k below =
        let f = opening.named ancestors tag path w in
        let p : IsPlain tag = (f, frame-plain ancestors tag (plain-open ancestors h) fit.0 f) in
        let gives : element_pass says ancestors tag kids (pass says (tag ∷ ancestors) kids) ≡ (if goes_at says ancestors tag kids then no_nodes else element tag (rebuilt says (tag ∷ ancestors) inner) no_nodes) =
        opened-element says ancestors tag kids (pass says (tag ∷ ancestors) kids) h p fit.1
        ∙ ap (λ n. if goes_at says ancestors tag kids then no_nodes else element tag n no_nodes) (sym (from-knows opens says (tag ∷ ancestors) kids (below w))) in
        record {
          blocks = λ e.
              subst (λ s. Matches says ancestors (s ∷ siblings opens ancestors rest) (pieces says ancestors (element tag kids rest))) (sym (sibling-open opens ancestors tag kids inner w))
              (subst (λ q. Matches says ancestors (open_sibling tag kids inner ∷ siblings opens ancestors rest) (q ∷ pieces says ancestors rest))
              (sym (open-piece says ancestors tag kids (pass says (tag ∷ ancestors) kids) f (opening.thick ancestors tag path w e)))
              (one_more (match_open tag kids inner (element_pass says ancestors tag kids (pass says (tag ∷ ancestors) kids)) (sym gives)) (k.blocks e)));
          others = λ e.
              ap (λ s. rebuilt says ancestors (slots_from false None (s ∷ siblings opens ancestors rest))) (sibling-open opens ancestors tag kids inner w)
              ∙ ap (λ n. n ⊕ rebuilt says ancestors (slots_from false None (siblings opens ancestors rest))) (sym gives)
              ∙ ap (λ n. element_pass says ancestors tag kids (pass says (tag ∷ ancestors) kids) ⊕ n) (k.others e);
        }
    at false w k below =
        let alike = opening.alike ancestors tag path w in
        record {
          blocks = λ e.
              subst (λ s. Matches says ancestors (s ∷ siblings opens ancestors rest) (pieces says ancestors (element tag kids rest))) (sym (sibling-closed opens ancestors tag kids inner w))
              (one_more (closed-match says ancestors tag kids h alike e fit.0) (k.blocks e));
          others = λ e.
              ap (λ s. rebuilt says ancestors (slots_from false None (s ∷ siblings opens ancestors rest))) (sibling-closed opens ancestors tag kids inner w)
              ∙ ap (rebuilt says ancestors) (lone-frame (is "p" tag && in_blocks ancestors) (is_thick tag) (has_mark kids) (element tag kids no_nodes) (siblings opens ancestors rest) (and_right (is "p" tag) (in_blocks ancestors) e))
              ∙ ap (λ n. n ⊕ rebuilt says ancestors (slots_from false None (siblings opens ancestors rest))) (closed-element says ancestors tag kids h alike e)
              ∙ ap (λ n. element_pass says ancestors tag kids (pass says (tag ∷ ancestors) kids) ⊕ n) (k.others e);
        }

-- the law of rebuilding: the containers that stay, round the passes of their leaves, are the pass
pub rebuilt-kids : (opens : List Tag → Tag → Bool) (IsPath : List Tag → Type 0) → IsOpening opens IsPath → (says : List Say) (ancestors : List Tag) (nodes : Nodes) → IsPath ancestors → AllPlain ancestors →
    AllFit ancestors nodes → rebuilt says ancestors (slots_in opens ancestors nodes) ≡ pass says ancestors nodes
rebuilt-kids opens IsPath opening says ancestors nodes path h fit = from-knows opens says ancestors nodes (knows opens IsPath opening says ancestors nodes path h fit)

-- a container that stays gives its tag, unchanged, round what is rebuilt of its slots
pub container-stays : (opens : List Tag → Tag → Bool) (IsPath : List Tag → Type 0) → IsOpening opens IsPath → (says : List Say) (ancestors : List Tag)
    (tag : Tag) (kids : Nodes) → IsPath (tag ∷ ancestors) → AllPlain (tag ∷ ancestors) → AllFit (tag ∷ ancestors) kids → goes_at says ancestors tag kids ≡ false →
    element_pass says ancestors tag kids (pass says (tag ∷ ancestors) kids) ≡ element tag (rebuilt says (tag ∷ ancestors) (slots_in opens (tag ∷ ancestors) kids)) no_nodes
container-stays opens IsPath opening says ancestors tag kids path h fit stays =
    opened-element says ancestors tag kids (pass says (tag ∷ ancestors) kids) h.1 h.0 fit
    ∙ ap (λ b. if b then no_nodes else element tag (pass says (tag ∷ ancestors) kids) no_nodes) stays
    ∙ ap (λ n. element tag n no_nodes) (sym (rebuilt-kids opens IsPath opening says (tag ∷ ancestors) kids path h fit))

-- a container that goes gives nothing
pub container-goes : (says : List Say) (ancestors : List Tag) (tag : Tag) (kids : Nodes) → AllPlain (tag ∷ ancestors) → AllFit (tag ∷ ancestors) kids → goes_at says ancestors tag kids ≡ true →
    element_pass says ancestors tag kids (pass says (tag ∷ ancestors) kids) ≡ no_nodes
container-goes says ancestors tag kids h fit goes =
    opened-element says ancestors tag kids (pass says (tag ∷ ancestors) kids) h.1 h.0 fit
    ∙ ap (λ b. if b then no_nodes else element tag (pass says (tag ∷ ancestors) kids) no_nodes) goes
