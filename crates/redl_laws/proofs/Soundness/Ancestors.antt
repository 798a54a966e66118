-- The law on ancestors: those that an element has in a passed story are those that it had in the original, without
-- the freed content revisions, the restored change members, and the former property elements in these.
-- A joined paragraph is the ancestor in place of each paragraph that was joined into it.
use Prim.Native.String.{String}
use Rattle.std.proofs.Common.{◌≡◌, List, [], ◌∷◌, Bool, true, false, ◌&&◌, ◌||◌, not, ◌⊎◌, inl, inr, Option, Some, None, is_some, option_map, refl, sym, ap, ◌∙◌, true≢false, if◌then◌else◌}
use Rattle.std.proofs.lemmas.Bool.{and_parts, and_from, or_left, or_right, false_from_ne_true}
use Rattle.std.specs.List.{list_any, list_all}
use Rattle.redl_tree.specs.Model.Nodes.{Tag, Nodes}
use Rattle.redl_tree.specs.Roles.Names.{is, is_any}
use Rattle.redl_tree.specs.Roles.Places.{is_quiet, is_open, within, trace_of, row_trace_of, cell_trace_of, prop_of, has_run_props, in_run_owner, in_run_props, in_props, in_mark_props, in_row_props, in_cell_props, role, placed, first_role, change_at}
use Rattle.redl_tree.specs.Roles.Lists.{place, inside, still, nowhere, into, has_blocks, is_thick, in_blocks, is_direct, is_blocks}
use Rattle.redl_tree.specs.declared.lists.Place.{Place}
use Rattle.redl_tree.specs.declared.lists.Reach.{Reach}
use Rattle.redl_tree.specs.declared.lists.Reach.TheVariants.{Direct, Control, Beyond}
use Rattle.redl_tree.specs.declared.lists.Lot.{Lot}
use Rattle.redl_tree.specs.declared.lists.Lot.TheVariants.{Blocks, Rows, Cells}
use Rattle.redl_tree.specs.Roles.Kinds.{is_content, is_change}
use Rattle.redl_tree.specs.Rules.Tests.{Test, implies, open_any}
use Rattle.redl_tree.specs.Rules.Sound.{below_content, in_content, among_blocks, below_change, test_8}
use Rattle.redl_tree.specs.declared.kinds.Trace.{Trace}
use Rattle.redl_tree.specs.declared.kinds.Prop.{Prop}
use Rattle.redl_tree.specs.declared.kinds.Prop.TheVariants.{Run, Para as ParaProp, Sect, Table, Except, Row as RowProp, Cell as CellProp}
use Rattle.redl_tree.specs.declared.kinds.Kind.{Kind}
use Rattle.redl_tree.specs.declared.kinds.Kind.TheVariants.{Content, Mark, Row, Cell, Change}
use Rattle.redl_tree.proofs.Roles.Named.{AllNames, by_name, by_names, by_trace}
use Rattle.redl_tree.proofs.Roles.Fits.{open_∷, open_head, open_tail, true_false}
use Rattle.redl_laws.proofs.Soundness.AlikeTags.{Like, ordinary, like_quiet, like_trace, like_prop, like_thick, like_any, like_has_blocks, like_into, like_run_props}

-- an implication, from a proof of it
pub implies_from : (a b : Bool) → (a ≡ true → b ≡ true) → implies a b ≡ true
implies_from true b h = h refl
implies_from false b h = refl

-- an implication that holds, used
pub implies_of : (a b : Bool) → implies a b ≡ true → a ≡ true → b ≡ true
implies_of true b h e = h
implies_of false b h e = absurd (true≢false (sym e))

-- what is false is not true
pub not_to : (b : Bool) → not b ≡ true → b ≡ true → ⊥
not_to true e h = true≢false (sym e)
not_to false e h = true≢false (sym h)

-- and what is not true is false
pub not_of : (b : Bool) → (b ≡ true → ⊥) → not b ≡ true
not_of true h = absurd (h refl)
not_of false h = refl

-- the ancestors behind the content revisions that come first
abbrev pub past_content : List Tag → List Tag
past_content [] = []
past_content (tag ∷ ancestors) = if is_some (trace_of tag) then past_content ancestors else tag ∷ ancestors

-- among blocks is in a list of blocks, past the content revisions around it
pub among-past : (ancestors : List Tag) → among_blocks ancestors ≡ in_blocks (past_content ancestors)
among-past [] = refl
among-past (tag ∷ ancestors) = at (is_some (trace_of tag)) (among-past ancestors)
  where
    at : (b : Bool) → among_blocks ancestors ≡ in_blocks (past_content ancestors) →
        (if b then among_blocks ancestors else in_blocks (tag ∷ ancestors)) ≡ in_blocks (if b then past_content ancestors else tag ∷ ancestors)
    at true h = h
    at false h = refl

-- what no content revision holds
abbrev pub banned : List String
banned = "p" ∷ "tbl" ∷ "tr" ∷ "tc" ∷ "pPr" ∷ "tblPr" ∷ "tblPrEx" ∷ "trPr" ∷ "tcPr" ∷ "sectPr" ∷ []

-- the parts of rule 3
pub record Free3 (ancestors : List Tag) (tag : Tag) : Type 0 where
  pub below : open_any banned ancestors tag ≡ true → below_content ancestors ≡ true → ⊥
  pub inside : open_any ("rPr" ∷ "sdtContent" ∷ []) ancestors tag ≡ true → in_content ancestors ≡ true → ⊥
  pub blocks : is_thick tag ≡ true → in_content ancestors ≡ true → in_blocks (past_content ancestors) ≡ true → ⊥

-- Rule 3 as one of an element and its ancestors alone: its last part speaks of the kid, and not of the content revision
-- round it
abbrev pub kid_3 : Test
kid_3 ancestors tag kids =
    implies (open_any banned ancestors tag) (not (below_content ancestors))
    && implies (open_any ("rPr" ∷ "sdtContent" ∷ []) ancestors tag) (not (in_content ancestors))
    && implies (is_thick tag && in_content ancestors) (not (in_blocks (past_content ancestors)))

-- what rule 3 says of an element, in its parts
pub free3 : (ancestors : List Tag) (tag : Tag) (kids : Nodes) → kid_3 ancestors tag kids ≡ true → Free3 ancestors tag
free3 ancestors tag kids e =
    let x = and_parts _ _ e in
    let y = and_parts _ _ x.0 in
    record {
      below = λ p q. not_to (below_content ancestors) (implies_of _ _ y.0 p) q;
      inside = λ p q. not_to (in_content ancestors) (implies_of _ _ y.1 p) q;
      blocks = λ p q r. not_to (in_blocks (past_content ancestors)) (implies_of _ _ x.1 (and_from (is_thick tag) (in_content ancestors) p q)) r;
    }

pub kid_3_from : (ancestors : List Tag) (tag : Tag) (kids : Nodes) → Free3 ancestors tag → kid_3 ancestors tag kids ≡ true
kid_3_from ancestors tag kids f =
    and_from _ _ (and_from _ _
    (implies_from _ _ (λ p. not_of (below_content ancestors) (f.below p)))
    (implies_from _ _ (λ p. not_of (in_content ancestors) (f.inside p))))
    (implies_from _ _ (λ p. let both = and_parts (is_thick tag) (in_content ancestors) p in not_of (in_blocks (past_content ancestors)) (f.blocks both.0 both.1)))

-- the nearest ancestor passes a test and is open
abbrev pub owned : (Tag → Bool) → List Tag → Bool
owned test [] = false
owned test (tag ∷ ancestors) = test tag && is_open ancestors

-- true, or of matter below a change member
abbrev pub Stood : List Tag → Bool → Type 0
Stood old b = (b ≡ true) ⊎ (below_change old ≡ true)

-- a `pPr` that is a kid of an open paragraph was one
abbrev pub Para : List Tag → List Tag → Tag → Type 0
Para old new a = is "pPr" a ≡ true → owned (is "p") new ≡ true → Stood old (owned (is "p") old)

-- ancestors in the original, and those in the result, the nearest first
pub data Came : List Tag → List Tag → Type 0 where
  top : Came [] []
  kept : {old new : List Tag} (a b : Tag) → Came old new → Like a b → Free3 old a → Para old new a → Came (a ∷ old) (b ∷ new)
  freed : {old new : List Tag} (a : Tag) → Came old new → is_some (trace_of a) ≡ true → is_open old ≡ true → Came (a ∷ old) new
  restored : {old new : List Tag} (a b change former : Tag) → Came old new → Like a b → is_quiet a ≡ true →
      is_change (role (a ∷ old) change) ≡ true → Came (former ∷ change ∷ a ∷ old) (b ∷ new)
  -- what stood between paragraphs has their joined paragraph round it
  joins : {old new : List Tag} (b : Tag) → Came old new → is "p" b ≡ true → Came old (b ∷ new)

trace_loud : (a : Tag) → is_some (trace_of a) ≡ true → is_quiet a ≡ false
trace_loud a e = by_trace (λ t. is_quiet t ≡ false) a e (refl, (refl, (refl, (refl, tt))))

-- openness

came_loud : (old new : List Tag) → Came old new → list_any is_quiet new ≡ list_any is_quiet old
came_loud old new top = refl
came_loud old new (kept {old = o} {new = n} a b c l t pr) = rw (like_quiet a b l, came_loud o n c) refl
came_loud old new (freed {old = o} {new = n} a c e p) = came_loud o n c ∙ sym (rw (trace_loud a e) refl)
came_loud old new (restored {old = o} {new = n} a b ch f c l q r) =
    rw (like_quiet a b l, q) (sym (or_right (is_quiet f) (is_quiet ch || true) (or_right (is_quiet ch) true refl)))
came_loud old new (joins {old = o} {new = n} b c e) = rw (by_name (λ t. is_quiet t ≡ false) "p" b e refl) (came_loud o n c)

-- ancestors in the result are as open as those that they came from
pub came_open : (old new : List Tag) → Came old new → is_open new ≡ is_open old
came_open old new c = ap not (came_loud old new c)

restored_shut : (a ch f : Tag) (o : List Tag) → is_quiet a ≡ true → is_open (f ∷ ch ∷ a ∷ o) ≡ false
restored_shut a ch f o q = rw q (ap not (or_right (is_quiet f) (is_quiet ch || true) (or_right (is_quiet ch) true refl)))

-- content revisions round an element

and_any : (n t below : Bool) → n ≡ true → t ≡ true → (n && (t || below)) ≡ true
and_any n t below p q = rw (p, q) refl

step_below : (n t x y : Bool) → (x ≡ true → y ≡ true) → (n && (t || x)) ≡ true → (n && (t || y)) ≡ true
step_below true true x y h e = refl
step_below true false x y h e = h e
step_below false t x y h e = e

pub came_below : (old new : List Tag) → Came old new → is_open old ≡ true → below_content new ≡ true → below_content old ≡ true
came_below old new top o e = e
came_below old new (kept {old = p} {new = n} a b c l t pr) o e =
    step_below (not (is "txbxContent" a)) (is_some (trace_of a)) (below_content n) (below_content p)
    (came_below p n c (open_tail a p o))
    (rw (l.name "txbxContent" refl, like_trace a b l) at e)
came_below old new (freed {old = p} {new = n} a c t q) o e =
    and_any (not (is "txbxContent" a)) (is_some (trace_of a)) (below_content p)
    (by_trace (λ t. not (is "txbxContent" t) ≡ true) a t (refl, (refl, (refl, (refl, tt))))) t
came_below old new (restored {old = p} {new = n} a b ch f c l q r) o e =
    absurd (true_false (is_open (f ∷ ch ∷ a ∷ p)) o (restored_shut a ch f p q))
came_below old new (joins {old = p} {new = n} b c h) o e =
    came_below p n c o (rw (by_name (λ t. not (is "txbxContent" t) ≡ true) "p" b h refl, by_name (λ t. is_some (trace_of t) ≡ false) "p" b h refl) at e)

pub came_in : (old new : List Tag) → Came old new → is_open old ≡ true → in_content new ≡ true → in_content old ≡ true
came_in old new top o e = e
came_in old new (kept {old = p} {new = n} a b c l t pr) o e = ap is_some (sym (like_trace a b l)) ∙ e
came_in old new (freed {old = p} {new = n} a c t q) o e = t
came_in old new (restored {old = p} {new = n} a b ch f c l q r) o e =
    absurd (true_false (is_open (f ∷ ch ∷ a ∷ p)) o (restored_shut a ch f p q))
came_in old new (joins {old = p} {new = n} b c h) o e =
    absurd (true_false (is_some (trace_of b)) e (by_name (λ t. is_some (trace_of t) ≡ false) "p" b h refl))

-- what a list is to a document, Blocks alone

-- how a list below these ancestors is reached
abbrev pub reach_of : List Tag → Reach
reach_of [] = Beyond
reach_of (tag ∷ ancestors) =
    if is_open (tag ∷ ancestors) then
    (if has_blocks tag then Direct else if is "tbl" tag then Beyond else if is "tr" tag then Beyond else into (reach_of ancestors) tag)
    else Beyond

abbrev blocks_of : Place → Reach
blocks_of here = if is_blocks here.lot then here.reach else Beyond

into_beyond : (lot : Lot) (tag : Tag) (r : Reach) → blocks_of (still lot (into r tag)) ≡ into (blocks_of (record { lot = lot; reach = r })) tag
into_beyond Blocks tag r = at (into r tag)
  where
    at : (r : Reach) → blocks_of (still Blocks r) ≡ r
    at Direct = refl
    at Control = refl
    at Beyond = refl
into_beyond Rows tag r = at (into r tag)
  where
    at : (r : Reach) → blocks_of (still Rows r) ≡ Beyond
    at Direct = refl
    at Control = refl
    at Beyond = refl
into_beyond Cells tag r = at (into r tag)
  where
    at : (r : Reach) → blocks_of (still Cells r) ≡ Beyond
    at Direct = refl
    at Control = refl
    at Beyond = refl

inside_reach : (tag : Tag) (here : Place) (has tbl tr : Bool) →
    blocks_of (if has then record { lot = Blocks; reach = Direct } else if tbl then record { lot = Rows; reach = Direct }
    else if tr then record { lot = Cells; reach = Direct } else still here.lot (into here.reach tag))
    ≡ (if has then Direct else if tbl then Beyond else if tr then Beyond else into (blocks_of here) tag)
inside_reach tag here true tbl tr = refl
inside_reach tag here false true tr = refl
inside_reach tag here false false true = refl
inside_reach tag here false false false = into_beyond here.lot tag here.reach

pub place_reach : (ancestors : List Tag) → blocks_of (place ancestors) ≡ reach_of ancestors
place_reach [] = refl
place_reach (tag ∷ ancestors) =
    at (is_open (tag ∷ ancestors)) ∙ ap (λ r. if is_open (tag ∷ ancestors) then (if has_blocks tag then Direct else if is "tbl" tag then Beyond else if is "tr" tag then Beyond else into r tag) else Beyond) (place_reach ancestors)
  where
    at : (o : Bool) → blocks_of (if o then inside tag (place ancestors) else nowhere)
        ≡ (if o then (if has_blocks tag then Direct else if is "tbl" tag then Beyond else if is "tr" tag then Beyond else into (blocks_of (place ancestors)) tag) else Beyond)
    at true = inside_reach tag (place ancestors) (has_blocks tag) (is "tbl" tag) (is "tr" tag)
    at false = refl

-- a list of blocks is a direct one
pub in_blocks-reach : (ancestors : List Tag) → in_blocks ancestors ≡ is_direct (reach_of ancestors)
in_blocks-reach ancestors = at (place ancestors).lot (place ancestors).reach ∙ ap is_direct (place_reach ancestors)
  where
    at : (l : Lot) (r : Reach) → (is_direct r && is_blocks l) ≡ is_direct (if is_blocks l then r else Beyond)
    at Blocks Direct = refl
    at Blocks Control = refl
    at Blocks Beyond = refl
    at Rows Direct = refl
    at Rows Control = refl
    at Rows Beyond = refl
    at Cells Direct = refl
    at Cells Control = refl
    at Cells Beyond = refl

-- a content revision is no list of Blocks
into_trace : (r : Reach) (a : Tag) → is_some (trace_of a) ≡ true → into r a ≡ Beyond
into_trace Direct a e = by_trace (λ t. into Direct t ≡ Beyond) a e (refl, (refl, (refl, (refl, tt))))
into_trace Control a e = by_trace (λ t. into Control t ≡ Beyond) a e (refl, (refl, (refl, (refl, tt))))
into_trace Beyond a e = refl

pub reach_trace : (a : Tag) (ancestors : List Tag) → is_some (trace_of a) ≡ true → reach_of (a ∷ ancestors) ≡ Beyond
reach_trace a ancestors e = at (is_open (a ∷ ancestors)) (has_blocks a) (is "tbl" a) (is "tr" a)
    (by_trace (λ t. has_blocks t ≡ false) a e (refl, (refl, (refl, (refl, tt))))) (into_trace (reach_of ancestors) a e)
  where
    at : (o h b r : Bool) → h ≡ false → into (reach_of ancestors) a ≡ Beyond →
        (if o then (if h then Direct else if b then Beyond else if r then Beyond else into (reach_of ancestors) a) else Beyond) ≡ Beyond
    at false h b r x y = refl
    at true true b r x y = absurd (true≢false x)
    at true false true r x y = refl
    at true false false true x y = refl
    at true false false false x y = y

pub past_self : (ancestors : List Tag) → in_content ancestors ≡ false → past_content ancestors ≡ ancestors
past_self [] e = refl
past_self (a ∷ ancestors) e = rw e refl

past_on : (a : Tag) (ancestors : List Tag) → is_some (trace_of a) ≡ true → past_content (a ∷ ancestors) ≡ past_content ancestors
past_on a ancestors e = rw e refl

-- the step into an element, in the result and in the original, where the element is not a thick kid of content
-- among Blocks, and no `sdtContent` that is a kid of content
into_same : (r s : Reach) (a : Tag) → (is "sdt" a ≡ true → (into r a ≡ into s a)) → (is "customXml" a ≡ true → (into r a ≡ into s a)) →
    (is "sdtContent" a ≡ true → (into r a ≡ into s a)) → into r a ≡ into s a
into_same r s a x y z = at (is "sdt" a) (is "customXml" a) (is "sdtContent" a) refl refl refl r s x y z
  where
    none : (r : Reach) → is "sdt" a ≡ false → is "customXml" a ≡ false → is "sdtContent" a ≡ false → into r a ≡ Beyond
    none Direct p q u = rw (p, q) refl
    none Control p q u = rw u refl
    none Beyond p q u = refl

    at : (p q u : Bool) → is "sdt" a ≡ p → is "customXml" a ≡ q → is "sdtContent" a ≡ u → (r s : Reach) →
        (is "sdt" a ≡ true → (into r a ≡ into s a)) → (is "customXml" a ≡ true → (into r a ≡ into s a)) →
        (is "sdtContent" a ≡ true → (into r a ≡ into s a)) → into r a ≡ into s a
    at true q u e f g r s x y z = x e
    at false true u e f g r s x y z = y f
    at false false true e f g r s x y z = z g
    at false false false e f g r s x y z = none r e f g ∙ sym (none s e f g)

not_direct : (r : Reach) (a : Tag) → (is "sdt" a ≡ true) ⊎ (is "customXml" a ≡ true) → (is_direct r ≡ true → ⊥) → into r a ≡ Beyond
not_direct Direct a e h = absurd (h refl)
not_direct Control a (inl e) h = by_name (λ t. into Control t ≡ Beyond) "sdt" a e refl
not_direct Control a (inr e) h = by_name (λ t. into Control t ≡ Beyond) "customXml" a e refl
not_direct Beyond a e h = refl

beyond_head : (ancestors : List Tag) → in_content ancestors ≡ true → reach_of ancestors ≡ Beyond
beyond_head [] e = refl
beyond_head (a ∷ ancestors) e = reach_trace a ancestors e

thick_wrapper : (a : Tag) → (is "sdt" a ≡ true) ⊎ (is "customXml" a ≡ true) → is_thick a ≡ true
thick_wrapper a (inl e) = by_name (λ t. is_thick t ≡ true) "sdt" a e refl
thick_wrapper a (inr e) = by_name (λ t. is_thick t ≡ true) "customXml" a e refl

in_false : (old new : List Tag) → Came old new → is_open old ≡ true → in_content old ≡ false → in_content new ≡ false
in_false old new c o e = false_from_ne_true (in_content new) (λ h. true_false (in_content old) (came_in old new c o h) e)

-- the same, or nothing among Blocks
abbrev pub Less : Reach → Reach → Type 0
Less r s = (r ≡ s) ⊎ (r ≡ Beyond)

-- where no content revision comes first
here_less : (old new : List Tag) → Came old new → is_open old ≡ true → Less (reach_of (past_content new)) (reach_of (past_content old)) →
    in_content old ≡ false → Less (reach_of new) (reach_of old)
here_less old new c o h e = rw (past_self old e, past_self new (in_false old new c o e)) at h

into_less : (r s : Reach) (a : Tag) → Less r s → Less (into r a) (into s a)
into_less r s a (inl e) = inl (ap (λ r. into r a) e)
into_less r s a (inr e) = inr (ap (λ r. into r a) e)

direct_less : (r s : Reach) → Less r s → is_direct r ≡ true → is_direct s ≡ true
direct_less r s (inl e) d = ap is_direct (sym e) ∙ d
direct_less r s (inr e) d = absurd (true≢false (sym d ∙ ap is_direct e))

reach_p : (b : Tag) (ancestors : List Tag) → is "p" b ≡ true → reach_of (b ∷ ancestors) ≡ Beyond
reach_p b ancestors e = at (is_open (b ∷ ancestors)) (reach_of ancestors)
  where
    at : (o : Bool) (r : Reach) → (if o then (if has_blocks b then Direct else if is "tbl" b then Beyond else if is "tr" b then Beyond else into r b) else Beyond) ≡ Beyond
    at false r = refl
    at true Direct = by_name (λ t. (if has_blocks t then Direct else if is "tbl" t then Beyond else if is "tr" t then Beyond else into Direct t) ≡ Beyond) "p" b e refl
    at true Control = by_name (λ t. (if has_blocks t then Direct else if is "tbl" t then Beyond else if is "tr" t then Beyond else into Control t) ≡ Beyond) "p" b e refl
    at true Beyond = by_name (λ t. (if has_blocks t then Direct else if is "tbl" t then Beyond else if is "tr" t then Beyond else Beyond) ≡ Beyond) "p" b e refl

into_here : (old new : List Tag) (a : Tag) → Came old new → is_open old ≡ true → Free3 old a → Less (reach_of (past_content new)) (reach_of (past_content old)) →
    Less (into (reach_of new) a) (into (reach_of old) a)
into_here old new a c o f h = at (in_content old) refl (in_content new) refl
  where
    not_thick : (is "sdt" a ≡ true) ⊎ (is "customXml" a ≡ true) → in_content old ≡ true → in_content new ≡ false → into (reach_of new) a ≡ Beyond
    not_thick w e g =
        not_direct (reach_of new) a w (λ d. f.blocks (thick_wrapper a w) e
        (in_blocks-reach (past_content old) ∙ direct_less (reach_of (past_content new)) (reach_of (past_content old)) h (ap (λ l. is_direct (reach_of l)) (past_self new g) ∙ d)))

    at : (x : Bool) → in_content old ≡ x → (y : Bool) → in_content new ≡ y → Less (into (reach_of new) a) (into (reach_of old) a)
    at false e y g = into_less (reach_of new) (reach_of old) a (here_less old new c o h e)
    at true e true g = inl (ap (λ r. into r a) (beyond_head new g ∙ sym (beyond_head old e)))
    at true e false g = inl (
        into_same (reach_of new) (reach_of old) a
        (λ w. not_thick (inl w) e g ∙ ap (λ r. into r a) (sym (beyond_head old e)))
        (λ w. not_thick (inr w) e g ∙ ap (λ r. into r a) (sym (beyond_head old e)))
        (λ w. absurd (f.inside (and_from _ _ (or_right (is "rPr" a) (is "sdtContent" a || false) (rw w refl)) o) e)))

less_step : (o h b r : Bool) (x y : Reach) → Less x y →
    Less (if o then (if h then Direct else if b then Beyond else if r then Beyond else x) else Beyond)
    (if o then (if h then Direct else if b then Beyond else if r then Beyond else y) else Beyond)
less_step false h b r x y l = inl refl
less_step true true b r x y l = inl refl
less_step true false true r x y l = inl refl
less_step true false false true x y l = inl refl
less_step true false false false x y l = l

-- the list that an element stands in, content revisions aside, is among Blocks in the result as in the original,
-- or it is in a joined paragraph
pub came_reach : (old new : List Tag) → Came old new → is_open old ≡ true → Less (reach_of (past_content new)) (reach_of (past_content old))
came_reach old new top o = inl refl
came_reach old new (kept {old = p} {new = n} a b c l f pr) o =
    at (is_some (trace_of a)) refl (came_reach p n c (open_tail a p o))
  where
    at : (x : Bool) → is_some (trace_of a) ≡ x → Less (reach_of (past_content n)) (reach_of (past_content p)) → Less (reach_of (past_content (b ∷ n))) (reach_of (past_content (a ∷ p)))
    at true e ih = rw (like_trace a b l, e) ih
    at false e ih =
        rw (past_self (b ∷ n) (ap is_some (like_trace a b l) ∙ e), past_self (a ∷ p) e)
        (rw (came_open (a ∷ p) (b ∷ n) (kept a b c l f pr), like_has_blocks a b l, l.name "tbl" refl, l.name "tr" refl, like_into (reach_of n) a b l)
        (less_step (is_open (a ∷ p)) (has_blocks a) (is "tbl" a) (is "tr" a) (into (reach_of n) a) (into (reach_of p) a)
        (into_here p n a c (open_tail a p o) f ih)))
came_reach old new (freed {old = p} {new = n} a c t q) o =
    rw (past_on a p t) (came_reach p n c q)
came_reach old new (restored {old = p} {new = n} a b ch f c l q r) o =
    absurd (true_false (is_open (f ∷ ch ∷ a ∷ p)) o (restored_shut a ch f p q))
came_reach old new (joins {old = p} {new = n} b c h) o =
    inr (ap reach_of (past_self (b ∷ n) (by_name (λ t. is_some (trace_of t) ≡ false) "p" b h refl)) ∙ reach_p b n h)

-- Rule 3 holds of an element by its ancestors in the result
open_any_like : (names : List String) (old new : List Tag) (a b : Tag) → Came old new → Like a b → list_all ordinary names ≡ true →
    open_any names new b ≡ open_any names old a
open_any_like names old new a b c l o = rw (like_any names a b l o, came_open old new c) refl

-- content revisions do not change whether ancestors are open
pub past_open : (ancestors : List Tag) → is_open (past_content ancestors) ≡ is_open ancestors
past_open [] = refl
past_open (a ∷ ancestors) = at (is_some (trace_of a)) refl (past_open ancestors)
  where
    at : (x : Bool) → is_some (trace_of a) ≡ x → is_open (past_content ancestors) ≡ is_open ancestors →
        is_open (if x then past_content ancestors else a ∷ ancestors) ≡ is_open (a ∷ ancestors)
    at true e ih = ih ∙ sym (open_∷ a ancestors (trace_loud a e))
    at false e ih = refl

-- what stands among blocks has no quiet ancestor
pub blocks_open : (ancestors : List Tag) → in_blocks ancestors ≡ true → is_open ancestors ≡ true
blocks_open ancestors e = at ancestors (sym (in_blocks-reach ancestors) ∙ e)
  where
    shut : (o : Bool) (r : Reach) → is_direct (if o then r else Beyond) ≡ true → o ≡ true
    shut true r e = refl
    shut false r e = e

    at : (ancestors : List Tag) → is_direct (reach_of ancestors) ≡ true → is_open ancestors ≡ true
    at [] e = absurd (true≢false (sym e))
    at (a ∷ ancestors) e = shut (is_open (a ∷ ancestors)) (if has_blocks a then Direct else if is "tbl" a then Beyond else if is "tr" a then Beyond else into (reach_of ancestors) a) e

pub came_3 : (old new : List Tag) (a b : Tag) → Came old new → Like a b → Free3 old a → Free3 new b
came_3 old new a b c l f = record {
  below = λ p q.
      let p' : open_any banned old a ≡ true =
      sym (open_any_like banned old new a b c l refl) ∙ p in
      f.below p' (came_below old new c (and_parts _ _ p').1 q);
  inside = λ p q.
      let p' : open_any ("rPr" ∷ "sdtContent" ∷ []) old a ≡ true = sym (open_any_like ("rPr" ∷ "sdtContent" ∷ []) old new a b c l refl) ∙ p in
      f.inside p' (came_in old new c (and_parts _ _ p').1 q);
  blocks = λ p q r. came_blocks p q r;
}
  where
    came_blocks : is_thick b ≡ true → in_content new ≡ true → in_blocks (past_content new) ≡ true → ⊥
    came_blocks p q r =
        let o : is_open old ≡ true = sym (came_open old new c) ∙ sym (past_open new) ∙ blocks_open (past_content new) r in
        f.blocks (sym (like_thick a b l) ∙ p) (came_in old new c o q)
        (in_blocks-reach (past_content old) ∙ direct_less (reach_of (past_content new)) (reach_of (past_content old)) (came_reach old new c o) (sym (in_blocks-reach (past_content new)) ∙ r))

-- Roles by ancestors

no_content : (ch : Option Kind) → (is_content (first_role (ch ∷ [])) ≡ false) → (b : Bool) (t : Option Trace) →
    is_content (first_role (placed b (option_map Cell t) ∷ ch ∷ [])) ≡ false
no_content ch h true (Some t) = refl
no_content ch h true None = h
no_content ch h false t = h

no_content_row : (ks : List (Option Kind)) → (is_content (first_role ks) ≡ false) → (b : Bool) (t : Option Trace) →
    is_content (first_role (placed b (option_map Row t) ∷ ks)) ≡ false
no_content_row ks h true (Some t) = refl
no_content_row ks h true None = h
no_content_row ks h false t = h

no_content_mark : (ks : List (Option Kind)) → (is_content (first_role ks) ≡ false) → (b : Bool) (t : Option Trace) →
    is_content (first_role (placed b (option_map Mark t) ∷ ks)) ≡ false
no_content_mark ks h true (Some t) = refl
no_content_mark ks h true None = h
no_content_mark ks h false t = h

content_first : (ks : List (Option Kind)) → (is_content (first_role ks) ≡ false) → (o : Bool) (t : Option Trace) →
    is_content (first_role (placed o (option_map Content t) ∷ ks)) ≡ (o && is_some t)
content_first ks h true (Some t) = refl
content_first ks h true None = h
content_first ks h false t = h

no_content_change : (ancestors : List Tag) (prop : Option Prop) → is_content (first_role (change_at ancestors prop ∷ [])) ≡ false
no_content_change ancestors None = refl
no_content_change ancestors (Some prop) = at (in_props prop ancestors)
  where
    at : (b : Bool) → is_content (first_role (placed b (Some (Change prop)) ∷ [])) ≡ false
    at true = refl
    at false = refl

-- content revisions are the elements of their names in open ancestors
pub content_role : (ancestors : List Tag) (tag : Tag) → is_content (role ancestors tag) ≡ (is_open ancestors && is_some (trace_of tag))
content_role ancestors tag =
    content_first _
    (no_content_mark _
    (no_content_row _
    (no_content (change_at ancestors (prop_of tag)) (no_content_change ancestors (prop_of tag)) (in_cell_props ancestors) (cell_trace_of tag))
    (in_row_props ancestors) (row_trace_of tag))
    (in_mark_props ancestors) (trace_of tag))
    (is_open ancestors) (trace_of tag)

-- a change by its name and place
abbrev pub at_props : List Tag → Option Prop → Bool
at_props ancestors None = false
at_props ancestors (Some prop) = in_props prop ancestors

some_prop : (a b c d e f g : Bool) →
    is_some (if a then Some Run else if b then Some ParaProp else if c then Some Sect else if d then Some Table else if e then Some Except else if f then Some RowProp else if g then Some CellProp else None)
    ≡ (a || (b || (c || (d || (e || (f || (g || false)))))))
some_prop true b c d e f g = refl
some_prop false true c d e f g = refl
some_prop false false true d e f g = refl
some_prop false false false true e f g = refl
some_prop false false false false true f g = refl
some_prop false false false false false true g = refl
some_prop false false false false false false true = refl
some_prop false false false false false false false = refl

-- what holds of each name of a change of properties, holds of such a change
pub by_prop : (P : Tag → Type 0) (tag : Tag) → is_some (prop_of tag) ≡ true → AllNames P tag ("rPrChange" ∷ "pPrChange" ∷ "sectPrChange" ∷ "tblPrChange" ∷ "tblPrExChange" ∷ "trPrChange" ∷ "tcPrChange" ∷ []) → P tag
by_prop P tag e h =
    by_names P ("rPrChange" ∷ "pPrChange" ∷ "sectPrChange" ∷ "tblPrChange" ∷ "tblPrExChange" ∷ "trPrChange" ∷ "tcPrChange" ∷ []) tag
    (sym (some_prop (is "rPrChange" tag) (is "pPrChange" tag) (is "sectPrChange" tag) (is "tblPrChange" tag) (is "tblPrExChange" tag) (is "trPrChange" tag) (is "tcPrChange" tag)) ∙ e) h

skip : (b : Bool) (k : Option Kind) (ks : List (Option Kind)) → (is_change (first_role (k ∷ [])) ≡ false) → is_change (first_role ks) ≡ false →
    is_change (first_role (placed b k ∷ ks)) ≡ false
skip true None ks x h = h
skip true (Some k) ks x h = x
skip false k ks x h = h

map_content : (t : Option Trace) → is_change (first_role (option_map Content t ∷ [])) ≡ false
map_content None = refl
map_content (Some t) = refl

map_mark : (t : Option Trace) → is_change (first_role (option_map Mark t ∷ [])) ≡ false
map_mark None = refl
map_mark (Some t) = refl

map_row : (t : Option Trace) → is_change (first_role (option_map Row t ∷ [])) ≡ false
map_row None = refl
map_row (Some t) = refl

map_cell : (t : Option Trace) → is_change (first_role (option_map Cell t ∷ [])) ≡ false
map_cell None = refl
map_cell (Some t) = refl

drop_none : (b : Bool) (ks : List (Option Kind)) → first_role (placed b None ∷ ks) ≡ first_role ks
drop_none true ks = refl
drop_none false ks = refl

pub change_first : (ancestors : List Tag) (tag : Tag) (prop : Prop) → prop_of tag ≡ Some prop →
    role ancestors tag ≡ first_role (placed (in_props prop ancestors) (Some (Change prop)) ∷ [])
change_first ancestors tag prop e =
    let s : is_some (prop_of tag) ≡ true = ap is_some e in
    let t = by_prop (λ t. trace_of t ≡ None) tag s (refl, (refl, (refl, (refl, (refl, (refl, (refl, tt))))))) in
    let tr = by_prop (λ t. row_trace_of t ≡ None) tag s (refl, (refl, (refl, (refl, (refl, (refl, (refl, tt))))))) in
    let tc = by_prop (λ t. cell_trace_of t ≡ None) tag s (refl, (refl, (refl, (refl, (refl, (refl, (refl, tt))))))) in
    let k : change_at ancestors (prop_of tag) ≡ placed (in_props prop ancestors) (Some (Change prop)) = ap (change_at ancestors) e in
    ap (λ x. first_role (placed (is_open ancestors) (option_map Content x) ∷ placed (in_mark_props ancestors) (option_map Mark x) ∷ placed (in_row_props ancestors) (option_map Row (row_trace_of tag)) ∷ placed (in_cell_props ancestors) (option_map Cell (cell_trace_of tag)) ∷ change_at ancestors (prop_of tag) ∷ [])) t
    ∙ drop_none (is_open ancestors) _ ∙ drop_none (in_mark_props ancestors) _
    ∙ ap (λ x. first_role (placed (in_row_props ancestors) (option_map Row x) ∷ placed (in_cell_props ancestors) (option_map Cell (cell_trace_of tag)) ∷ change_at ancestors (prop_of tag) ∷ [])) tr
    ∙ drop_none (in_row_props ancestors) _
    ∙ ap (λ x. first_role (placed (in_cell_props ancestors) (option_map Cell x) ∷ change_at ancestors (prop_of tag) ∷ [])) tc
    ∙ drop_none (in_cell_props ancestors) _
    ∙ ap (λ x. first_role (x ∷ [])) k

-- an element has the role of a change exactly where one of its name may stand
pub change_role : (ancestors : List Tag) (tag : Tag) → is_change (role ancestors tag) ≡ at_props ancestors (prop_of tag)
change_role ancestors tag = at (prop_of tag) refl
  where
    placed_change : (b : Bool) (prop : Prop) → is_change (first_role (placed b (Some (Change prop)) ∷ [])) ≡ b
    placed_change true prop = refl
    placed_change false prop = refl

    at : (p : Option Prop) → prop_of tag ≡ p → is_change (role ancestors tag) ≡ at_props ancestors p
    at None e =
        skip (is_open ancestors) (option_map Content (trace_of tag)) _ (map_content (trace_of tag))
        (skip (in_mark_props ancestors) (option_map Mark (trace_of tag)) _ (map_mark (trace_of tag))
        (skip (in_row_props ancestors) (option_map Row (row_trace_of tag)) _ (map_row (row_trace_of tag))
        (skip (in_cell_props ancestors) (option_map Cell (cell_trace_of tag)) (change_at ancestors (prop_of tag) ∷ []) (map_cell (cell_trace_of tag))
        (ap (λ p. is_change (first_role (change_at ancestors p ∷ []))) e))))
    at (Some prop) e = ap is_change (change_first ancestors tag prop e) ∙ placed_change (in_props prop ancestors) prop

-- Places in properties, by ancestors

within-owned : (name : String) (ancestors : List Tag) → within (name ∷ []) ancestors ≡ owned (is name) ancestors
within-owned name [] = refl
within-owned name (tag ∷ ancestors) = refl

-- former properties stood below a change
pub restored_change : (a ch f : Tag) (o : List Tag) → is_change (role (a ∷ o) ch) ≡ true → below_change (f ∷ ch ∷ a ∷ o) ≡ true
restored_change a ch f o e =
    or_right (is_change (role (ch ∷ a ∷ o) f)) (is_change (role (a ∷ o) ch) || below_change (a ∷ o)) (rw e refl)

owner_came : (test : Tag → Bool) → ((a b : Tag) → Like a b → test b ≡ test a) → ((b : Tag) → is "p" b ≡ true → test b ≡ false) → (old new : List Tag) → Came old new →
    (is_open old ≡ true → in_content old ≡ true → ⊥) → owned test new ≡ true → Stood old (owned test old)
owner_came test like no_p old new top g e = absurd (true≢false (sym e))
owner_came test like no_p old new (kept {old = p} {new = n} a b c l f pr) g e = inl (rw (like a b l, came_open p n c) at e)
owner_came test like no_p old new (freed {old = p} {new = n} a c t q) g e = absurd (g (open_∷ a p (trace_loud a t) ∙ q) t)
owner_came test like no_p old new (restored {old = p} {new = n} a b ch f c l q r) g e = inr (restored_change a ch f p r)
owner_came test like no_p old new (joins {old = p} {new = n} b c h) g e =
    absurd (true_false (test b) (and_parts (test b) (is_open n) e).0 (no_p b h))

-- right in a content revision is below one
pub in_below : (ancestors : List Tag) → in_content ancestors ≡ true → below_content ancestors ≡ true
in_below [] e = e
in_below (a ∷ ancestors) e =
    and_any (not (is "txbxContent" a)) (is_some (trace_of a)) (below_content ancestors)
    (by_trace (λ t. not (is "txbxContent" t) ≡ true) a e (refl, (refl, (refl, (refl, tt))))) e

-- property elements never stand in a content revision
abbrev pub Guarded : String → Type 0
Guarded q = (ancestors : List Tag) (a : Tag) → is q a ≡ true → Free3 ancestors a → is_open ancestors ≡ true → in_content ancestors ≡ true → ⊥

pub guard_below : (q : String) → ((a : Tag) → is q a ≡ true → is_any banned a ≡ true) → Guarded q
guard_below q h ancestors a e f o i = f.below (and_from _ _ (h a e) o) (in_below ancestors i)

guard_rPr : Guarded "rPr"
guard_rPr ancestors a e f o i = f.inside (and_from _ _ (by_name (λ t. is_any ("rPr" ∷ "sdtContent" ∷ []) t ≡ true) "rPr" a e refl) o) i

quiet_absurd : {X : Type 0} (a : Tag) (old new : List Tag) (b : Tag) → Came old (b ∷ new) → is_open old ≡ true → is_quiet b ≡ true → X
quiet_absurd a old new b c o q = absurd (true_false (is_quiet b) q (open_head b new (came_open old (b ∷ new) c ∙ o)))

stood_and : (x y z : Bool) (old : List Tag) → x ≡ true → Stood old y → Stood old (x && y)
stood_and x y z old e (inl h) = inl (and_from x y e h)
stood_and x y z old e (inr h) = inr h

stood_more : (a : Tag) (old : List Tag) (b : Bool) → Stood old b → Stood (a ∷ old) b
stood_more a old b (inl h) = inl h
stood_more a old b (inr h) = inr (or_right (is_change (role old a)) (below_change old) h)

-- how the owner of a property element is found
abbrev Owner : String → String → Type 0
Owner q o = (old new : List Tag) (a : Tag) → Came old new → Para old new a → Free3 old a → is q a ≡ true → within (o ∷ []) new ≡ true → Stood old (within (o ∷ []) old)

owner_other : (q o : String) → ordinary o ≡ true → ((b : Tag) → is "p" b ≡ true → is o b ≡ false) → Guarded q → Owner q o
owner_other q o oo no_p guard old new a c pr f qa e =
    let s = owner_came (is o) (λ x y k. k.name o oo) no_p old new c (guard old a qa f) (sym (within-owned o new) ∙ e) in
    rw (within-owned o old) s

owner_para : Owner "pPr" "p"
owner_para old new a c pr f qa e =
    let s = pr qa (sym (within-owned "p" new) ∙ e) in
    rw (within-owned "p" old) s

p_not_quiet : (b : Tag) → is "p" b ≡ true → is_quiet b ≡ true → ⊥
p_not_quiet b h q = true_false (is_quiet b) q (by_name (λ t. is_quiet t ≡ false) "p" b h refl)

two_came : (q o : String) → ordinary q ≡ true → Owner q o →
    ((t : Tag) → is q t ≡ true → is_quiet t ≡ true) → (old new : List Tag) → Came old new →
    within (q ∷ o ∷ []) new ≡ true → Stood old (within (q ∷ o ∷ []) old)
two_came q o oq owner quiet old new top e = absurd (true≢false (sym e))
two_came q o oq owner quiet old new (kept {old = p} {new = n} a b c l f pr) e =
    let both = and_parts (is q b) (within (o ∷ []) n) e in
    let qa : is q a ≡ true = sym (l.name q oq) ∙ both.0 in
    stood_more a p _ (stood_and (is q a) (within (o ∷ []) p) true p qa (owner p n a c pr f qa both.1))
two_came q o oq owner quiet old [] (freed {old = p} a c t k) e = absurd (true≢false (sym e))
two_came q o oq owner quiet old (b ∷ n) (freed {old = p} a c t k) e =
    quiet_absurd a p n b c k (quiet b (and_parts (is q b) (within (o ∷ []) n) e).0)
two_came q o oq owner quiet old new (restored {old = p} {new = n} a b ch f c l k r) e = inr (restored_change a ch f p r)
two_came q o oq owner quiet old new (joins {old = p} {new = n} b c h) e =
    absurd (p_not_quiet b h (quiet b (and_parts (is q b) (within (o ∷ []) n) e).0))

three_came : (q q2 o : String) → ordinary q ≡ true → ordinary q2 ≡ true → Owner q2 o →
    ((t : Tag) → is q t ≡ true → is_quiet t ≡ true) → ((t : Tag) → is q2 t ≡ true → is_quiet t ≡ true) → (old new : List Tag) → Came old new →
    within (q ∷ q2 ∷ o ∷ []) new ≡ true → Stood old (within (q ∷ q2 ∷ o ∷ []) old)
three_came q q2 o oq oq2 owner quiet quiet2 old new top e = absurd (true≢false (sym e))
three_came q q2 o oq oq2 owner quiet quiet2 old new (kept {old = p} {new = n} a b c l f pr) e =
    let both = and_parts (is q b) (within (q2 ∷ o ∷ []) n) e in
    stood_more a p _ (stood_and (is q a) (within (q2 ∷ o ∷ []) p) true p (sym (l.name q oq) ∙ both.0)
    (two_came q2 o oq2 owner quiet2 p n c both.1))
three_came q q2 o oq oq2 owner quiet quiet2 old [] (freed {old = p} a c t k) e = absurd (true≢false (sym e))
three_came q q2 o oq oq2 owner quiet quiet2 old (b ∷ n) (freed {old = p} a c t k) e =
    quiet_absurd a p n b c k (quiet b (and_parts (is q b) (within (q2 ∷ o ∷ []) n) e).0)
three_came q q2 o oq oq2 owner quiet quiet2 old new (restored {old = p} {new = n} a b ch f c l k r) e = inr (restored_change a ch f p r)
three_came q q2 o oq oq2 owner quiet quiet2 old new (joins {old = p} {new = n} b c h) e =
    absurd (p_not_quiet b h (quiet b (and_parts (is q b) (within (q2 ∷ o ∷ []) n) e).0))

owner-owned : (ancestors : List Tag) → in_run_owner ancestors ≡ owned has_run_props ancestors
owner-owned [] = refl
owner-owned (tag ∷ ancestors) = refl

run_owned : (tag : Tag) (ancestors : List Tag) → in_run_props (tag ∷ ancestors) ≡ (is "rPr" tag && owned has_run_props ancestors)
run_owned tag ancestors = ap (λ b. is "rPr" tag && b) (owner-owned ancestors)

quiet_rPr : (tag : Tag) → is "rPr" tag ≡ true → is_quiet tag ≡ true
quiet_rPr tag e = by_name (λ t. is_quiet t ≡ true) "rPr" tag e refl

quiet_pPr : (tag : Tag) → is "pPr" tag ≡ true → is_quiet tag ≡ true
quiet_pPr tag e = by_name (λ t. is_quiet t ≡ true) "pPr" tag e refl

quiet_sectPr : (tag : Tag) → is "sectPr" tag ≡ true → is_quiet tag ≡ true
quiet_sectPr tag e = by_name (λ t. is_quiet t ≡ true) "sectPr" tag e refl

run_came : (old new : List Tag) → Came old new → in_run_props new ≡ true → Stood old (in_run_props old)
run_came old new top e = absurd (true≢false (sym e))
run_came old new (kept {old = p} {new = n} a b c l f pr) e =
    let both = and_parts (is "rPr" b) (owned has_run_props n) (sym (run_owned b n) ∙ e) in
    let ra : is "rPr" a ≡ true = sym (l.name "rPr" refl) ∙ both.0 in
    let s = stood_more a p _ (stood_and (is "rPr" a) (owned has_run_props p) true p ra
    (owner_came has_run_props like_run_props (λ b h. by_name (λ t. has_run_props t ≡ false) "p" b h refl) p n c (guard_rPr p a ra f) both.1)) in
    rw (run_owned a p) s
run_came old [] (freed {old = p} a c t k) e = absurd (true≢false (sym e))
run_came old (b ∷ n) (freed {old = p} a c t k) e =
    quiet_absurd a p n b c k (quiet_rPr b (and_parts (is "rPr" b) (owned has_run_props n) (sym (run_owned b n) ∙ e)).0)
run_came old new (restored {old = p} {new = n} a b ch f c l k r) e = inr (restored_change a ch f p r)
run_came old new (joins {old = p} {new = n} b c h) e =
    absurd (p_not_quiet b h (quiet_rPr b (and_parts (is "rPr" b) (owned has_run_props n) (sym (run_owned b n) ∙ e)).0))

stood_or : (x y x' y' : Bool) (old : List Tag) → (x ≡ true → Stood old x') → (y ≡ true → Stood old y') → (x || y) ≡ true → Stood old (x' || y')
stood_or true y x' y' old h k e = left (h refl)
  where
    left : Stood old x' → Stood old (x' || y')
    left (inl s) = inl (or_left x' y' s)
    left (inr s) = inr s
stood_or false y x' y' old h k e = right (k e)
  where
    right : Stood old y' → Stood old (x' || y')
    right (inl s) = inl (or_right x' y' s)
    right (inr s) = inr s

-- properties of a mark in the result stood at such a place, or below a change
pub mark_came : (old new : List Tag) → Came old new → in_mark_props new ≡ true → Stood old (in_mark_props old)
mark_came = three_came "rPr" "pPr" "p" refl refl owner_para quiet_rPr quiet_pPr

pub para_came : (old new : List Tag) → Came old new → within ("pPr" ∷ "p" ∷ []) new ≡ true → Stood old (within ("pPr" ∷ "p" ∷ []) old)
para_came = two_came "pPr" "p" refl owner_para quiet_pPr

-- the same of properties of a row
pub row_came : (old new : List Tag) → Came old new → in_row_props new ≡ true → Stood old (in_row_props old)
row_came = two_came "trPr" "tr" refl (owner_other "trPr" "tr" refl (λ b h. by_name (λ t. is "tr" t ≡ false) "p" b h refl) (guard_below "trPr" (λ a e. by_name (λ t. is_any banned t ≡ true) "trPr" a e refl))) (λ t e. by_name (λ t. is_quiet t ≡ true) "trPr" t e refl)

-- and of a cell
pub cell_came : (old new : List Tag) → Came old new → in_cell_props new ≡ true → Stood old (in_cell_props old)
cell_came = two_came "tcPr" "tc" refl (owner_other "tcPr" "tc" refl (λ b h. by_name (λ t. is "tc" t ≡ false) "p" b h refl) (guard_below "tcPr" (λ a e. by_name (λ t. is_any banned t ≡ true) "tcPr" a e refl))) (λ t e. by_name (λ t. is_quiet t ≡ true) "tcPr" t e refl)

-- the places of property changes: an element of the result stood at such a place, or below a change
pub props_came : (prop : Prop) (old new : List Tag) → Came old new → in_props prop new ≡ true → Stood old (in_props prop old)
props_came Run old new c e =
    stood_or (in_run_props new) (in_mark_props new) (in_run_props old) (in_mark_props old) old (run_came old new c) (mark_came old new c) e
props_came ParaProp old new c e = para_came old new c e
props_came Sect old new c e =
    stood_or (within ("sectPr" ∷ "body" ∷ []) new) (within ("sectPr" ∷ "pPr" ∷ "p" ∷ []) new) (within ("sectPr" ∷ "body" ∷ []) old) (within ("sectPr" ∷ "pPr" ∷ "p" ∷ []) old) old
    (two_came "sectPr" "body" refl (owner_other "sectPr" "body" refl (λ b h. by_name (λ t. is "body" t ≡ false) "p" b h refl) (guard_below "sectPr" (λ a e. by_name (λ t. is_any banned t ≡ true) "sectPr" a e refl))) (λ t e. by_name (λ t. is_quiet t ≡ true) "sectPr" t e refl) old new c)
    (three_came "sectPr" "pPr" "p" refl refl owner_para quiet_sectPr quiet_pPr old new c) e
props_came Table old new c e = two_came "tblPr" "tbl" refl (owner_other "tblPr" "tbl" refl (λ b h. by_name (λ t. is "tbl" t ≡ false) "p" b h refl) (guard_below "tblPr" (λ a e. by_name (λ t. is_any banned t ≡ true) "tblPr" a e refl))) (λ t e. by_name (λ t. is_quiet t ≡ true) "tblPr" t e refl) old new c e
props_came Except old new c e = two_came "tblPrEx" "tr" refl (owner_other "tblPrEx" "tr" refl (λ b h. by_name (λ t. is "tr" t ≡ false) "p" b h refl) (guard_below "tblPrEx" (λ a e. by_name (λ t. is_any banned t ≡ true) "tblPrEx" a e refl))) (λ t e. by_name (λ t. is_quiet t ≡ true) "tblPrEx" t e refl) old new c e
props_came RowProp old new c e = row_came old new c e
props_came CellProp old new c e = cell_came old new c e

pub change_came : (old new : List Tag) (a b : Tag) → Came old new → Like a b → is_change (role new b) ≡ true → Stood old (is_change (role old a))
change_came old new a b c l e =
    at (prop_of a) refl (sym (ap (at_props new) (like_prop a b l)) ∙ sym (change_role new b) ∙ e)
  where
    at : (p : Option Prop) → prop_of a ≡ p → at_props new (prop_of a) ≡ true → Stood old (is_change (role old a))
    at None h e = absurd (true≢false (sym e ∙ ap (at_props new) h))
    at (Some prop) h e = back (props_came prop old new c (sym (ap (at_props new) h) ∙ e))
      where
        back : Stood old (in_props prop old) → Stood old (is_change (role old a))
        back (inl s) = inl (change_role old a ∙ ap (at_props old) h ∙ s)
        back (inr s) = inr s

pub came_change : (old new : List Tag) → Came old new → below_change new ≡ true → below_change old ≡ true
came_change old new top e = e
came_change old new (kept {old = p} {new = n} a b c l f pr) e =
    at (is_change (role n b)) (below_change n) e (change_came p n a b c l) (came_change p n c)
  where
    from_stood : Stood p (is_change (role p a)) → below_change (a ∷ p) ≡ true
    from_stood (inl s) = or_left (is_change (role p a)) (below_change p) s
    from_stood (inr s) = or_right (is_change (role p a)) (below_change p) s

    at : (x y : Bool) → (x || y) ≡ true → (x ≡ true → Stood p (is_change (role p a))) → (y ≡ true → below_change p ≡ true) → below_change (a ∷ p) ≡ true
    at true y e h k = from_stood (h refl)
    at false y e h k = or_right (is_change (role p a)) (below_change p) (k e)
came_change old new (freed {old = p} {new = n} a c t q) e = or_right (is_change (role p a)) (below_change p) (came_change p new c e)
came_change old new (restored {old = p} {new = n} a b ch f c l k r) e = restored_change a ch f p r
came_change old new (joins {old = p} {new = n} b c h) e =
    came_change p n c (rw (change_role n b ∙ ap (at_props n) (by_name (λ t. prop_of t ≡ None) "p" b h refl)) at e)

-- Rule 8 holds of an element by its ancestors in the result
pub came_8 : (old new : List Tag) (a b : Tag) (kids other : Nodes) → Came old new → Like a b → test_8 old a kids ≡ true → test_8 new b other ≡ true
came_8 old new a b kids other c l h =
    implies_from _ _ (λ p. not_of (below_change new) (λ q. not_to (below_change old) (implies_of _ _ h
    (rw (like_prop a b l, like_any ("p" ∷ "tbl" ∷ "tr" ∷ "tc" ∷ "txbxContent" ∷ []) a b l refl) at p)) (came_change old new c q)))
