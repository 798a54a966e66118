-- Elements with a tag in lists that are put together.
use Rattle.std.proofs.Common.{◌≡◌, List, [], ◌∷◌, Bool, true, false, ◌&&◌, ◌||◌, not, ◌⊎◌, inl, inr, Option, Some, None, refl, sym, ap, ◌∙◌, true≢false, if◌then◌else◌}
use Rattle.std.proofs.lemmas.Bool.{false_from_ne_true}
use Rattle.redl_laws.proofs.Survival.Stories.{AreLoud}
use Rattle.redl_stays_sound.specs.Staying.{HasTag}
use Rattle.redl_tree.proofs.Decisions.PassLaws.{Takes, takes-next}
use Rattle.redl_tree.proofs.Roles.Named.{by_name}
use Rattle.redl_tree.specs.Decisions.Groups.{GroupPiece, given, grouped_from, has_thick, held_by, joined_kids, joined_tag, para, paragraph_next, taken, thick, thin, unjoined_para}
use Rattle.redl_tree.specs.Model.Kids.{has_element, only, without}
use Rattle.redl_tree.specs.Model.Nodes.{Nodes, Tag, bytes, element, no_nodes, ◌⊕◌}
use Rattle.redl_tree.specs.Roles.Names.{is}
use Rattle.redl_tree.specs.Roles.Places.{is_quiet}

-- an element whose name passes has the tag, or holds it
abbrev pub HasIf : (Tag → Bool) → Tag → Nodes → Type 0
HasIf names tag no_nodes = ⊥
HasIf names tag (bytes b rest) = HasIf names tag rest
HasIf names tag (element own kids rest) = ((names own ≡ true) × ((own ≡ tag) ⊎ HasTag tag kids)) ⊎ HasIf names tag rest

-- an element that is no `pPr`
abbrev pub is_beside : Tag → Bool
is_beside tag = not (is "pPr" tag)

abbrev pub HasBeside : Tag → Nodes → Type 0
HasBeside tag nodes = HasIf is_beside tag nodes

-- ---- two lists, and lists with some elements

pub if-has : (names : Tag → Bool) (tag : Tag) (xs : Nodes) → HasIf names tag xs → HasTag tag xs
if-has names tag (bytes b rest) h = if-has names tag rest h
if-has names tag (element own kids rest) (inl h) = inl h.1
if-has names tag (element own kids rest) (inr h) = inr (if-has names tag rest h)
if-has names tag no_nodes h = absurd h

pub has-left : (tag : Tag) (xs ys : Nodes) → HasTag tag xs → HasTag tag (xs ⊕ ys)
has-left tag no_nodes ys h = absurd h
has-left tag (bytes b rest) ys h = has-left tag rest ys h
has-left tag (element own kids rest) ys (inl h) = inl h
has-left tag (element own kids rest) ys (inr h) = inr (has-left tag rest ys h)

pub has-right : (tag : Tag) (xs ys : Nodes) → HasTag tag ys → HasTag tag (xs ⊕ ys)
has-right tag no_nodes ys h = h
has-right tag (bytes b rest) ys h = has-right tag rest ys h
has-right tag (element own kids rest) ys h = inr (has-right tag rest ys h)

pub if-left : (names : Tag → Bool) (tag : Tag) (xs ys : Nodes) → HasIf names tag xs → HasIf names tag (xs ⊕ ys)
if-left names tag no_nodes ys h = absurd h
if-left names tag (bytes b rest) ys h = if-left names tag rest ys h
if-left names tag (element own kids rest) ys (inl h) = inl h
if-left names tag (element own kids rest) ys (inr h) = inr (if-left names tag rest ys h)

pub if-right : (names : Tag → Bool) (tag : Tag) (xs ys : Nodes) → HasIf names tag ys → HasIf names tag (xs ⊕ ys)
if-right names tag no_nodes ys h = h
if-right names tag (bytes b rest) ys h = if-right names tag rest ys h
if-right names tag (element own kids rest) ys h = inr (if-right names tag rest ys h)

pub if-only : (names : Tag → Bool) (tag : Tag) (xs : Nodes) → HasIf names tag xs → HasTag tag (only names xs)
if-only names tag no_nodes h = absurd h
if-only names tag (bytes b rest) h = if-only names tag rest h
if-only names tag (element own kids rest) (inl h) = at (names own) h.0
  where
    at : (b : Bool) → b ≡ true → HasTag tag (if b then element own kids (only names rest) else only names rest)
    at true e = inl h.1
    at false e = absurd (true≢false (sym e))
if-only names tag (element own kids rest) (inr h) = at (names own) (if-only names tag rest h)
  where
    at : (b : Bool) → HasTag tag (only names rest) → HasTag tag (if b then element own kids (only names rest) else only names rest)
    at true later = inr later
    at false later = later

pub beside-without : (tag : Tag) (xs : Nodes) → HasBeside tag xs → HasBeside tag (without (is "pPr") xs)
beside-without tag no_nodes h = absurd h
beside-without tag (bytes b rest) h = beside-without tag rest h
beside-without tag (element own kids rest) (inl h) = at (is "pPr" own) refl h.0
  where
    at : (b : Bool) → is "pPr" own ≡ b → not b ≡ true → HasBeside tag (if b then without (is "pPr") rest else element own kids (without (is "pPr") rest))
    at true e n = absurd (true≢false (sym n))
    at false e n = inl (ap not e, h.1)
beside-without tag (element own kids rest) (inr h) = at (is "pPr" own) (beside-without tag rest h)
  where
    at : (b : Bool) → HasBeside tag (without (is "pPr") rest) → HasBeside tag (if b then without (is "pPr") rest else element own kids (without (is "pPr") rest))
    at true later = later
    at false later = inr later

-- what a list has is in its `pPr`s or beside them
has-split : (tag : Tag) (xs : Nodes) → HasTag tag xs → HasTag tag (only (is "pPr") xs) ⊎ HasBeside tag xs
has-split tag no_nodes h = absurd h
has-split tag (bytes b rest) h = has-split tag rest h
has-split tag (element own kids rest) (inl h) = at (is "pPr" own) refl
  where
    at : (b : Bool) → is "pPr" own ≡ b → HasTag tag (if b then element own kids (only (is "pPr") rest) else only (is "pPr") rest) ⊎ HasBeside tag (element own kids rest)
    at true e = inl (inl h)
    at false e = inr (inl (ap not e, h))
has-split tag (element own kids rest) (inr h) = at (is "pPr" own) (has-split tag rest h)
  where
    at : (b : Bool) → HasTag tag (only (is "pPr") rest) ⊎ HasBeside tag rest
        → HasTag tag (if b then element own kids (only (is "pPr") rest) else only (is "pPr") rest) ⊎ HasBeside tag (element own kids rest)
    at true (inl later) = inl (inr later)
    at false (inl later) = inl later
    at b (inr later) = inr (inr later)

-- ---- pieces

-- a paragraph that is cut has it beside its properties
abbrev pub PieceHas : Tag → GroupPiece → Type 0
PieceHas tag (para own cut kids) = HasBeside tag kids ⊎ ((cut ≡ false) × HasTag tag kids)
PieceHas tag (thin nodes) = HasBeside tag nodes
PieceHas tag (thick nodes) = HasBeside tag nodes

abbrev pub PiecesHave : Tag → List GroupPiece → Type 0
PiecesHave tag [] = ⊥
PiecesHave tag (p ∷ ps) = PieceHas tag p ⊎ PiecesHave tag ps

abbrev HeldHas : Tag → Option Nodes → Type 0
HeldHas tag None = ⊥
HeldHas tag (Some held) = HasBeside tag held

quiet_no_pPr : (tag : Tag) → is_quiet tag ≡ false → is_beside tag ≡ true
quiet_no_pPr tag loud = ap not (false_from_ne_true (is "pPr" tag) (λ e. true≢false (sym (by_name (λ t. is_quiet t ≡ true) "pPr" tag e refl) ∙ loud)))

beside-joined_tag : (held : Option Nodes) (tag : Tag) → is_beside tag ≡ true → is_beside (joined_tag held tag) ≡ true
beside-joined_tag None tag e = e
beside-joined_tag (Some held) tag e = e

-- what a paragraph has beside its properties
unjoined-beside : (tag own : Tag) (ends : Bool) (kids : Nodes) → is_beside own ≡ true → HasBeside tag kids → HasBeside tag (unjoined_para ends own kids)
unjoined-beside tag own ends kids e h = at (ends && not (has_element (without (is "pPr") kids)))
  where
    at : (b : Bool) → HasBeside tag (if b then without (is "pPr") kids else element own kids no_nodes)
    at true = beside-without tag kids h
    at false = inl (e, inr (if-has is_beside tag kids h))

unjoined-any : (tag own : Tag) (followed : Bool) (kids : Nodes) → is_beside own ≡ true → HasTag tag kids → HasBeside tag (unjoined_para (false && followed) own kids)
unjoined-any tag own followed kids e h = inl (e, inr h)

joined-held : (tag : Tag) (held : Option Nodes) (kids : Nodes) → HeldHas tag held → HasBeside tag (joined_kids held kids)
joined-held tag None kids h = absurd h
joined-held tag (Some held) kids h = if-right is_beside tag (only (is "pPr") kids) (held ⊕ without (is "pPr") kids) (if-left is_beside tag held (without (is "pPr") kids) h)

joined-beside : (tag : Tag) (held : Option Nodes) (kids : Nodes) → HasBeside tag kids → HasBeside tag (joined_kids held kids)
joined-beside tag None kids h = h
joined-beside tag (Some held) kids h =
    if-right is_beside tag (only (is "pPr") kids) (held ⊕ without (is "pPr") kids)
    (if-right is_beside tag held (without (is "pPr") kids) (beside-without tag kids h))

joined-any : (tag : Tag) (held : Option Nodes) (kids : Nodes) → HasTag tag kids → HasTag tag (joined_kids held kids)
joined-any tag None kids h = h
joined-any tag (Some held) kids h = at (has-split tag kids h)
  where
    at : HasTag tag (only (is "pPr") kids) ⊎ HasBeside tag kids → HasTag tag (only (is "pPr") kids ⊕ (held ⊕ without (is "pPr") kids))
    at (inl first) = has-left tag (only (is "pPr") kids) (held ⊕ without (is "pPr") kids) first
    at (inr later) = if-has is_beside tag (only (is "pPr") kids ⊕ (held ⊕ without (is "pPr") kids)) (joined-beside tag (Some held) kids later)

taken-held : (tag : Tag) (held : Option Nodes) (nodes : Nodes) → HeldHas tag held → HasBeside tag (taken held nodes)
taken-held tag None nodes h = absurd h
taken-held tag (Some held) nodes h = if-left is_beside tag held (without (is "pPr") nodes) h

taken-beside : (tag : Tag) (held : Option Nodes) (nodes : Nodes) → HasBeside tag nodes → HasBeside tag (taken held nodes)
taken-beside tag None nodes h = beside-without tag nodes h
taken-beside tag (Some held) nodes h = if-right is_beside tag held (without (is "pPr") nodes) (beside-without tag nodes h)

-- ---- one piece, given what is held

abbrev Goes : Tag → GroupPiece → Option Nodes → Bool → Bool → Type 0
Goes tag p held joined followed = HasBeside tag (given p held joined followed) ⊎ HeldHas tag (held_by p held joined)

joins-cut : (cut : Bool) (next : Bool) → (cut && next) ≡ true → cut ≡ true
joins-cut true next e = refl
joins-cut false next e = absurd (true≢false (sym e))

para-goes : (tag own : Tag) (cut : Bool) (kids : Nodes) (held : Option Nodes) (joined next followed : Bool) → (cut && next) ≡ joined → is_quiet own ≡ false
    → HeldHas tag held ⊎ PieceHas tag (para own cut kids) → Goes tag (para own cut kids) held joined followed
para-goes tag own cut kids held true next followed e loud (inl h) = inr (taken-held tag held kids h)
para-goes tag own cut kids held true next followed e loud (inr (inl h)) = inr (taken-beside tag held kids h)
para-goes tag own cut kids held true next followed e loud (inr (inr h)) = absurd (true≢false (sym (joins-cut cut next e) ∙ h.0))
para-goes tag own cut kids held false next followed e loud (inl h) =
    inl (unjoined-beside tag (joined_tag held own) (cut && followed) (joined_kids held kids) (beside-joined_tag held own (quiet_no_pPr own loud)) (joined-held tag held kids h))
para-goes tag own cut kids held false next followed e loud (inr (inl h)) =
    inl (unjoined-beside tag (joined_tag held own) (cut && followed) (joined_kids held kids) (beside-joined_tag held own (quiet_no_pPr own loud)) (joined-beside tag held kids h))
para-goes tag own cut kids held false next followed e loud (inr (inr h)) = inl (uncut cut h.0)
  where
    uncut : (cut : Bool) → cut ≡ false → HasBeside tag (unjoined_para (cut && followed) (joined_tag held own) (joined_kids held kids))
    uncut true e = absurd (true≢false e)
    uncut false e = unjoined-any tag (joined_tag held own) followed (joined_kids held kids) (beside-joined_tag held own (quiet_no_pPr own loud)) (joined-any tag held kids h.1)

-- ---- a whole list

pub grouped-has : (tag : Tag) (followed : Bool) (held : Option Nodes) (ps : List GroupPiece) → AreLoud ps → Takes held ps → HeldHas tag held ⊎ PiecesHave tag ps
    → HasBeside tag (grouped_from followed held ps)
grouped-has tag followed None [] loud t (inl h) = absurd h
grouped-has tag followed None [] loud t (inr h) = absurd h
grouped-has tag followed (Some held) [] loud t h = absurd (true≢false (sym t))
grouped-has tag followed held (para own cut kids ∷ ps) loud t h =
    at h (grouped-has tag followed (held_by (para own cut kids) held (cut && paragraph_next ps)) ps loud.1 (takes-next (para own cut kids) held ps t))
  where
    after : Nodes
    after = grouped_from followed (held_by (para own cut kids) held (cut && paragraph_next ps)) ps

    first : Nodes
    first = given (para own cut kids) held (cut && paragraph_next ps) (has_thick ps || followed)

    put : Goes tag (para own cut kids) held (cut && paragraph_next ps) (has_thick ps || followed)
        → (HeldHas tag (held_by (para own cut kids) held (cut && paragraph_next ps)) ⊎ PiecesHave tag ps → HasBeside tag after) → HasBeside tag (first ⊕ after)
    put (inl here) later = if-left is_beside tag first after here
    put (inr held) later = if-right is_beside tag first after (later (inl held))

    at : HeldHas tag held ⊎ (PieceHas tag (para own cut kids) ⊎ PiecesHave tag ps)
        → (HeldHas tag (held_by (para own cut kids) held (cut && paragraph_next ps)) ⊎ PiecesHave tag ps → HasBeside tag after) → HasBeside tag (first ⊕ after)
    at (inl h) later = put (para-goes tag own cut kids held (cut && paragraph_next ps) (paragraph_next ps) (has_thick ps || followed) refl loud.0 (inl h)) later
    at (inr (inl h)) later = put (para-goes tag own cut kids held (cut && paragraph_next ps) (paragraph_next ps) (has_thick ps || followed) refl loud.0 (inr h)) later
    at (inr (inr h)) later = if-right is_beside tag first after (later (inr h))
grouped-has tag followed None (thin nodes ∷ ps) loud t (inl h) = absurd h
grouped-has tag followed None (thin nodes ∷ ps) loud t (inr (inl h)) = if-left is_beside tag nodes (grouped_from followed None ps) h
grouped-has tag followed None (thin nodes ∷ ps) loud t (inr (inr h)) =
    if-right is_beside tag nodes (grouped_from followed None ps) (grouped-has tag followed None ps loud.1 tt (inr h))
grouped-has tag followed (Some held) (thin nodes ∷ ps) loud t (inl h) = grouped-has tag followed (Some (taken (Some held) nodes)) ps loud.1 t (inl (taken-held tag (Some held) nodes h))
grouped-has tag followed (Some held) (thin nodes ∷ ps) loud t (inr (inl h)) = grouped-has tag followed (Some (taken (Some held) nodes)) ps loud.1 t (inl (taken-beside tag (Some held) nodes h))
grouped-has tag followed (Some held) (thin nodes ∷ ps) loud t (inr (inr h)) = grouped-has tag followed (Some (taken (Some held) nodes)) ps loud.1 t (inr h)
grouped-has tag followed None (thick nodes ∷ ps) loud t (inl h) = absurd h
grouped-has tag followed (Some held) (thick nodes ∷ ps) loud t h = absurd (true≢false (sym t))
grouped-has tag followed None (thick nodes ∷ ps) loud t (inr (inl h)) = if-left is_beside tag nodes (grouped_from followed None ps) h
grouped-has tag followed None (thick nodes ∷ ps) loud t (inr (inr h)) =
    if-right is_beside tag nodes (grouped_from followed None ps) (grouped-has tag followed None ps loud.1 tt (inr h))

-- ---- a list without paragraphs

abbrev pub NoParas : List GroupPiece → Type 0
NoParas [] = Unit {0}
NoParas (para own cut kids ∷ ps) = ⊥
NoParas (thin nodes ∷ ps) = NoParas ps
NoParas (thick nodes ∷ ps) = NoParas ps

-- what each piece gives has it under such a name
abbrev pub PiecesHaveIf : (Tag → Bool) → Tag → List GroupPiece → Type 0
PiecesHaveIf names tag [] = ⊥
PiecesHaveIf names tag (para own cut kids ∷ ps) = PiecesHaveIf names tag ps
PiecesHaveIf names tag (thin nodes ∷ ps) = HasIf names tag nodes ⊎ PiecesHaveIf names tag ps
PiecesHaveIf names tag (thick nodes ∷ ps) = HasIf names tag nodes ⊎ PiecesHaveIf names tag ps

pub alone-has : (names : Tag → Bool) (tag : Tag) (followed : Bool) (ps : List GroupPiece) → NoParas ps → PiecesHaveIf names tag ps → HasIf names tag (grouped_from followed None ps)
alone-has names tag followed [] none h = absurd h
alone-has names tag followed (para own cut kids ∷ ps) none h = absurd none
alone-has names tag followed (thin nodes ∷ ps) none (inl h) = if-left names tag nodes (grouped_from followed None ps) h
alone-has names tag followed (thin nodes ∷ ps) none (inr h) = if-right names tag nodes (grouped_from followed None ps) (alone-has names tag followed ps none h)
alone-has names tag followed (thick nodes ∷ ps) none (inl h) = if-left names tag nodes (grouped_from followed None ps) h
alone-has names tag followed (thick nodes ∷ ps) none (inr h) = if-right names tag nodes (grouped_from followed None ps) (alone-has names tag followed ps none h)
